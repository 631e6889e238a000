-- A module that is built anew, from the end of its globals to the reply.
use Rattle.std.proofs.Common.{◌≡◌, ◌<◌, refl, ap, sym, ◌∙◌, subst, arith, ℕ, Bool, true, false, List, [], length, Option, Some, None, map, option_map}
use Rattle.std.proofs.lemmas.List.{length-map}
use Rattle.std.specs.Prelude.{Result, Ok, Err, OnOk, OnErr, IfOk, Vec, if◌then◌else◌, slice_index_or, slice_set}
use Rattle.std.specs.List.{AllZip}
use Rattle.std.specs.declared.alloc.Global.{Global}
use Rattle.ang_kinds.specs.declared.mask.Mask.{Mask}
use Rattle.ang_host.specs.Logs.{listed_in, is_heard}
use Rattle.ang_host.specs.declared.event_buffer.EventBuffer.{EventBuffer}
use Rattle.ang_host.specs.declared.event.HostEvent.{HostEvent}
use Rattle.ang_host.specs.declared.event.Role.{Role}
use Rattle.ang_host.specs.Boxes.{members}
use Rattle.ang_host.specs.Meanings.{Meanings}
use Rattle.ang_host.proofs.Events.{AllFollow-length}
use Rattle.ang_view.specs.Only.{IsWithin}
use Rattle.ang_view.specs.Registration.{RegistrationList, seen}
use Rattle.ang_view.proofs.Keeping.{only_within}
use Rattle.ang_typed.specs.View.{view_typed}
use Rattle.ang_typed.specs.Uses.{uses}
use Rattle.ang_engine_build.specs.Narrowed.{is_among, narrowed}
use Rattle.ang_meaning.specs.World.{Input, World as RunWorld, with_inputs}
use Rattle.ang_meaning.specs.Told.{answers_listed}
use Rattle.ang_meaning.specs.Counting.{IsCounted}
use Rattle.ang_heap.specs.declared.store.Store.{Store}
use Rattle.ang_heap.specs.Globals.{values_in}
use Rattle.ang_heap.specs.Stores.{world_of, IsReady, StoreMoves}
use Rattle.ang_engine_build.specs.declared.program.NoProgram.{NoProgram}
use Rattle.ang_engine_build.specs.declared.program.NoProgram.TheVariants as no
use Rattle.ang_engine_build.specs.Answer.{HasDenials}
use Rattle.ang_engine_build.specs.Build.{build_of, denials_in}
use Rattle.ang_engine_modules.specs.declared.modules.LoadedModule.{LoadedModule}
use Rattle.ang_engine_modules.specs.Loaded.{loaded_at, modules_of, without_links, unbound_in}
use Rattle.ang_engine_modules.specs.Modules.{Module as RunModule, AreDriversThere}
use Rattle.ang_engine.specs.declared.building.BuildRefused.{BuildRefused}
use Rattle.ang_engine.specs.declared.building.BuildRefused.TheVariants as why
use Rattle.ang_engine_modules.specs.declared.module.Module.{Module}
use Rattle.ang_engine_modules.specs.declared.reply.Refusal.TheVariants.{BadBudget}
use Rattle.ang_engine_modules.specs.Sound.{HasSameName}
use Rattle.ang_engine_modules.specs.World.{Program, ModuleState, ModuleStates, World, module_named, module_in, module_at, built_in, placed, all_unbound_from, running, left_to, globals_ended}
use Rattle.ang_engine_modules.specs.States.{program_in, place_of, places_of}
use Rattle.ang_engine.specs.Roles.{roles_of}
use Rattle.ang_engine.proofs.Roles.{own_roles}
use Rattle.ang_engine.specs.Step.{Leads, emptied, with_program, build, build_within, is_budget}
use Rattle.ang_engine_modules.specs.Commands.{refused}
use Rattle.ang_engine.specs.Sound.{IsBuiltBy, IsSoundPlace, HaveDrivers}
use Rattle.ang_engine.specs.Asked.{HasRunOn, HasAsked}
use Rattle.ang_engine.specs.Outcomes.{IsCompiled, HasStarted, refused_by, reply_to_build, building}
use Rattle.ang_engine_modules.proofs.PlaceLists.{set_length}
use Rattle.ang_engine_modules.proofs.Worlds.{places_at, zip_length}
use Rattle.ang_engine_modules.proofs.Keeping.{was_there}
use Rattle.ang_engine.proofs.Unloading.{unbound_twice, emptied_place}
use Rattle.ang_engine.proofs.Entries.{AreApart, roles_agree, drivers_there}
use Rattle.ang_engine_modules.proofs.Finding.{on_module-found}
use Rattle.ang_engine.proofs.Between.{left_without, run_begins}
use Rattle.ang_engine.proofs.Asking.{run-join, run-ended, asked-run, asked-ends}
use Rattle.ang_engine.proofs.Starting.{none_there, ended_silent, ended_lengths}
use Rattle.ang_engine.proofs.Emptied.{before, refused_states, refused_zip, begun_states, begun_zip, begun_built}
use Rattle.ang_engine.proofs.Builds.{build-refused, build-begun, IsPlacedBy}

-- ---- what its sections build to

-- what is built of a module is of its name, and of what its mask shows
pub waiting-built : (R : RegistrationList) (n : Module) (r : Result LoadedModule NoProgram) (name : List ℕ) (mask : Mask) (sections : List (List ℕ)) → name ≡ n.name → mask ≡ n.built_mask
    → IsCompiled r (build_of (seen R mask.0) sections) → IfOk r (λ l. l.name ≡ name) → IfOk r (λ l. l.view ≡ narrowed (seen R mask.0) (view_typed l.tree)) → IfOk r (λ l. IsBuiltBy R n.name n.built_mask.0 l)
unfolding narrowed
waiting-built R n (Ok l) name mask sections same shown c named view =
    let here : l.view ≡ narrowed (seen R n.built_mask.0) (view_typed l.tree) = view ∙ ap (λ (k : Mask). narrowed (seen R k.0) (view_typed l.tree)) shown in
    record {
      name = named ∙ same;
      sight = seen R n.built_mask.0;
      sections = sections;
      built = ap (λ (k : Mask). build_of (seen R k.0) sections) (sym shown) ∙ c;
      view = here;
      stands = subst (λ V. IsWithin V (seen R n.built_mask.0)) (sym here) (only_within (is_among (uses (view_typed l.tree))) (seen R n.built_mask.0));
    }
waiting-built R n (Err e) name mask sections same shown c named view = tt

-- ---- the reply

-- the reply to a build that has begun lists what it has listed
started_events : {U : Type 0} (r : Result U BuildRefused) (xs : List RunModule) (i budget : ℕ) (p : Program) (u v : RunWorld) (es : List HostEvent) → HasStarted xs i budget p u r v
    → (reply_to_build r es).events ≡ es
started_events (Ok x) xs i budget p u v es h = refl
started_events (Err (why.Before refusal)) xs i budget p u v es h = absurd h
started_events (Err why.Memory) xs i budget p u v es h = refl
started_events (Err (why.Errors errors ds)) xs i budget p u v es h = absurd h
started_events (Err (why.Initializer f)) xs i budget p u v es h = refl

refused_events : (U : Type 0) (e : NoProgram) (es : List HostEvent) → (reply_to_build {U = U} (Err (refused_by e)) es).events ≡ es
refused_events U (no.Errors errors ds) es = refl
refused_events U no.Memory es = refl

-- ---- a module by its name

module _ (R : RegistrationList) (name : List ℕ) (budget : ℕ) (w : World) (i : ℕ) (rest : List Input) (found : Some i ≡ module_named name w) where
  building-by : (b : Bool) → is_budget budget ≡ b
      → building R name budget w rest ≡ (if b then (build R w i (module_at w i) budget rest) else (refused BadBudget w rest))
  building-by b e =
      on_module-found name w i rest (build_within budget R w) found ∙ ap (λ b. if b then (build R w i (module_at w i) budget rest) else (refused BadBudget w rest)) e

  pub building-found : is_budget budget ≡ true → building R name budget w rest ≡ build R w i (module_at w i) budget rest
  building-found e = building-by true e

  pub building-refused : is_budget budget ≡ false → building R name budget w rest ≡ refused BadBudget w rest
  building-refused e = building-by false e

-- ---- from the end of its globals on

-- a module of the same name stands in its place
pub apart_still : (ms : List (Option Module)) (home : ℕ) (n : Option Module) → HasSameName (slice_index_or ms home None) n → AreApart ms → AreApart (slice_set ms home n)
apart_still ms home n named apart = λ i j p q at bt same.
    let a = was_there ms home n named i p at in
    let b = was_there ms home n named j q bt in
    apart i j a.own b.own a.there b.there (sym a.name ∙ same ∙ b.name)

-- Where a place has a name of its own, and nothing is built in it.
pub unbuilt_place : (R : RegistrationList) (n : Option Module) → IsSoundPlace R n None
unbuilt_place R None = tt
unbuilt_place R (Some m) = tt

-- The place `home` among these, d before and n after: its globals have ended, its code is gone, and no import leads to it.
module _ {V : Type 0} {P : V → Type 0} (m : Meanings P) (R : RegistrationList) (ms : List (Option Module)) (ls cs : List (Option LoadedModule)) (order : List ℕ) (home budget : ℕ) (n d : Option Module)
    (s t : Store V P) (es fs : EventBuffer) (zip : AllZip (IsSoundPlace R) ms ls) (lt : home < length ms) (at : slice_index_or ms home None ≡ d)
    (cleared : cs ≡ unbound_in home (slice_set ls home None)) (first : listed_in es ≡ [])
    (ended : (is : List Input) → globals_ended home (with_inputs is (world_of m (record s { events = es }))) ≡ with_inputs is (world_of m (record t { events = fs })))
    (moves : (roles : List Role) → StoreMoves m roles (record s { events = es }) (record t { events = fs })) where
  -- the modules after it, with what is built of them
  abbrev pub states_by : List (Option LoadedModule) → ModuleStates
  states_by ks = record { places = places_of (slice_set ms home n) ks; order = order }

  -- the world before, and the one after the end of its globals
  abbrev pub old : World
  old = left_to (record { places = places_of ms ls; order = order }) (world_of m s)

  abbrev pub now : RunWorld
  now = world_of m (record t { events = fs })

  has_ended : (is : List Input) → globals_ended home (running old is) ≡ with_inputs is now
  has_ended is = ap (globals_ended home) (run_begins m (record { places = places_of ms ls; order = order }) s es is first) ∙ ended is

  silent : answers_listed now.events ≡ []
  silent = sym (ended_silent home (running old []) now (has_ended []))

  -- ---- what its start takes

  pub globals-there : map length (values_in t.globals) ≡ slice_set (map length (values_in s.globals)) home 0
  globals-there = ended_lengths home (running old []) now (has_ended [])

  pub empty-there : loaded_at cs home ≡ None
  empty-there = ap (λ l. loaded_at l home) cleared ∙ emptied_place home ls home

  pub none-there : slice_index_or (values_in t.globals) home [] ≡ []
  none-there = none_there home (running old []) now (has_ended [])

  pub ready-there : IsReady m (record s { events = es }) → IsReady m (record t { events = fs })
  ready-there r = (moves []).ready r

  pub counted-there : IsCounted [] (world_of m (record s { events = es })) → IsCounted [] now
  counted-there h = (run-ended m [] home (record s { events = es }) (record t { events = fs }) (ended []) moves).counted h

  cleared_length : length cs ≡ length ms
  cleared_length =
      ap length cleared ∙ length-map (slice_set ls home None) (option_map (without_links home)) ∙ set_length ls home None ∙ zip_length (IsSoundPlace R) ms ls zip

  pub within-there : home < length cs
  within-there = omega (arith, lt, cleared_length)

  pub free-there : unbound_in home cs ≡ cs
  free-there = ap (unbound_in home) cleared ∙ unbound_twice home (slice_set ls home None) ∙ sym cleared

  drivers_kept : length (members t.drivers) ≡ length (members s.drivers)
  drivers_kept = AllFollow-length _ _ _ [] (members s.drivers) (members t.drivers) _ (moves []).parts.follow

  module _ (empty : (l : Option LoadedModule) → place_of n None ≡ Some (emptied (module_in (place_of d l)))) where
    pub empty_here : (l : Option LoadedModule) → place_of n None ≡ Some (emptied (module_in (place_of (slice_index_or ms home None) l)))
    empty_here l = empty l ∙ ap (λ q. Some (emptied (module_in (place_of q l)))) (sym at)

    -- the module as it was
    abbrev pub it : ModuleState
    it = before R ms ls home n order zip empty_here (unbuilt_place R n)

    it_stood : module_at old home ≡ it
    it_stood = ap module_in (places_at ms ls home)

    left_emptied : states_by cs ≡ placed (all_unbound_from home old) home (emptied it)
    left_emptied = ap states_by cleared ∙ ap (λ ps. record { places = ps; order = order }) (refused_states R ms ls home n order zip empty_here (unbuilt_place R n))

    left_sound : AllZip (IsSoundPlace R) (slice_set ms home n) cs
    left_sound = subst (λ q. AllZip (IsSoundPlace R) (slice_set ms home n) q) (sym cleared) (refused_zip R ms ls home n order zip empty_here (unbuilt_place R n))

    -- ---- its sections build to no program

    pub refused-leads : (U : Type 0) (e : NoProgram) (x : BuildRefused) → x ≡ refused_by e
        → ((l : Option LoadedModule) → IsCompiled (Err e) (build_of (seen R (module_in (place_of d l)).mask) (module_in (place_of d l)).sections))
        → ((l : Option LoadedModule) → HasDenials {A = LoadedModule} (Err e) (denials_in R (module_in (place_of d l)).mask (module_in (place_of d l)).sections))
        → Leads (build R old home (module_at old home) budget) (reply_to_build {U = U} (Err x) (listed_in fs)) (left_to (states_by cs) (world_of m t))
    refused-leads U e x is c denied =
        let l = slice_index_or ls home None in
        subst (λ v. Leads (build R old home (module_at old home) budget) (reply_to_build {U = U} (Err x) (listed_in fs)) v) (left_without m (states_by cs) t fs)
        (subst (λ q. Leads (build R old home (module_at old home) budget) (reply_to_build {U = U} (Err q) (listed_in fs)) (left_to (states_by cs) now)) (sym is)
        (subst (λ q. Leads (build R old home q budget) (reply_to_build {U = U} (Err (refused_by e)) (listed_in fs)) (left_to (states_by cs) now)) (sym it_stood)
        (subst (λ ss. Leads (build R old home it budget) (reply_to_build {U = U} (Err (refused_by e)) (listed_in fs)) (left_to ss now)) (sym left_emptied)
        (build-refused R old home it budget now has_ended silent U e
        (subst (λ q. IsCompiled (Err e) (build_of (seen R (module_in (place_of q l)).mask) (module_in (place_of q l)).sections)) (sym at) (c l))
        (subst (λ q. HasDenials {A = LoadedModule} (Err e) (denials_in R (module_in (place_of q l)).mask (module_in (place_of q l)).sections)) (sym at) (denied l))))))

    pub refused-asked : (U : Type 0) (e : NoProgram) (x : BuildRefused) → x ≡ refused_by e → (w : World) → IsReady m (record s { events = es }) → IsCounted [] (world_of m s)
        → HasAsked m R w (reply_to_build {U = U} (Err x) (listed_in fs)).events s t
    refused-asked U e x is w ready counted =
        subst (λ l. HasAsked m R w l s t) (sym (ap (λ q. (reply_to_build {U = U} (Err q) (listed_in fs)).events) is ∙ refused_events U e (listed_in fs)))
        (asked-ends m R s t es fs first ready counted w (run-ended m [] home (record s { events = es }) (record t { events = fs }) (ended []) moves))

    pub refused-sound : AllZip (IsSoundPlace R) (slice_set ms home n) cs
    refused-sound = left_sound

    -- ---- they build to a program

    module _ (l : LoadedModule) (built : IsSoundPlace R n (Some l)) where
      abbrev pub with_it : List (Option LoadedModule)
      with_it = slice_set cs home (Some l)

      sound_with : AllZip (IsSoundPlace R) (slice_set ms home n) with_it
      sound_with =
          subst (λ q. AllZip (IsSoundPlace R) (slice_set ms home n) (slice_set q home (Some l))) (sym cleared) (begun_zip R ms ls home n order zip empty_here (unbuilt_place R n) l built)

      states_with : states_by with_it ≡ placed (all_unbound_from home old) home (with_program (program_in l) it)
      states_with =
          ap (λ q. states_by (slice_set q home (Some l))) cleared
          ∙ ap (λ ps. record { places = ps; order = order }) (begun_states R ms ls home n order zip empty_here (unbuilt_place R n) l)

      built_with : built_in (placed (all_unbound_from home old) home (with_program (program_in l) it)) ≡ modules_of with_it
      built_with = begun_built R ms ls home n order zip empty_here (unbuilt_place R n) l built ∙ ap (λ q. modules_of (slice_set q home (Some l))) (sym cleared)

      pub begun-drivers : HaveDrivers R (length (members s.drivers)) → AreDriversThere (modules_of with_it) (length (members t.drivers))
      begun-drivers have = drivers_there R (slice_set ms home n) with_it (length (members t.drivers)) sound_with (subst (λ k. HaveDrivers R k) (sym drivers_kept) have)

      pub begun-sound : {U : Type 0} (r : Result U BuildRefused) (ks : List (Option LoadedModule)) → OnOk r (ks ≡ with_it) → OnErr r (ks ≡ cs) → AllZip (IsSoundPlace R) (slice_set ms home n) ks
      begun-sound (Ok x) ks ok err = subst (λ q. AllZip (IsSoundPlace R) (slice_set ms home n) q) (sym ok) sound_with
      begun-sound (Err e) ks ok err = subst (λ q. AllZip (IsSoundPlace R) (slice_set ms home n) q) (sym err) left_sound

      -- events are heard as before
      pub begun-heard : (u : Store V P) (gs : EventBuffer) → HasRunOn m (modules_of with_it) (record t { events = fs }) (record u { events = gs }) → is_heard gs ≡ is_heard es
      begun-heard u gs ran = (ran.moves (roles_of R) (roles_agree (roles_of R) R (slice_set ms home n) with_it (own_roles R) sound_with)).heard ∙ (moves []).heard

      pub begun-asked : {U : Type 0} (r : Result U BuildRefused) (ks : List (Option LoadedModule)) (u : Store V P) (gs : EventBuffer) → AreApart (slice_set ms home n)
          → HasStarted (modules_of with_it) home budget (program_in l) now r (world_of m (record u { events = gs }))
          → HasRunOn m (modules_of with_it) (record t { events = fs }) (record u { events = gs }) → IsReady m (record s { events = es }) → IsCounted [] (world_of m s)
          → HasAsked m R (left_to (states_by ks) (world_of m u)) (reply_to_build r (listed_in gs)).events s u
      begun-asked r ks u gs apart started ran ready counted =
          let w = left_to (states_by ks) (world_of m u) in
          subst (λ q. HasAsked m R w q s u) (sym (started_events r (modules_of with_it) home budget (program_in l) now (world_of m (record u { events = gs })) (listed_in gs) started))
          (asked-run m R s u es gs first ready counted (slice_set ms home n) with_it ks order (world_of m u) sound_with apart
          (run-join m (modules_of with_it) (record s { events = es }) (record t { events = fs }) (record u { events = gs })
          (run-ended m (modules_of with_it) home (record s { events = es }) (record t { events = fs }) (ended []) moves) ran))

      module _ (shown : (k : Option LoadedModule) → l.view ≡ narrowed (seen R (module_in (place_of d k)).mask) (view_typed l.tree)) where
        view_here : l.view ≡ narrowed (seen R it.mask) (view_typed l.tree)
        view_here =
            let k = slice_index_or ls home None in
            shown k ∙ ap (λ q. narrowed (seen R (module_in (place_of q k)).mask) (view_typed l.tree)) (sym at)

        module _ (unbound : l.links ≡ map (λ h. None) l.tree.imports)
            (c : (k : Option LoadedModule) → IsCompiled (Ok l) (build_of (seen R (module_in (place_of d k)).mask) (module_in (place_of d k)).sections)) where
          compiled_here : IsCompiled (Ok l) (build_of (seen R it.mask) it.sections)
          compiled_here =
              let k = slice_index_or ls home None in
              subst (λ q. IsCompiled (Ok l) (build_of (seen R (module_in (place_of q k)).mask) (module_in (place_of q k)).sections)) (sym at) (c k)

          placed_by : {U : Type 0} (r : Result U BuildRefused) (ks : List (Option LoadedModule)) → OnOk r (ks ≡ with_it) → OnErr r (ks ≡ cs)
              → IsPlacedBy R old home it budget now has_ended silent l view_here unbound compiled_here r (states_by ks)
          placed_by (Ok x) ks ok err = ap states_by ok ∙ states_with
          placed_by (Err e) ks ok err = ap states_by err ∙ left_emptied

          pub begun-leads : {U : Type 0} (r : Result U BuildRefused) (ks : List (Option LoadedModule)) (u : Store V P) (gs : EventBuffer) → OnOk r (ks ≡ with_it)
              → OnErr r (ks ≡ cs) → HasStarted (modules_of with_it) home budget (program_in l) now r (world_of m (record u { events = gs }))
              → Leads (build R old home (module_at old home) budget) (reply_to_build r (listed_in gs)) (left_to (states_by ks) (world_of m u))
          begun-leads r ks u gs ok err started =
              let y = world_of m (record u { events = gs }) in
              subst (λ v. Leads (build R old home (module_at old home) budget) (reply_to_build r (listed_in gs)) v) (left_without m (states_by ks) u gs)
              (subst (λ x. Leads (build R old home x budget) (reply_to_build r (listed_in gs)) (left_to (states_by ks) y)) (sym it_stood)
              (build-begun R old home it budget now has_ended silent l view_here unbound compiled_here r (modules_of with_it) y built_with started
              (λ end h. ended_silent home (with_inputs [] end) (with_inputs [] y) (h [])) (states_by ks) (placed_by r ks ok err)))
