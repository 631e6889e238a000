-- Checks of the sections that wait.
use Rattle.std.proofs.Common.{◌≡◌, ◌<◌, refl, ap, sym, ◌∙◌, subst, inl, inr, ℕ, zero, suc, true, false, List, [], ◌∷◌, length, map, Option, Some, None, option_map, arith}
use Rattle.std.specs.Prelude.{◌≢◌, Result, Ok, Err, IsSome, slice_index_or, slice_set}
use Rattle.ang_kinds.specs.declared.error.Denial.{Denial}
use Rattle.ang_kinds.specs.declared.error.Error.{Error}
use Rattle.ang_view.specs.Registration.{RegistrationList, seen}
use Rattle.ang_meaning.specs.World.{Input, Room, World as RunWorld}
use Rattle.ang_engine_build.specs.declared.program.NoProgram.{NoProgram}
use Rattle.ang_engine_build.specs.declared.program.NoProgram.TheVariants as no
use Rattle.ang_engine_build.specs.Answer.{HasDenials}
use Rattle.ang_engine_build.specs.Build.{Resolved, Built, Errors, Compiled, build_of, denials_in}
use Rattle.ang_engine_modules.specs.declared.modules.LoadedModule.{LoadedModule}
use Rattle.ang_engine_modules.specs.declared.module.Module.{Module}
use Rattle.ang_engine_modules.specs.declared.reply.Outcome.TheVariants.{Done, Refused}
use Rattle.ang_engine_modules.specs.declared.reply.Refusal.TheVariants.{NoModule, BuildMemory}
use Rattle.ang_engine_modules.specs.World.{ModuleState, World, module_named, module_in, module_at}
use Rattle.ang_engine_modules.specs.States.{place_of, places_of}
use Rattle.ang_engine_modules.specs.Commands.{reply_of}
use Rattle.ang_engine_modules.proofs.Finding.{on_module-found, on_module-none, with_places, here, stood}
use Rattle.ang_engine_modules.proofs.PlaceLists.{set_same, map_set, map_at, map_length}
use Rattle.ang_engine_modules.proofs.Worlds.{places_length, places_at, places_put}
use Rattle.ang_engine.specs.declared.building.BuildRefused.{BuildRefused}
use Rattle.ang_engine.specs.declared.building.BuildRefused.TheVariants as why
use Rattle.ang_engine.specs.Checking.{IsJudged, state_after, without_sections, beside_sections, after_check, check, checking}
use Rattle.ang_engine.specs.Outcomes.{IsCompiled, refused_by, reply_to_build}
use Rattle.ang_engine.specs.Step.{Leads, errors_reply}
use Rattle.ang_engine.proofs.Leading.{leads-at_once}

-- ---- what is judged

-- what is compiled with errors is judged so
pub judged-errors : (U : Type 0) (e : NoProgram) (b : Built) → IsCompiled (Err e) b → IsJudged {U = U} (Err e) b
judged-errors U (no.Errors es ds) b h = h
judged-errors U no.Memory b h = tt

pub denied-errors : (A U : Type 0) (e : NoProgram) (ds : List Denial) → HasDenials {A = A} (Err e) ds → HasDenials {A = U} (Err e) ds
denied-errors A U (no.Errors es denials) ds h = h
denied-errors A U no.Memory ds h = tt

-- ---- other modules

pub set_others : {A : Type 0} (xs : List A) (i : ℕ) (x d : A) (j : ℕ) → (j ≡ i → ⊥) → slice_index_or (slice_set xs i x) j d ≡ slice_index_or xs j d
set_others [] i x d j ne = refl
set_others (y ∷ ys) zero x d zero ne = absurd (ne refl)
set_others (y ∷ ys) zero x d (suc j) ne = refl
set_others (y ∷ ys) (suc i) x d zero ne = refl
set_others (y ∷ ys) (suc i) x d (suc j) ne = set_others ys i x d j (λ e. ne (ap suc e))

-- ---- the reply

pub silent : {U : Type 0} (r : Result U BuildRefused) → (reply_to_build r []).events ≡ []
silent (Ok u) = refl
silent (Err (why.Before refusal)) = refl
silent (Err why.Memory) = refl
silent (Err (why.Errors es ds)) = refl
silent (Err (why.Initializer f)) = refl

-- ---- a check of the module of a name

some_place : (d : Option Module) (l : Option LoadedModule) → IsSome d → Some (module_in (place_of d l)) ≡ place_of d l
some_place None l there = absurd (cc)
some_place (Some d) l there = refl

abbrev bare : Option ModuleState → Option ModuleState
bare = option_map without_sections

-- but for its sections a module is as it was
bare_after : {U : Type 0} (r : Result U NoProgram) (m : ModuleState) → bare (Some (state_after r m)) ≡ bare (Some m)
bare_after (Ok u) m = refl
bare_after (Err (no.Errors es ds)) m = refl
bare_after (Err no.Memory) m = refl

module _ (R : RegistrationList) (ms : List (Option Module)) (ls : List (Option LoadedModule)) (order : List ℕ) (r : RunWorld) (name : List ℕ) where
  abbrev now : World
  now = here ms ls order r

  -- there is none
  pub checked-none : None ≡ module_named name now → Leads (checking R name now) (reply_of (Refused NoModule) [] []) now
  checked-none none = leads-at_once (checking R name now) (Refused NoModule) now (λ rest. on_module-none name now rest (check R now) none)

  module _ (i : ℕ) (d n : Option Module) (found : Some i ≡ module_named name now) (lt : i < length ms) (at : d ≡ slice_index_or ms i None) (there : IsSome d) where
    abbrev built : Option LoadedModule
    built = slice_index_or ls i None

    abbrev it : ModuleState
    it = module_in (place_of d built)

    abbrev after : World
    after = with_places ms ls order r (places_of (slice_set ms i n) ls)

    -- the check is of the module that stood there
    one : (inputs : List Input) → checking R name now inputs ≡ check R now i it inputs
    one inputs = on_module-found name now i inputs (check R now) found ∙ ap (λ m. check R now i m inputs) (stood ms ls order r i d at)

    -- but for its sections all is as it was
    pub alone : {U : Type 0} (q : Result U NoProgram) → place_of n built ≡ Some (state_after q it) → beside_sections after ≡ beside_sections now
    alone q left =
        let ps = places_of ms ls in
        ap (with_places ms ls order r)
        (ap (map bare) (places_put ms ls i n)
        ∙ map_set bare ps i (place_of n built)
        ∙ set_same (map bare ps) i None (bare (place_of n built)) (omega (arith, lt, map_length bare ps, places_length ms ls))
        (ap bare left
        ∙ bare_after q it
        ∙ ap bare (some_place d built there ∙ ap (λ o. place_of o built) at ∙ sym (places_at ms ls i))
        ∙ sym (map_at bare ps i None None (omega (arith, lt, places_length ms ls)))))

    pub others : (j : ℕ) → module_named name now ≢ Some j → module_at after j ≡ module_at now j
    others j ne =
        ap (λ xs. module_in (slice_index_or xs j None)) (places_put ms ls i n)
        ∙ ap module_in (set_others (places_of ms ls) i (place_of n built) None j (λ e. ne (sym found ∙ ap Some (sym e))))

    -- all is as it was
    stays : place_of n built ≡ Some it → after ≡ now
    stays same =
        ap (with_places ms ls order r)
        (places_put ms ls i n
        ∙ set_same (places_of ms ls) i None (place_of n built) (omega (arith, lt, places_length ms ls))
        (same ∙ some_place d built there ∙ ap (λ o. place_of o built) at ∙ sym (places_at ms ls i)))

    pub checked-program : (q : Resolved) → place_of n built ≡ Some it → build_of (seen R it.mask) it.sections ≡ Compiled q
        → Leads (checking R name now) (reply_of (Done None) [] []) after
    checked-program q same is = record {
      used = Room true ∷ [];
      tells = λ rest.
          one (Room true ∷ rest)
          ∙ ap (λ b. Some (after_check (denials_in R it.mask it.sections) b now i it rest)) is
          ∙ ap (λ w. Some (record { reply = reply_of (Done None) [] []; world = w; left = rest })) (sym (stays same));
      told = inl refl;
      answers = refl;
    }

    pub checked-errors : (es : List Error) (ds : List Denial) → place_of n built ≡ Some (without_sections it) → build_of (seen R it.mask) it.sections ≡ Errors es
        → ds ≡ denials_in R it.mask it.sections → Leads (checking R name now) (errors_reply [] es ds) after
    checked-errors es ds left is denied = record {
      used = Room true ∷ [];
      tells = λ rest.
          one (Room true ∷ rest)
          ∙ ap (λ b. Some (after_check (denials_in R it.mask it.sections) b now i it rest)) is
          ∙ ap (λ x. Some (record { reply = errors_reply [] es x; world = with_places ms ls order r (slice_set (places_of ms ls) i (Some (without_sections it))); left = rest })) (sym denied)
          ∙ ap (λ p. Some (record { reply = errors_reply [] es ds; world = with_places ms ls order r (slice_set (places_of ms ls) i p); left = rest })) (sym left)
          ∙ ap (λ ps. Some (record { reply = errors_reply [] es ds; world = with_places ms ls order r ps; left = rest })) (sym (places_put ms ls i n));
      told = inl refl;
      answers = refl;
    }

    pub checked-memory : place_of n built ≡ Some it → Leads (checking R name now) (reply_of (Refused BuildMemory) [] []) after
    checked-memory same = record {
      used = Room false ∷ [];
      tells = λ rest.
          one (Room false ∷ rest) ∙ ap (λ w. Some (record { reply = reply_of (Refused BuildMemory) [] []; world = w; left = rest })) (sym (stays same));
      told = inr (refl, refl);
      answers = refl;
    }

    -- it comes to no program
    refused-so : (U : Type 0) (e : NoProgram) → place_of n built ≡ Some (state_after {U = U} (Err e) it) → IsJudged {U = U} (Err e) (build_of (seen R it.mask) it.sections)
        → HasDenials {A = U} (Err e) (denials_in R it.mask it.sections) → Leads (checking R name now) (reply_to_build {U = U} (Err (refused_by e)) []) after
    refused-so U (no.Errors es ds) left judged denied = checked-errors es ds left judged denied
    refused-so U no.Memory left judged denied = checked-memory left

    pub checked-refused : (U : Type 0) (e : NoProgram) (x : BuildRefused) → x ≡ refused_by e → ((l : Option LoadedModule) → place_of n l ≡ Some (state_after {U = U} (Err e) (module_in (place_of d l))))
        → ((l : Option LoadedModule) → IsJudged {U = U} (Err e) (build_of (seen R (module_in (place_of d l)).mask) (module_in (place_of d l)).sections))
        → ((l : Option LoadedModule) → HasDenials {A = U} (Err e) (denials_in R (module_in (place_of d l)).mask (module_in (place_of d l)).sections))
        → Leads (checking R name now) (reply_to_build {U = U} (Err x) []) after
    checked-refused U e x is left judged denied =
        subst (λ q. Leads (checking R name now) (reply_to_build {U = U} (Err q) []) after) (sym is) (refused-so U e (left built) (judged built) (denied built))
