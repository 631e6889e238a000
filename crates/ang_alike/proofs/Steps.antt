-- One command does the same in two worlds that are alike.
use Rattle.std.proofs.Common.{◌≡◌, ◌≤◌, ◌-◌, ℕ, inl, inr, List, [], ◌∷◌, ◌++◌, length, refl, sym, ap, ap₂, subst, Option, Some, None}
use Rattle.std.specs.Prelude.{◌⊎◌, Bool, true, false, Result, Ok, Err, nat_le, is_none, position, slice_get, slice_set, slice_index_or, if◌then◌else◌}
use Rattle.ang_kinds.specs.declared.error.Error.{Error}
use Rattle.ang_kinds.specs.declared.error.Denial.{Denial}
use Rattle.ang_kinds.specs.declared.fault.Fault.{Fault}
use Rattle.ang_kinds.specs.declared.value.Value.{Value}
use Rattle.ang_lex.specs.Spelling.{is_identifier}
use Rattle.ang_names_known.specs.declared.names.ScriptFunction.{ScriptFunction}
use Rattle.ang_view.specs.Registration.{RegistrationList, seen}
use Rattle.ang_view.specs.Values.{TakesValues}
use Rattle.ang_meaning.specs.declared.slot.Slot.{Slot}
use Rattle.ang_meaning.specs.declared.routine.Routine.{Routine}
use Rattle.ang_meaning.specs.World.{Input, Room, Said, Tallied, Fresh, World as RunWorld, with_inputs, live_hosts}
use Rattle.ang_meaning.specs.Counting.{IsCounted}
use Rattle.ang_meaning.specs.Alike.{Renaming}
use Rattle.ang_meaning.proofs.AlikeWorlds.{three, HasMore}
use Rattle.ang_meaning.proofs.Matching.{Match, AlikeUpTo}
use Rattle.ang_code_laws.proofs.AlikeRuns.{IsMore}
use Rattle.ang_engine_build.specs.Build.{Resolved, Built, Errors, Compiled, build_of, denials_in}
use Rattle.ang_engine_call.specs.Calls.{result_of}
use Rattle.ang_engine_modules.specs.Modules.{LinkFits}
use Rattle.ang_engine_modules.specs.Ends.{Ended}
use Rattle.ang_engine_modules.specs.declared.command.Command.{Command}
use Rattle.ang_engine_modules.specs.declared.command.Command.TheVariants.{NewModule, SetMask, AddSection, Build, Bind, Unbind, Call, Discard, RemoveGroup}
use Rattle.ang_engine_modules.specs.declared.reply.Outcome.{Outcome}
use Rattle.ang_engine_modules.specs.declared.reply.Outcome.TheVariants.{Done, Failed, Refused}
use Rattle.ang_engine_modules.specs.declared.reply.Refusal.{Refusal}
use Rattle.ang_engine_modules.specs.declared.reply.Refusal.TheVariants.{BadName, ModuleExists, Limit, NoModule, NotBuilt, NoImport, BadBudget, BuildMemory, InitFailed, NoGroup, InUse, Memory}
use Rattle.ang_engine_modules.specs.World.{Program, ModuleState, ModuleStates, World, module_named, module_at, placed, all_unbound_from, built_in, running, left_to, globals_ended}
use Rattle.ang_engine_modules.specs.Commands.{with_link, Stepped, reply_of, answered, refused, after_run, fresh_module, in_place, empty_place, where_free, added_module, set_mask, or_limit, add_section, unbind_import, unbind_program, unbind, without, discard, on_module, on_both, most_modules}
use Rattle.ang_view.specs.Groups.{Grouped}
use Rattle.ang_engine.specs.Groups as Groups
use Rattle.ang_engine.specs.Groups.{Removal, Removed, removal, removing}
use Rattle.ang_engine.specs.Step.{errors_reply, is_budget, emptied, program_over, with_program, globals_begun, initializers_end, initialized, started, after_errors, after_build, build, build_within, link_of, bound, bind_programs, bind, Choice, Chosen, Not, choice_of, called, call_ended, call_end, call_chosen, call_program, call, judged, granted, step}
use Rattle.ang_alike.proofs.Fitting.{bound_fits, chosen_fits, result_renamed, seen_values, seen_few}
use Rattle.ang_alike.proofs.Modules.{good_fresh, good_new, AreGood, good_kept, good_rebuilt, good_relinked, modules_sound, all_none}
use Rattle.ang_alike.proofs.Globals.{ended_counted, ended_alike, ended_none, ended_more, begun_counted, begun_alike, first_plain, place_counted, place_alike}
use Rattle.ang_alike.proofs.Runs.{EndAlike, turned_result, called_alike, initialized_alike}

-- ---- two ends of a command

-- The replies are the same; the worlds are alike, and so are the inputs that are left; and what holds between commands holds after them.
pub record AreSame (apart : Type 0) (a b : Stepped) : Type 0 where
  pub by : Renaming
  pub reply : b.reply ≡ a.reply
  pub modules : b.world.modules ≡ a.world.modules
  pub alike : AlikeUpTo apart by (running a.world a.left) (running b.world b.left)
  pub counted : IsCounted [] (running a.world [])
  pub good : AreGood a.world.modules

-- or one was refused for an input of another sort, which is left
abbrev pub SteppedAlike : Type 0 → Stepped → Stepped → Type 0
SteppedAlike apart a b = AreSame apart a b ⊎ ((apart × IsMore a.left) ⊎ (apart × IsMore b.left))

-- where both are told what they ask for
abbrev pub BothAlike : Type 0 → Option Stepped → Option Stepped → Type 0
BothAlike apart o None = Unit {0}
BothAlike apart None (Some b) = Unit {0}
BothAlike apart (Some a) (Some b) = SteppedAlike apart a b

none_first : (apart : Type 0) (o : Option Stepped) → BothAlike apart None o
none_first apart None = tt
none_first apart (Some b) = tt

more_is : (w : RunWorld) → HasMore w → IsMore w.inputs
more_is w h = subst IsMore (sym h.inputs) tt

-- as many host objects live
live_same : (apart : Type 0) (r : Renaming) (v w : RunWorld) → AlikeUpTo apart r v w → live_hosts w ≡ live_hosts v
live_same apart r v w h = ap₂ (λ n es. n - length es) h.reserved h.events

-- what a run leaves is alike where the next one begins
begins_again : (apart : Type 0) (ms : ModuleStates) (r : Renaming) (v w : RunWorld) → AlikeUpTo apart r v w → AlikeUpTo apart r (running (left_to ms v) v.inputs) (running (left_to ms w) w.inputs)
begins_again apart ms r v w h = record {
  objects = h.objects;
  hosts = h.hosts;
  globals = h.globals;
  events = refl;
  reserved = live_same apart r v w h;
  spent = h.spent;
  bounds = h.bounds;
  inputs = h.inputs;
}

module _ (apart : Type 0) where
  if_alike : (b : Bool) (o p q s : Option Stepped) → BothAlike apart o q → BothAlike apart p s → BothAlike apart (if b then o else p) (if b then q else s)
  if_alike true o p q s h k = h
  if_alike false o p q s h k = k

  -- answered at once, with these modules
  answered_alike : (o : Outcome) (ms : ModuleStates) (r : Renaming) (v w : RunWorld) → AreGood ms → IsCounted [] v → AlikeUpTo apart r v w → BothAlike apart (answered o (left_to ms v) v.inputs) (answered o (left_to ms w) w.inputs)
  answered_alike o ms r v w good p h = inl (record {
    by = r;
    reply = refl;
    modules = refl;
    counted = p;
    good = good;
    alike = begins_again apart ms r v w h;
  })

  -- a run has ended
  ran_alike : (o : Outcome) (ms : ModuleStates) (r : Renaming) (v w : RunWorld) → AreGood ms → IsCounted [] v → AlikeUpTo apart r v w → BothAlike apart (Some (after_run o [] ms v)) (Some (after_run o [] ms w))
  ran_alike o ms r v w good p h = inl (record {
    by = r;
    reply = ap (λ es. reply_of o es []) h.events;
    modules = refl;
    counted = p;
    good = good;
    alike = begins_again apart ms r v w h;
  })

  errors_alike : (es : List Error) (ds : List Denial) (ms : ModuleStates) (r : Renaming) (v w : RunWorld) → AreGood ms → IsCounted [] v → AlikeUpTo apart r v w → BothAlike apart (Some (after_errors es ds ms v)) (Some (after_errors es ds ms w))
  errors_alike es ds ms r v w good p h = inl (record {
    by = r;
    reply = ap (λ events. errors_reply events es ds) h.events;
    modules = refl;
    counted = p;
    good = good;
    alike = begins_again apart ms r v w h;
  })

  -- Modules and two worlds of runs beside them, which are alike and told these inputs.
  module _ (ms : ModuleStates) (good : AreGood ms) (r : Renaming) (v w : RunWorld) (counted : IsCounted [] v) (h : AlikeUpTo apart r v w) where
    abbrev W : World
    W = left_to ms v

    abbrev U : World
    U = left_to ms w

    kept : (why : Refusal) → BothAlike apart (refused why W v.inputs) (refused why U w.inputs)
    kept why = answered_alike (Refused why) ms r v w good counted h

    on_alike : (o : Option ℕ) (go on : ℕ → ModuleState → List Input → Option Stepped) → ((i : ℕ) → BothAlike apart (go i (module_at W i) v.inputs) (on i (module_at W i) w.inputs))
        → BothAlike apart (on_module o W v.inputs go) (on_module o U w.inputs on)
    on_alike None go on k = kept NoModule
    on_alike (Some i) go on k = k i

    -- ---- NewModule

    abbrev in_modules : ModuleStates → ℕ → ModuleState → ModuleStates
    in_modules ss i m = record { places = slice_set ss.places i (Some m); order = ss.order ++ i ∷ [] }

    placed_alike : (name : List ℕ) (mask : ℕ) (o : Option ℕ) → position is_none ms.places ≡ o
        → BothAlike apart (in_place o (fresh_module name mask) W v.inputs) (in_place o (fresh_module name mask) U w.inputs)
    placed_alike name mask (Some i) e = answered_alike (Done None) (in_modules ms i (fresh_module name mask)) r v w (good_fresh ms name mask i (ms.order ++ i ∷ []) good e) counted h
    placed_alike name mask None e =
        if_alike (nat_le most_modules (length ms.places)) _ _ _ _ (kept Limit)
        (answered_alike (Done None) (in_modules (record ms { places = ms.places ++ None ∷ [] }) (length ms.places) (fresh_module name mask)) r
        (record v { globals = v.globals ++ [] ∷ [] }) (record w { globals = w.globals ++ [] ∷ [] }) (good_new ms name mask (ms.order ++ length ms.places ∷ []) good) (place_counted v counted) (place_alike apart r v w h))

    free_alike : (o : Option ℕ) (name : List ℕ) (mask : ℕ) → BothAlike apart (where_free o name mask W v.inputs) (where_free o name mask U w.inputs)
    free_alike (Some i) name mask = kept ModuleExists
    free_alike None name mask = placed_alike name mask (empty_place W) refl

    new_alike : (name : List ℕ) (mask : ℕ) → BothAlike apart (added_module name mask W v.inputs) (added_module name mask U w.inputs)
    new_alike name mask = if_alike (is_identifier name) _ _ _ _ (free_alike (module_named name W) name mask) (kept BadName)

    -- ---- SetMask, AddSection

    mask_alike : (mask i : ℕ) → BothAlike apart (set_mask mask W i (module_at W i) v.inputs) (set_mask mask U i (module_at W i) w.inputs)
    mask_alike mask i = answered_alike (Done None) (placed W i (record (module_at W i) { mask = mask })) r v w (good_kept ms i (record (module_at W i) { mask = mask }) good refl refl) counted h

    section_by : (b : Bool) (i : ℕ) (m : ModuleState) → AreGood (placed W i m) → BothAlike apart (or_limit (if b then None else (Some m)) W i v.inputs) (or_limit (if b then None else (Some m)) U i w.inputs)
    section_by true i m k = kept Limit
    section_by false i m k = answered_alike (Done None) (placed W i m) r v w k counted h

    section_alike : (text : List ℕ) (i : ℕ) → BothAlike apart (add_section text W i (module_at W i) v.inputs) (add_section text U i (module_at W i) w.inputs)
    section_alike text i =
        let m = record (module_at W i) { sections = (module_at W i).sections ++ text ∷ [] } in
        section_by _ i m (good_kept ms i m good refl refl)

    -- the worlds of runs that begin
    abbrev V : RunWorld
    V = running W v.inputs

    abbrev X : RunWorld
    X = running U w.inputs

    begins : AlikeUpTo apart r V X
    begins = begins_again apart ms r v w h

    -- ---- Discard

    discard_alike : (i : ℕ) → BothAlike apart (discard W i (module_at W i) v.inputs) (discard U i (module_at W i) w.inputs)
    discard_alike i =
        ran_alike (Done None) (without i (all_unbound_from i W).modules) r (globals_ended i V) (globals_ended i X)
        (good_rebuilt ms i None _ good tt (λ k. refl)) (ended_counted i V counted) (ended_alike apart r i V X begins)

    -- ---- Unbind

    unbound_by : (i index : ℕ) (p : Program) (o : Option ScriptFunction) → (module_at W i).program ≡ Some p
        → BothAlike apart (unbind_import o W i (module_at W i) p index v.inputs) (unbind_import o U i (module_at W i) p index w.inputs)
    unbound_by i index p None here = kept NoImport
    unbound_by i index p (Some import) here =
        answered_alike (Done None) (placed W i (record (module_at W i) { program = Some (with_link index None p) })) r v w
        (good_relinked ms i index None p good here (λ g e. absurd (let x : ⊥ = cc in x))) counted h

    unbind_by : (i index : ℕ) (o : Option Program) → (module_at W i).program ≡ o → BothAlike apart (unbind_program o index W i (module_at W i) v.inputs) (unbind_program o index U i (module_at W i) w.inputs)
    unbind_by i index None here = kept NotBuilt
    unbind_by i index (Some p) here = unbound_by i index p (slice_get p.names.imports index) here

    -- ---- Bind

    bound_by : (i j index : ℕ) (p q : Program) (decl : List ℕ) (o : Option ScriptFunction) (x : Result Routine Refusal) → (module_at W i).program ≡ Some p → (module_at W j).program ≡ Some q
        → slice_get p.names.imports index ≡ o → link_of o j q decl ≡ x → BothAlike apart (bound x W i (module_at W i) p index v.inputs) (bound x U i (module_at W i) p index w.inputs)
    bound_by i j index p q decl o (Err why) here there import e = kept why
    bound_by i j index p q decl o (Ok g) here there import e =
        answered_alike (Done None) (placed W i (record (module_at W i) { program = Some (with_link index (Some g) p) })) r v w
        (good_relinked ms i index (Some g) p good here (λ f same. subst (λ k. LinkFits (built_in ms) i index k) (let s : g ≡ f = cc in s) (bound_fits ms good i j index p q decl o g here there import e))) counted h

    bind_by : (i j index : ℕ) (decl : List ℕ) (o n : Option Program) → (module_at W i).program ≡ o → (module_at W j).program ≡ n
        → BothAlike apart (bind_programs o n index decl W i (module_at W i) j v.inputs) (bind_programs o n index decl U i (module_at W i) j w.inputs)
    bind_by i j index decl None n here there = kept NotBuilt
    bind_by i j index decl (Some p) None here there = kept NotBuilt
    bind_by i j index decl (Some p) (Some q) here there =
        bound_by i j index p q decl (slice_get p.names.imports index) (link_of (slice_get p.names.imports index) j q decl) here there refl refl

    both_alike : (o n : Option ℕ) (index : ℕ) (decl : List ℕ) → BothAlike apart (on_both o n W v.inputs (bind index decl W)) (on_both o n U w.inputs (bind index decl U))
    both_alike None n index decl = kept NoModule
    both_alike (Some i) None index decl = kept NoModule
    both_alike (Some i) (Some j) index decl = bind_by i j index decl (module_at W i).program (module_at W j).program refl refl

    -- ---- Call

    called_by : (f : ScriptFunction) (x y : Result Slot Fault) (q : Renaming) (a b : RunWorld) → y ≡ turned_result q x → IsCounted [] a → AlikeUpTo apart q a b → BothAlike apart (Some (called x a W f)) (Some (called y b U f))
    called_by f (Ok x) y q a b e p k =
        subst (λ z. BothAlike apart (Some (called (Ok x) a W f)) (Some (called z b U f))) (sym e)
        (subst (λ o. BothAlike apart (Some (called (Ok x) a W f)) (Some (after_run (Done o) [] ms b))) (sym (result_renamed q f x)) (ran_alike (Done (result_of f x)) ms q a b good p k))
    called_by f (Err why) y q a b e p k = subst (λ z. BothAlike apart (Some (called (Err why) a W f)) (Some (called z b U f))) (sym e) (ran_alike (Failed why) ms q a b good p k)

    ended_leaves : (f : ScriptFunction) (x : Result Slot Fault) (a : RunWorld) (o : World) → HasMore a → IsMore (called x a o f).left
    ended_leaves f (Ok x) a o k = more_is a k
    ended_leaves f (Err why) a o k = more_is a k

    call_ended_alike : (f : ScriptFunction) (a b : Ended) → EndAlike apart a b → BothAlike apart (Some (call_ended a W f)) (Some (call_ended b U f))
    call_ended_alike f a b k =
        three (λ m. called_by f a.result b.result m.by a.world b.world m.result m.counted m.alike)
        (λ l. inr (inl (l.0, ended_leaves f a.result a.world W l.1))) (λ l. inr (inr (l.0, ended_leaves f b.result b.world U l.1))) k

    chosen_alike : (i budget : ℕ) (p : Program) (decl : List ℕ) (args : List Value) (c : Choice) → (module_at W i).program ≡ Some p → choice_of p decl args ≡ c
        → BothAlike apart (call_chosen c W i budget v.inputs) (call_chosen c U i budget w.inputs)
    chosen_alike i budget p decl args (Not why) here e = kept why
    chosen_alike i budget p decl args (Chosen n f slots) here e =
        let c = chosen_fits ms good i p decl args n f slots here e in
        call_ended_alike f (call_end W i budget n slots v.inputs) (call_end U i budget n slots w.inputs)
        (called_alike apart (built_in ms) (modules_sound ms good) budget i n slots r V X c.takes (c.plain r) (c.counted V counted) begins)

    call_by : (i budget : ℕ) (decl : List ℕ) (args : List Value) (o : Option Program) → (module_at W i).program ≡ o
        → BothAlike apart (call_program o decl args budget W i v.inputs) (call_program o decl args budget U i w.inputs)
    call_by i budget decl args None here = kept NotBuilt
    call_by i budget decl args (Some p) here = if_alike (is_budget budget) _ _ _ _ (chosen_alike i budget p decl args (choice_of p decl args) here refl) (kept BadBudget)

    -- ---- Build

    module _ (R : RegistrationList) (values : TakesValues R) (few : length R ≤ 1024) where
      abbrev others : ℕ → World
      others i = all_unbound_from i W

      abbrev others_too : ℕ → World
      others_too i = all_unbound_from i U

      -- emptied, and with a program
      emptied_good : (i : ℕ) → AreGood (placed (others i) i (emptied (module_at W i)))
      emptied_good i = good_rebuilt ms i (Some (emptied (module_at W i))) ms.order good tt (λ k. refl)

      built_good : (i : ℕ) (q : Resolved) → build_of (seen R (module_at W i).mask) (module_at W i).sections ≡ Compiled q
          → AreGood (placed (others i) i (with_program (program_over (seen R (module_at W i).mask) q) (module_at W i)))
      built_good i q e =
          good_rebuilt ms i (Some (with_program (program_over (seen R (module_at W i).mask) q) (module_at W i))) ms.order good
          (record { sight = seen R (module_at W i).mask; sections = (module_at W i).sections; built = e; view = refl; values = seen_values R (module_at W i).mask values; few = seen_few R (module_at W i).mask few })
          (all_none q.tree.imports)

      initialized_by : (i : ℕ) (p : Program) (x y : Result Slot Fault) (q : Renaming) (a b : RunWorld) → AreGood (placed (others i) i (with_program p (module_at W i))) → y ≡ turned_result q x → IsCounted [] a → AlikeUpTo apart q a b
          → BothAlike apart (Some (initialized x a (others i) i (module_at W i) p)) (Some (initialized y b (others_too i) i (module_at W i) p))
      initialized_by i p (Ok x) y q a b built e c k =
          subst (λ z. BothAlike apart (Some (initialized (Ok x) a (others i) i (module_at W i) p)) (Some (initialized z b (others_too i) i (module_at W i) p))) (sym e)
          (ran_alike (Done None) (placed (others i) i (with_program p (module_at W i))) q a b built c k)
      initialized_by i p (Err why) y q a b built e c k =
          subst (λ z. BothAlike apart (Some (initialized (Err why) a (others i) i (module_at W i) p)) (Some (initialized z b (others_too i) i (module_at W i) p))) (sym e)
          (ran_alike (Refused (InitFailed why)) (placed (others i) i (emptied (module_at W i))) q (globals_ended i a) (globals_ended i b) (emptied_good i) (ended_counted i a c) (ended_alike apart q i a b k))

      started_leaves : (i : ℕ) (p : Program) (x : Result Slot Fault) (a : RunWorld) (o : World) → HasMore a → IsMore (initialized x a o i (module_at W i) p).left
      started_leaves i p (Ok x) a o k = more_is a k
      started_leaves i p (Err why) a o k = more_is (globals_ended i a) (ended_more i a k)

      started_alike : (i : ℕ) (p : Program) (a b : Ended) → AreGood (placed (others i) i (with_program p (module_at W i))) → EndAlike apart a b
          → BothAlike apart (Some (started a (others i) i (module_at W i) p)) (Some (started b (others_too i) i (module_at W i) p))
      started_alike i p a b built k =
          three (λ m. initialized_by i p a.result b.result m.by a.world b.world built m.result m.counted m.alike)
          (λ l. inr (inl (l.0, started_leaves i p a.result a.world (others i) l.1))) (λ l. inr (inr (l.0, started_leaves i p b.result b.world (others_too i) l.1))) k

      built_alike : (i budget : ℕ) (q : Renaming) (a b : RunWorld) (c : Built) → build_of (seen R (module_at W i).mask) (module_at W i).sections ≡ c → slice_index_or a.globals i [] ≡ [] → IsCounted [] a → AlikeUpTo apart q a b
          → BothAlike apart (Some (after_build (seen R (module_at W i).mask) (denials_in R (module_at W i).mask (module_at W i).sections) c (others i) i (module_at W i) budget a))
          (Some (after_build (seen R (module_at W i).mask) (denials_in R (module_at W i).mask (module_at W i).sections) c (others_too i) i (module_at W i) budget b))
      built_alike i budget q a b (Errors es) e none p k = errors_alike es (denials_in R (module_at W i).mask (module_at W i).sections) (placed (others i) i (emptied (module_at W i))) q a b (emptied_good i) p k
      built_alike i budget q a b (Compiled x) e none p k =
          let prog = program_over (seen R (module_at W i).mask) x in
          let built = built_good i x e in
          let ms' = placed (others i) i (with_program prog (module_at W i)) in
          started_alike i prog (initializers_end ms' i prog budget a) (initializers_end ms' i prog budget b) built
          (initialized_alike apart (built_in ms') (modules_sound ms' built) budget i q (globals_begun i prog a) (globals_begun i prog b) (begun_counted i prog a none p) (begun_alike apart q i prog a b (first_plain q prog) k))

      no_memory : (i : ℕ) (q : Renaming) (a b : RunWorld) → IsCounted [] a → AlikeUpTo apart q a b
          → BothAlike apart (Some (after_run (Refused BuildMemory) [] (placed (others i) i (emptied (module_at W i))) a)) (Some (after_run (Refused BuildMemory) [] (placed (others_too i) i (emptied (module_at W i))) b))
      no_memory i q a b p k = ran_alike (Refused BuildMemory) (placed (others i) i (emptied (module_at W i))) q a b (emptied_good i) p k

-- ---- a command

module _ (apart : Type 0) (R : Grouped) (values : TakesValues R.entries) (few : length R.entries ≤ 1024) (ms : ModuleStates) (good : AreGood ms) (r : Renaming) (v w : RunWorld) (counted : IsCounted [] v)
    (alike : (is js : List Input) → Match apart is js → AlikeUpTo apart r (with_inputs is v) (with_inputs js w)) where
  abbrev before : World
  before = left_to ms v

  abbrev again : World
  again = left_to ms w

  build_alike : (i budget : ℕ) (is js : List Input) → Match apart is js → BothAlike apart (build R.entries before i (module_at before i) budget is) (build R.entries again i (module_at before i) budget js)
  build_alike i budget [] js m = none_first apart (build R.entries again i (module_at before i) budget js)
  build_alike i budget (Said x ∷ is) js m = none_first apart (build R.entries again i (module_at before i) budget js)
  build_alike i budget (Tallied x ∷ is) js m = none_first apart (build R.entries again i (module_at before i) budget js)
  build_alike i budget (Fresh x ∷ is) js m = none_first apart (build R.entries again i (module_at before i) budget js)
  build_alike i budget (Room a ∷ is) [] m = tt
  build_alike i budget (Room a ∷ is) (Said y ∷ js) m = tt
  build_alike i budget (Room a ∷ is) (Tallied y ∷ js) m = tt
  build_alike i budget (Room a ∷ is) (Fresh y ∷ js) m = tt
  build_alike i budget (Room true ∷ is) (Room false ∷ js) m = absurd (let e : true ≡ false = m.0 in let x : ⊥ = cc in x)
  build_alike i budget (Room false ∷ is) (Room true ∷ js) m = absurd (let e : false ≡ true = m.0 in let x : ⊥ = cc in x)
  build_alike i budget (Room true ∷ is) (Room true ∷ js) m =
      let h = alike is js m.1 in
      let V = running before is in
      let X = running again js in
      let begins : AlikeUpTo apart r V X = begins_again apart ms r (with_inputs is v) (with_inputs js w) h in
      built_alike apart ms good r (with_inputs is v) (with_inputs js w) counted h R.entries values few i budget r (globals_ended i V) (globals_ended i X)
      (build_of (seen R.entries (module_at before i).mask) (module_at before i).sections) refl (ended_none i V) (ended_counted i V counted) (ended_alike apart r i V X begins)
  build_alike i budget (Room false ∷ is) (Room false ∷ js) m =
      let h = alike is js m.1 in
      let V = running before is in
      let X = running again js in
      let begins : AlikeUpTo apart r V X = begins_again apart ms r (with_inputs is v) (with_inputs js w) h in
      no_memory apart ms good r (with_inputs is v) (with_inputs js w) counted h R.entries values few i r (globals_ended i V) (globals_ended i X) (ended_counted i V counted) (ended_alike apart r i V X begins)

  removed_alike : (x : Removal) (is js : List Input) → Match apart is js → BothAlike apart (removing x before is) (removing x again js)
  removed_alike (Removed s) is js m = answered_alike apart (Done None) ms r (with_inputs is v) (with_inputs js w) good counted (alike is js m)
  removed_alike Groups.NoGroup is js m = kept apart ms good r (with_inputs is v) (with_inputs js w) counted (alike is js m) NoGroup
  removed_alike Groups.InUse is js m = kept apart ms good r (with_inputs is v) (with_inputs js w) counted (alike is js m) InUse

  judged_alike : (c : Command) (is js : List Input) → Match apart is js → BothAlike apart (judged R before c is) (judged R again c js)
  judged_alike (NewModule name mask) is js m = new_alike apart ms good r (with_inputs is v) (with_inputs js w) counted (alike is js m) name mask.0
  judged_alike (SetMask name mask) is js m =
      let h = alike is js m in
      on_alike apart ms good r (with_inputs is v) (with_inputs js w) counted h (module_named name before) (set_mask mask.0 before) (set_mask mask.0 again)
      (λ i. mask_alike apart ms good r (with_inputs is v) (with_inputs js w) counted h mask.0 i)
  judged_alike (AddSection name text) is js m =
      let h = alike is js m in
      on_alike apart ms good r (with_inputs is v) (with_inputs js w) counted h (module_named name before) (add_section text before) (add_section text again)
      (λ i. section_alike apart ms good r (with_inputs is v) (with_inputs js w) counted h text i)
  judged_alike (Build name budget) is js m =
      let h = alike is js m in
      on_alike apart ms good r (with_inputs is v) (with_inputs js w) counted h (module_named name before) (build_within budget R.entries before) (build_within budget R.entries again)
      (λ i. if_alike apart (is_budget budget) _ _ _ _ (build_alike i budget is js m) (kept apart ms good r (with_inputs is v) (with_inputs js w) counted h BadBudget))
  judged_alike (Bind name index exporter decl) is js m =
      both_alike apart ms good r (with_inputs is v) (with_inputs js w) counted (alike is js m) (module_named name before) (module_named exporter before) index decl
  judged_alike (Unbind name index) is js m =
      let h = alike is js m in
      on_alike apart ms good r (with_inputs is v) (with_inputs js w) counted h (module_named name before) (unbind index before) (unbind index again)
      (λ i. unbind_by apart ms good r (with_inputs is v) (with_inputs js w) counted h i index (module_at before i).program refl)
  judged_alike (Call name decl args budget) is js m =
      let h = alike is js m in
      on_alike apart ms good r (with_inputs is v) (with_inputs js w) counted h (module_named name before) (call decl args budget before) (call decl args budget again)
      (λ i. call_by apart ms good r (with_inputs is v) (with_inputs js w) counted h i budget decl args (module_at before i).program refl)
  judged_alike (Discard name) is js m =
      let h = alike is js m in
      on_alike apart ms good r (with_inputs is v) (with_inputs js w) counted h (module_named name before) (discard before) (discard again)
      (λ i. discard_alike apart ms good r (with_inputs is v) (with_inputs js w) counted h i)
  judged_alike (RemoveGroup name) is js m = removed_alike (removal name R ms) is js m

  granted_alike : (c : Command) (is js : List Input) → Match apart is js → BothAlike apart (granted R before c is) (granted R again c js)
  granted_alike c [] js m = none_first apart (granted R again c js)
  granted_alike c (Said x ∷ is) js m = none_first apart (granted R again c js)
  granted_alike c (Tallied x ∷ is) js m = none_first apart (granted R again c js)
  granted_alike c (Fresh x ∷ is) js m = none_first apart (granted R again c js)
  granted_alike c (Room a ∷ is) [] m = tt
  granted_alike c (Room a ∷ is) (Said y ∷ js) m = tt
  granted_alike c (Room a ∷ is) (Tallied y ∷ js) m = tt
  granted_alike c (Room a ∷ is) (Fresh y ∷ js) m = tt
  granted_alike c (Room true ∷ is) (Room false ∷ js) m = absurd (let e : true ≡ false = m.0 in let x : ⊥ = cc in x)
  granted_alike c (Room false ∷ is) (Room true ∷ js) m = absurd (let e : false ≡ true = m.0 in let x : ⊥ = cc in x)
  granted_alike c (Room true ∷ is) (Room true ∷ js) m = judged_alike c is js m.1
  granted_alike c (Room false ∷ is) (Room false ∷ js) m = kept apart ms good r (with_inputs is v) (with_inputs js w) counted (alike is js m.1) Memory

  pub step_alike : (c : Command) (is js : List Input) → Match apart is js → BothAlike apart (step R before c is) (step R again c js)
  step_alike (NewModule name mask) is js m = granted_alike (NewModule name mask) is js m
  step_alike (SetMask name mask) is js m = judged_alike (SetMask name mask) is js m
  step_alike (AddSection name text) is js m = granted_alike (AddSection name text) is js m
  step_alike (Build name budget) is js m = granted_alike (Build name budget) is js m
  step_alike (Bind name index exporter decl) is js m = granted_alike (Bind name index exporter decl) is js m
  step_alike (Unbind name index) is js m = judged_alike (Unbind name index) is js m
  step_alike (Call name decl args budget) is js m = granted_alike (Call name decl args budget) is js m
  step_alike (Discard name) is js m = granted_alike (Discard name) is js m
  step_alike (RemoveGroup name) is js m = judged_alike (RemoveGroup name) is js m
