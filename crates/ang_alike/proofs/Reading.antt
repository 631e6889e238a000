-- What a host reads off its lists, its commands and their replies holds of the worlds behind them.
use Rattle.std.proofs.Common.{◌≡◌, ℕ, List, [], ◌∷◌, ◌++◌, length, refl, sym, ap, subst, Option, Some, None, map as list_map}
use Rattle.std.specs.Prelude.{Bool, true, false, ◌||◌, All, Contains, Result, Ok, Err, if◌then◌else◌, nat_le, option_map, slice_get, slice_index_or, slice_set}
use Rattle.std.proofs.lemmas.List.Elements.{All-append, All-cons, All-contains, All-contains_itself, All-head, All-map, All-nil, All-set, All-tail, Contains-append_left, Contains-append_right}
use Rattle.ang_kinds.specs.declared.error.Denial.{Denial}
use Rattle.ang_kinds.specs.declared.fault.Fault.{Fault}
use Rattle.ang_kinds.specs.declared.value.Value.{Value}
use Rattle.ang_lex.specs.Spelling.{is_identifier}
use Rattle.ang_names_known.specs.declared.names.ScriptFunction.{ScriptFunction}
use Rattle.ang_view.specs.declared.group.Group.{Group}
use Rattle.ang_view.specs.Groups.{Grouped, group_named, is_named_outside, without_group}
use Rattle.ang_view.specs.Registration.{RegistrationList, seen}
use Rattle.ang_view.proofs.Seen.{position-passes}
use Rattle.ang_meaning.specs.declared.routine.Routine.{Routine}
use Rattle.ang_meaning.specs.declared.slot.Slot.{Slot}
use Rattle.ang_meaning.specs.World.{Input, Room, Said, Tallied, Fresh, World as RunWorld}
use Rattle.ang_engine_build.specs.Build.{Built, Errors, Compiled, build_of, denials_in}
use Rattle.ang_engine_modules.specs.declared.command.Command.{Command}
use Rattle.ang_engine_modules.specs.declared.command.Command.TheVariants.{NewModule, SetMask, AddSection, Build, Bind, Unbind, Call, Discard, RemoveGroup}
use Rattle.ang_engine_modules.specs.declared.reply.Outcome.{Outcome}
use Rattle.ang_engine_modules.specs.declared.reply.Outcome.TheVariants.{Done, Refused}
use Rattle.ang_engine_modules.specs.declared.reply.Refusal.{Refusal}
use Rattle.ang_engine_modules.specs.declared.reply.Refusal.TheVariants as refusal
use Rattle.ang_engine_modules.specs.declared.reply.Reply.{Reply}
use Rattle.ang_engine_modules.specs.World.{Program, ModuleState, World, no_modules, bounded_by, has_name, module_named, module_in, module_at, placed, unbound_module, all_unbound_from, running, globals_ended}
use Rattle.ang_engine_modules.specs.Commands.{Stepped, reply_of, answered, refused, fresh_module, with_place, with_module, with_link, linked, in_place, empty_place, where_free, added_module, set_mask, or_limit, add_section, unbind_import, unbind_program, unbind, discard, on_module, on_both, most_modules, most_sections}
use Rattle.ang_engine.specs.Groups.{Removal, Removed, NoGroup, InUse, is_used, list_of, removal, removal_of, removing}
use Rattle.ang_engine.specs.Step.{Takes, is_budget, emptied, program_over, with_program, initializers_end, initialized, after_build, build, build_within, link_of, bound, bind_programs, bind, Choice, Chosen, Not, choice_of, called, call_end, call_chosen, call_program, call, judged, granted, step, list_after}
use Rattle.ang_alike.specs.Alike.{BoundedCommand, BothInTurn, BothUnrefused, InTurn, IsUnrefused, SeesSame}
use Rattle.ang_alike.specs.Read.{AllBuildsSame, BuildsSame, RepliesTell, is_done, list_told, mask_in, masks_with, without_found}
use Rattle.ang_alike.proofs.Unrefused.{unrefused_reply_alike}

-- ---- the list that a reply tells

some_same : {A : Type 0} (x y : A) → Some x ≡ Some y → x ≡ y
some_same x y e = cc

told_so : (o : Outcome) (w : World) (is : List Input) (s : Stepped) → answered o w is ≡ Some s → s.reply.outcome ≡ o
told_so o w is s e = ap (λ (x : Stepped). x.reply.outcome) (sym (some_same (record { reply = reply_of o [] []; world = w; left = is }) s e))

removal_told : (R : Grouped) (o : Option Group) (w : World) (is : List Input) (s : Stepped) → removing (removal_of o R w.modules) w is ≡ Some s
    → (if is_done s.reply.outcome then (without_found R o) else R) ≡ list_of R (removal_of o R w.modules)
removal_told R None w is s e = ap (λ p. if is_done p then R else R) (told_so (Refused refusal.NoGroup) w is s e)
removal_told R (Some g) w is s e = by (is_named_outside R.entries g || is_used R.entries g w.modules) e
  where
    by : (b : Bool) → removing (if b then InUse else Removed (without_group g R)) w is ≡ Some s
        → (if is_done s.reply.outcome then (without_group g R) else R) ≡ list_of R (if b then InUse else Removed (without_group g R))
    by true e = ap (λ p. if is_done p then (without_group g R) else R) (told_so (Refused refusal.InUse) w is s e)
    by false e = ap (λ p. if is_done p then (without_group g R) else R) (told_so (Done None) w is s e)

-- the list after a command is the one that its reply tells
told_list : (R : Grouped) (w : World) (c : Command) (r : Reply) (m : World) → Takes R w c r m → list_told R c r ≡ list_after R w c
told_list R w (NewModule name mask) r m t = refl
told_list R w (SetMask name mask) r m t = refl
told_list R w (AddSection name text) r m t = refl
told_list R w (Build name budget) r m t = refl
told_list R w (Bind name index exporter decl) r m t = refl
told_list R w (Unbind name index) r m t = refl
told_list R w (Call name decl args budget) r m t = refl
told_list R w (Discard name) r m t = refl
told_list R w (RemoveGroup name) r m t = removal_told R (group_named name R) w (t.used ++ []) (record { reply = r; world = m; left = [] }) (t.tells [])

-- ---- the masks of modules, through all commands

abbrev PlaceHas : (ℕ → Type 0) → Option ModuleState → Type 0
PlaceHas P None = Unit {0}
PlaceHas P (Some m) = P m.mask

abbrev StepHas : (ℕ → Type 0) → Option Stepped → Type 0
StepHas P None = Unit {0}
StepHas P (Some s) = All (PlaceHas P) s.world.modules.places

place_unbound : (P : ℕ → Type 0) (i : ℕ) (o : Option ModuleState) → PlaceHas P o → PlaceHas P (option_map (unbound_module i) o)
place_unbound P i None h = tt
place_unbound P i (Some m) h = h

state_has : (P : ℕ → Type 0) (name : List ℕ) (o : Option ModuleState) → has_name name o ≡ true → PlaceHas P o → P (module_in o).mask
state_has P name None e h = absurd (let x : ⊥ = cc in x)
state_has P name (Some m) e h = h

-- Each module's mask is such a number, and so is each that the command gives.
module _ (P : ℕ → Type 0) (w : World) (h : All (PlaceHas P) w.modules.places) where
  here : (name : List ℕ) (i : ℕ) → module_named name w ≡ Some i → P (module_at w i).mask
  here name i e =
      let p = position-passes (has_name name) w.modules.places i None e in
      state_has P name (slice_index_or w.modules.places i None) p.1 (h i None p.0)

  on_named : (name : List ℕ) (o : Option ℕ) (is : List Input) (go : ℕ → ModuleState → List Input → Option Stepped) → module_named name w ≡ o
      → ((i : ℕ) → P (module_at w i).mask → StepHas P (go i (module_at w i) is)) → StepHas P (on_module o w is go)
  on_named name None is go e k = h
  on_named name (Some i) is go e k = k i (here name i e)

  on_two : (name : List ℕ) (o p : Option ℕ) (is : List Input) (go : ℕ → ModuleState → ℕ → ModuleState → List Input → Option Stepped) → module_named name w ≡ o
      → ((i j : ℕ) → P (module_at w i).mask → StepHas P (go i (module_at w i) j (module_at w j) is)) → StepHas P (on_both o p w is go)
  on_two name None p is go e k = h
  on_two name (Some i) None is go e k = h
  on_two name (Some i) (Some j) is go e k = k i j (here name i e)

  set_has : (i : ℕ) (m : ModuleState) → P m.mask → All (PlaceHas P) (slice_set w.modules.places i (Some m))
  set_has i m k = All-set (PlaceHas P) w.modules.places i (Some m) k h

  more_has : All (PlaceHas P) (w.modules.places ++ None ∷ [])
  more_has = All-append (PlaceHas P) w.modules.places (None ∷ []) h (All-cons (PlaceHas P) None [] tt (All-nil (PlaceHas P)))

  placed_has : (o : Option ℕ) (m : ModuleState) (is : List Input) → P m.mask → StepHas P (in_place o m w is)
  placed_has (Some i) m is k = set_has i m k
  placed_has None m is k = by (nat_le most_modules (length w.modules.places))
    where
      by : (b : Bool) → StepHas P (if b then (refused refusal.Limit w is) else (answered (Done None) (with_module (length w.modules.places) m (with_place w)) is))
      by true = h
      by false = All-set (PlaceHas P) (w.modules.places ++ None ∷ []) (length w.modules.places) (Some m) k more_has

  free_has : (o : Option ℕ) (name : List ℕ) (mask : ℕ) (is : List Input) → P mask → StepHas P (where_free o name mask w is)
  free_has (Some i) name mask is k = h
  free_has None name mask is k = placed_has (empty_place w) (fresh_module name mask) is k

  new_has : (name : List ℕ) (mask : ℕ) (is : List Input) → P mask → StepHas P (added_module name mask w is)
  new_has name mask is k = by (is_identifier name)
    where
      by : (b : Bool) → StepHas P (if b then (where_free (module_named name w) name mask w is) else (refused refusal.BadName w is))
      by true = free_has (module_named name w) name mask is k
      by false = h

  section_has : (text : List ℕ) (i : ℕ) (is : List Input) → P (module_at w i).mask → StepHas P (add_section text w i (module_at w i) is)
  section_has text i is k = by (nat_le most_sections (length (module_at w i).sections))
    where
      by : (b : Bool) → StepHas P (or_limit (if b then None else Some (record (module_at w i) { sections = (module_at w i).sections ++ text ∷ [] })) w i is)
      by true = h
      by false = set_has i (record (module_at w i) { sections = (module_at w i).sections ++ text ∷ [] }) k

  linked_has : (g : Option Routine) (i index : ℕ) (p : Program) → P (module_at w i).mask → All (PlaceHas P) (linked g w i (module_at w i) p index).modules.places
  linked_has g i index p k = set_has i (record (module_at w i) { program = Some (with_link index g p) }) k

  import_has : (f : Option ScriptFunction) (i index : ℕ) (p : Program) (is : List Input) → P (module_at w i).mask → StepHas P (unbind_import f w i (module_at w i) p index is)
  import_has None i index p is k = h
  import_has (Some f) i index p is k = linked_has None i index p k

  unbind_has : (o : Option Program) (index i : ℕ) (is : List Input) → P (module_at w i).mask → StepHas P (unbind_program o index w i (module_at w i) is)
  unbind_has None index i is k = h
  unbind_has (Some p) index i is k = import_has (slice_get p.names.imports index) i index p is k

  bound_has : (r : Result Routine Refusal) (i index : ℕ) (p : Program) (is : List Input) → P (module_at w i).mask → StepHas P (bound r w i (module_at w i) p index is)
  bound_has (Ok g) i index p is k = linked_has (Some g) i index p k
  bound_has (Err why) i index p is k = h

  bind_has : (o q : Option Program) (index : ℕ) (decl : List ℕ) (i j : ℕ) (is : List Input) → P (module_at w i).mask → StepHas P (bind_programs o q index decl w i (module_at w i) j is)
  bind_has None q index decl i j is k = h
  bind_has (Some p) None index decl i j is k = h
  bind_has (Some p) (Some q) index decl i j is k = bound_has (link_of (slice_get p.names.imports index) j q decl) i index p is k

  called_has : (r : Result Slot Fault) (v : RunWorld) (f : ScriptFunction) → All (PlaceHas P) (called r v w f).world.modules.places
  called_has (Ok v) x f = h
  called_has (Err fault) x f = h

  chosen_has : (c : Choice) (i budget : ℕ) (is : List Input) → StepHas P (call_chosen c w i budget is)
  chosen_has (Not why) i budget is = h
  chosen_has (Chosen n f slots) i budget is = let e = call_end w i budget n slots is in called_has e.result e.world f

  call_has : (o : Option Program) (decl : List ℕ) (args : List Value) (budget i : ℕ) (is : List Input) → StepHas P (call_program o decl args budget w i is)
  call_has None decl args budget i is = h
  call_has (Some p) decl args budget i is = by (is_budget budget)
    where
      by : (b : Bool) → StepHas P (if b then (call_chosen (choice_of p decl args) w i budget is) else (refused refusal.BadBudget w is))
      by true = chosen_has (choice_of p decl args) i budget is
      by false = h

  -- the modules, of which none has a binding to module i
  abbrev left : ℕ → List (Option ModuleState)
  left i = list_map (option_map (unbound_module i)) w.modules.places

  left_has : (i : ℕ) (o : Option ModuleState) → PlaceHas P o → All (PlaceHas P) (slice_set (left i) i o)
  left_has i o k =
      All-set (PlaceHas P) (left i) i o k
      (All-map (PlaceHas P) (option_map (unbound_module i)) w.modules.places (λ n d lt. place_unbound P i (slice_index_or w.modules.places n d) (h n d lt)))

  initialized_has : (r : Result Slot Fault) (x : RunWorld) (i : ℕ) (m : ModuleState) (p : Program) → P m.mask → All (PlaceHas P) (initialized r x (all_unbound_from i w) i m p).world.modules.places
  initialized_has (Ok v) x i m p k = left_has i (Some (with_program p m)) k
  initialized_has (Err f) x i m p k = left_has i (Some (emptied m)) k

  after_build_has : (V : RegistrationList) (ds : List Denial) (b : Built) (i : ℕ) (m : ModuleState) (budget : ℕ) (r : RunWorld) → P m.mask
      → All (PlaceHas P) (after_build V ds b (all_unbound_from i w) i m budget r).world.modules.places
  after_build_has V ds (Errors es) i m budget r k = left_has i (Some (emptied m)) k
  after_build_has V ds (Compiled q) i m budget r k =
      let p = program_over V q in
      let e = initializers_end (placed (all_unbound_from i w) i (with_program p m)) i p budget r in
      initialized_has e.result e.world i m p k

  build_by : (R : RegistrationList) (i budget : ℕ) (m : ModuleState) (is : List Input) → P m.mask → StepHas P (build R w i m budget is)
  build_by R i budget m [] k = tt
  build_by R i budget m (Said x ∷ is) k = tt
  build_by R i budget m (Tallied x ∷ is) k = tt
  build_by R i budget m (Fresh x ∷ is) k = tt
  build_by R i budget m (Room true ∷ is) k = after_build_has (seen R m.mask) (denials_in R m.mask m.sections) (build_of (seen R m.mask) m.sections) i m budget (globals_ended i (running w is)) k
  build_by R i budget m (Room false ∷ is) k = left_has i (Some (emptied m)) k

  build_has : (R : RegistrationList) (budget i : ℕ) (is : List Input) → P (module_at w i).mask → StepHas P (build_within budget R w i (module_at w i) is)
  build_has R budget i is k = by (is_budget budget)
    where
      by : (b : Bool) → StepHas P (if b then (build R w i (module_at w i) budget is) else (refused refusal.BadBudget w is))
      by true = build_by R i budget (module_at w i) is k
      by false = h

  removing_has : (x : Removal) (is : List Input) → StepHas P (removing x w is)
  removing_has (Removed s) is = h
  removing_has NoGroup is = h
  removing_has InUse is = h

  judged_has : (R : Grouped) (c : Command) (is : List Input) → All P (mask_in c) → StepHas P (judged R w c is)
  judged_has R (NewModule name mask) is k = new_has name mask.0 is (All-head P mask.0 [] k)
  judged_has R (SetMask name mask) is k =
      on_named name (module_named name w) is (set_mask mask.0 w) refl (λ i own. set_has i (record (module_at w i) { mask = mask.0 }) (All-head P mask.0 [] k))
  judged_has R (AddSection name text) is k = on_named name (module_named name w) is (add_section text w) refl (λ i own. section_has text i is own)
  judged_has R (Build name budget) is k = on_named name (module_named name w) is (build_within budget R.entries w) refl (λ i own. build_has R.entries budget i is own)
  judged_has R (Bind name index exporter decl) is k =
      on_two name (module_named name w) (module_named exporter w) is (bind index decl w) refl (λ i j own. bind_has (module_at w i).program (module_at w j).program index decl i j is own)
  judged_has R (Unbind name index) is k = on_named name (module_named name w) is (unbind index w) refl (λ i own. unbind_has (module_at w i).program index i is own)
  judged_has R (Call name decl args budget) is k = on_named name (module_named name w) is (call decl args budget w) refl (λ i own. call_has (module_at w i).program decl args budget i is)
  judged_has R (Discard name) is k = on_named name (module_named name w) is (discard w) refl (λ i own. left_has i None tt)
  judged_has R (RemoveGroup name) is k = removing_has (removal name R w.modules) is

  granted_has : (R : Grouped) (c : Command) (is : List Input) → All P (mask_in c) → StepHas P (granted R w c is)
  granted_has R c [] k = tt
  granted_has R c (Said x ∷ is) k = tt
  granted_has R c (Tallied x ∷ is) k = tt
  granted_has R c (Fresh x ∷ is) k = tt
  granted_has R c (Room true ∷ is) k = judged_has R c is k
  granted_has R c (Room false ∷ is) k = h

  step_has : (R : Grouped) (c : Command) (is : List Input) → All P (mask_in c) → StepHas P (step R w c is)
  step_has R (NewModule name mask) is k = granted_has R (NewModule name mask) is k
  step_has R (SetMask name mask) is k = judged_has R (SetMask name mask) is k
  step_has R (AddSection name text) is k = granted_has R (AddSection name text) is k
  step_has R (Build name budget) is k = granted_has R (Build name budget) is k
  step_has R (Bind name index exporter decl) is k = granted_has R (Bind name index exporter decl) is k
  step_has R (Unbind name index) is k = judged_has R (Unbind name index) is k
  step_has R (Call name decl args budget) is k = granted_has R (Call name decl args budget) is k
  step_has R (Discard name) is k = granted_has R (Discard name) is k
  step_has R (RemoveGroup name) is k = judged_has R (RemoveGroup name) is k

-- ---- each module's mask is one of those that commands gave

abbrev AreGiven : List ℕ → World → Type 0
AreGiven ms w = All (PlaceHas (Contains ms)) w.modules.places

given_still : (ks ms : List ℕ) (o : Option ModuleState) → PlaceHas (Contains ms) o → PlaceHas (Contains (ks ++ ms)) o
given_still ks ms None h = tt
given_still ks ms (Some m) h = Contains-append_right ks ms m.mask h

masks_given : (R : Grouped) (ms : List ℕ) (w : World) (c : Command) (r : Reply) (m : World) → AreGiven ms w → Takes R w c r m → AreGiven (masks_with c ms) m
masks_given R ms w c r m h t =
    let before : AreGiven (masks_with c ms) w = λ k d lt. given_still (mask_in c) ms (slice_index_or w.modules.places k d) (h k d lt) in
    let own : All (Contains (masks_with c ms)) (mask_in c) = λ k d lt. Contains-append_left (mask_in c) ms (slice_index_or (mask_in c) k d) (All-contains_itself (mask_in c) k d lt) in
    subst (StepHas (Contains (masks_with c ms))) (t.tells []) (step_has (Contains (masks_with c ms)) w before R c (t.used ++ []) own)

-- so a build sees the same of two lists that show the same to each of those
sees_told : (R S : Grouped) (ms : List ℕ) (w : World) (c : Command) → AreGiven ms w → BuildsSame R S ms c → SeesSame R S w c
sees_told R S ms w (NewModule name mask) h k = tt
sees_told R S ms w (SetMask name mask) h k = tt
sees_told R S ms w (AddSection name text) h k = tt
sees_told R S ms w (Build name budget) h k = λ i e b. All-contains (λ m. seen R.entries m ≡ seen S.entries m) ms (module_at w i).mask k (here (Contains ms) w h name i e)
sees_told R S ms w (Bind name index exporter decl) h k = tt
sees_told R S ms w (Unbind name index) h k = tt
sees_told R S ms w (Call name decl args budget) h k = tt
sees_told R S ms w (Discard name) h k = tt
sees_told R S ms w (RemoveGroup name) h k = tt

-- ---- the law

both_told : (cs : List BoundedCommand) (rs ss : List Reply) (R S : Grouped) (ms : List ℕ) (w u v x : World) → AreGiven ms w → InTurn Takes R w cs rs v → InTurn Takes S u cs ss x → AllBuildsSame R S ms cs rs ss
    → All IsUnrefused rs → All IsUnrefused ss → BothInTurn BothUnrefused R S w u cs rs ss v x
both_told [] [] [] R S ms w u v x h d f k p q = (d, f)
both_told [] [] (s ∷ ss) R S ms w u v x h d f k p q = absurd f
both_told [] (r ∷ rs) ss R S ms w u v x h d f k p q = absurd d
both_told (c ∷ cs) [] ss R S ms w u v x h d f k p q = absurd d
both_told (c ∷ cs) (r ∷ rs) [] R S ms w u v x h d f k p q = absurd f
both_told (c ∷ cs) (r ∷ rs) (s ∷ ss) R S ms w u v x h d f k p q =
    let before = bounded_by c.bounds w in
    let again = bounded_by c.bounds u in
    let more = masks_with c.command ms in
    let further =
    subst (λ L. AllBuildsSame (list_after R before c.command) L more cs rs ss) (told_list S again c.command s f.0 f.1)
    (subst (λ L. AllBuildsSame L (list_told S c.command s) more cs rs ss) (told_list R before c.command r d.0 d.1) k.1) in (
      d.0,
      f.0,
      ((d.1, All-head IsUnrefused r rs p), (f.1, All-head IsUnrefused s ss q), sees_told R S ms before c.command h k.0),
      both_told cs rs ss (list_after R before c.command) (list_after S again c.command) more d.0 f.0 v x (masks_given R ms before c.command r d.0 h d.1) d.2 f.2 further
          (All-tail IsUnrefused r rs p) (All-tail IsUnrefused s ss q),
    )

pub replies_tell : RepliesTell
replies_tell R S cs rs ss v w registered d e k p q same =
    unrefused_reply_alike R S cs rs ss v w registered (both_told cs rs ss R S [] no_modules no_modules v w (All-nil (PlaceHas (Contains []))) d e k p q) same
