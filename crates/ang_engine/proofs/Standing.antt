-- What built modules use stands in the registration list, through all commands and where a group goes.
use Rattle.std.proofs.Common.{◌≡◌, ◌+◌, ◌<◌, refl, ap, sym, ◌∙◌, subst, arith, ℕ, zero, suc, Bool, true, false, not, ◌&&◌, ◌||◌, List, [], ◌∷◌, ◌++◌, length, Option, Some, None, map, option_map}
use Rattle.std.specs.Prelude.{Result, Ok, Err, IsSome, is_some, if◌then◌else◌, nat_le, position, is_none, slice_get, slice_index_or, slice_set}
use Rattle.std.specs.List.{AllZip, list_any}
use Rattle.ang_kinds.specs.declared.value.Value.{Value}
use Rattle.ang_kinds.specs.declared.fault.Fault.{Fault}
use Rattle.ang_kinds.specs.declared.error.Denial.{Denial}
use Rattle.ang_lex.specs.Spelling.{is_identifier}
use Rattle.ang_view.specs.declared.entry.Entry.{Entry}
use Rattle.ang_view.specs.declared.group.Group.{Group}
use Rattle.ang_view.specs.Groups.{Grouped, group_named, is_in, is_named_outside, left_outside, without_group}
use Rattle.ang_view.specs.Hidden.{numbers_of}
use Rattle.ang_view.specs.Only.{IsWithin, only}
use Rattle.ang_view.specs.Registration.{RegistrationList, entry_at, seen}
use Rattle.ang_view.proofs.Entries.{entry_at-lt}
use Rattle.ang_view.proofs.Grouping.{none_at}
use Rattle.ang_view.proofs.Keeping.{only_gives, only_within, within_still}
use Rattle.ang_view.proofs.Seen.{length-seen}
use Rattle.ang_typed.specs.Uses.{uses}
use Rattle.ang_engine_build.specs.Narrowed.{is_among, narrowed}
use Rattle.ang_names_known.specs.declared.names.ScriptFunction.{ScriptFunction}
use Rattle.ang_meaning.specs.declared.routine.Routine.{Routine}
use Rattle.ang_meaning.specs.declared.slot.Slot.{Slot}
use Rattle.ang_meaning.specs.World.{Input, Room, Said, Tallied, Fresh, World as RunWorld}
use Rattle.ang_engine_build.specs.Build.{Resolved, Built, Errors, Compiled, build_of, denials_in}
use Rattle.ang_engine_modules.specs.declared.modules.LoadedModule.{LoadedModule}
use Rattle.ang_engine_modules.specs.declared.command.Command.{Command}
use Rattle.ang_engine_modules.specs.declared.command.Command.TheVariants.{NewModule, SetMask, AddSection, Build, Bind, Unbind, Call, Discard, RemoveGroup}
use Rattle.ang_engine_modules.specs.declared.module.Module.{Module}
use Rattle.ang_engine_modules.specs.declared.reply.Refusal.{Refusal}
use Rattle.ang_engine_modules.specs.declared.reply.Outcome.TheVariants.{Done}
use Rattle.ang_engine_modules.specs.declared.reply.Refusal.TheVariants.{BadBudget, BadName, Limit}
use Rattle.ang_engine_modules.specs.World.{Program, ModuleState, ModuleStates, World, module_named, module_in, module_at, placed, unbound_program, unbound_module, all_unbound_from, running, globals_ended}
use Rattle.ang_engine_modules.specs.Commands.{Stepped, answered, fresh_module, with_place, with_module, with_link, linked, in_place, empty_place, where_free, added_module, set_mask, or_limit, add_section, unbind_import, unbind_program, unbind, discard, refused, on_module, on_both, most_modules, most_sections}
use Rattle.ang_engine.specs.Step.{is_budget, emptied, with_program, program_over, initializers_end, initialized, started, after_build, build, build_within, bound, link_of, bind_programs, bind, Choice, Chosen, Not, choice_of, called, call_ended, call_end, call_chosen, call_program, call, judged, granted, step}
use Rattle.ang_engine_modules.specs.Keeping.{keeps, place_keeps}
use Rattle.ang_engine.specs.Groups.{uses_entry, uses_group, program_uses, place_uses, is_used, Removal, Removed, NoGroup, InUse, removal_of, removal, removing, ProgramStands, PlaceStands, AllStand, StepStands}
use Rattle.ang_engine.specs.Sound.{IsBuiltBy, IsSoundPlace, HaveDrivers}

-- ---- places

module _ (R : RegistrationList) where
  all_set : (ps : List (Option ModuleState)) (i : ℕ) (o : Option ModuleState) → AllStand R ps → PlaceStands R o → AllStand R (slice_set ps i o)
  all_set [] i o h k = tt
  all_set (p ∷ ps) zero o h k = (k, h.1)
  all_set (p ∷ ps) (suc i) o h k = (h.0, all_set ps i o h.1 k)

  all_more : (ps : List (Option ModuleState)) → AllStand R ps → AllStand R (ps ++ None ∷ [])
  all_more [] h = (tt, tt)
  all_more (p ∷ ps) h = (h.0, all_more ps h.1)

  all_found : (ps : List (Option ModuleState)) (i : ℕ) → AllStand R ps → PlaceStands R (slice_index_or ps i None)
  all_found [] i h = tt
  all_found (p ∷ ps) zero h = h.0
  all_found (p ∷ ps) (suc i) h = all_found ps i h.1

  state_stands : (o : Option ModuleState) → PlaceStands R o → ProgramStands R (module_in o).built_mask (module_in o).program
  state_stands None h = tt
  state_stands (Some m) h = h

  program_unbound : (mask i : ℕ) (o : Option Program) → ProgramStands R mask o → ProgramStands R mask (option_map (unbound_program i) o)
  program_unbound mask i None h = tt
  program_unbound mask i (Some p) h = h

  place_unbound : (i : ℕ) (o : Option ModuleState) → PlaceStands R o → PlaceStands R (option_map (unbound_module i) o)
  place_unbound i None h = tt
  place_unbound i (Some m) h = program_unbound m.built_mask i m.program h

  all_unbound : (i : ℕ) (ps : List (Option ModuleState)) → AllStand R ps → AllStand R (map (option_map (unbound_module i)) ps)
  all_unbound i [] h = tt
  all_unbound i (p ∷ ps) h = (place_unbound i p h.0, all_unbound i ps h.1)

  -- what a module keeps of what it sees stands
  pub kept_stands : (mask : ℕ) (q : Resolved) → IsWithin (program_over (seen R mask) q).view (seen R mask)
  unfolding narrowed
  kept_stands mask q = only_within (is_among (uses q.tree)) (seen R mask)

-- ---- the commands

module _ (R : RegistrationList) (w : World) (h : AllStand R w.modules.places) where
  here : (i : ℕ) → ProgramStands R (module_at w i).built_mask (module_at w i).program
  here i = state_stands R (slice_index_or w.modules.places i None) (all_found R w.modules.places i h)

  on_named : (o : Option ℕ) (is : List Input) (go : ℕ → ModuleState → List Input → Option Stepped) → ((i : ℕ) → StepStands R (go i (module_at w i) is)) → StepStands R (on_module o w is go)
  on_named None is go k = h
  on_named (Some i) is go k = k i

  on_two : (o p : Option ℕ) (is : List Input) (go : ℕ → ModuleState → ℕ → ModuleState → List Input → Option Stepped) → ((i j : ℕ) → StepStands R (go i (module_at w i) j (module_at w j) is))
      → StepStands R (on_both o p w is go)
  on_two None p is go k = h
  on_two (Some i) None is go k = h
  on_two (Some i) (Some j) is go k = k i j

  placed_stands : (o : Option ℕ) (m : ModuleState) (is : List Input) → PlaceStands R (Some m) → StepStands R (in_place o m w is)
  placed_stands (Some i) m is k = all_set R w.modules.places i (Some m) h k
  placed_stands None m is k = by (nat_le most_modules (length w.modules.places))
    where
      by : (b : Bool) → StepStands R (if b then (refused Limit w is) else (answered (Done None) (with_module (length w.modules.places) m (with_place w)) is))
      by true = h
      by false = all_set R (w.modules.places ++ None ∷ []) (length w.modules.places) (Some m) (all_more R w.modules.places h) k

  free_stands : (o : Option ℕ) (name : List ℕ) (mask : ℕ) (is : List Input) → StepStands R (where_free o name mask w is)
  free_stands (Some i) name mask is = h
  free_stands None name mask is = placed_stands (empty_place w) (fresh_module name mask) is tt

  new_stands : (name : List ℕ) (mask : ℕ) (is : List Input) → StepStands R (added_module name mask w is)
  new_stands name mask is = by (is_identifier name)
    where
      by : (b : Bool) → StepStands R (if b then (where_free (module_named name w) name mask w is) else (refused BadName w is))
      by true = free_stands (module_named name w) name mask is
      by false = h

  mask_stands : (mask i : ℕ) (is : List Input) → StepStands R (set_mask mask w i (module_at w i) is)
  mask_stands mask i is = all_set R w.modules.places i (Some (record (module_at w i) { mask = mask })) h (here i)

  section_stands : (text : List ℕ) (i : ℕ) (is : List Input) → StepStands R (add_section text w i (module_at w i) is)
  section_stands text i is = by (nat_le most_sections (length (module_at w i).sections))
    where
      by : (b : Bool) → StepStands R (or_limit (if b then None else Some (record (module_at w i) { sections = (module_at w i).sections ++ text ∷ [] })) w i is)
      by true = h
      by false = all_set R w.modules.places i (Some (record (module_at w i) { sections = (module_at w i).sections ++ text ∷ [] })) h (here i)

  -- an import of a module leads elsewhere
  linked_stands : (g : Option Routine) (i index : ℕ) (p : Program) → IsWithin p.view (seen R (module_at w i).built_mask) → AllStand R (linked g w i (module_at w i) p index).modules.places
  linked_stands g i index p k = all_set R w.modules.places i (Some (record (module_at w i) { program = Some (with_link index g p) })) h k

  import_stands : (f : Option ScriptFunction) (i index : ℕ) (p : Program) (is : List Input) → IsWithin p.view (seen R (module_at w i).built_mask) → StepStands R (unbind_import f w i (module_at w i) p index is)
  import_stands None i index p is k = h
  import_stands (Some f) i index p is k = linked_stands None i index p k

  unbind_by : (o : Option Program) (index i : ℕ) (is : List Input) → ProgramStands R (module_at w i).built_mask o → StepStands R (unbind_program o index w i (module_at w i) is)
  unbind_by None index i is k = h
  unbind_by (Some p) index i is k = import_stands (slice_get p.names.imports index) i index p is k

  unbind_stands : (index i : ℕ) (is : List Input) → StepStands R (unbind index w i (module_at w i) is)
  unbind_stands index i is = unbind_by (module_at w i).program index i is (here i)

  bound_stands : (r : Result Routine Refusal) (i index : ℕ) (p : Program) (is : List Input) → IsWithin p.view (seen R (module_at w i).built_mask) → StepStands R (bound r w i (module_at w i) p index is)
  bound_stands (Ok g) i index p is k = linked_stands (Some g) i index p k
  bound_stands (Err why) i index p is k = h

  bind_by : (o q : Option Program) (index : ℕ) (decl : List ℕ) (i j : ℕ) (is : List Input) → ProgramStands R (module_at w i).built_mask o → StepStands R (bind_programs o q index decl w i (module_at w i) j is)
  bind_by None q index decl i j is k = h
  bind_by (Some p) None index decl i j is k = h
  bind_by (Some p) (Some q) index decl i j is k = bound_stands (link_of (slice_get p.names.imports index) j q decl) i index p is k

  bind_stands : (index : ℕ) (decl : List ℕ) (i j : ℕ) (is : List Input) → StepStands R (bind index decl w i (module_at w i) j (module_at w j) is)
  bind_stands index decl i j is = bind_by (module_at w i).program (module_at w j).program index decl i j is (here i)

  called_stands : (r : Result Slot Fault) (v : RunWorld) (f : ScriptFunction) → AllStand R (called r v w f).world.modules.places
  called_stands (Ok v) x f = h
  called_stands (Err fault) x f = h

  chosen_stands : (c : Choice) (i budget : ℕ) (is : List Input) → StepStands R (call_chosen c w i budget is)
  chosen_stands (Not why) i budget is = h
  chosen_stands (Chosen n f slots) i budget is = let e = call_end w i budget n slots is in called_stands e.result e.world f

  call_by : (o : Option Program) (decl : List ℕ) (args : List Value) (budget i : ℕ) (is : List Input) → StepStands R (call_program o decl args budget w i is)
  call_by None decl args budget i is = h
  call_by (Some p) decl args budget i is = by (is_budget budget)
    where
      by : (b : Bool) → StepStands R (if b then (call_chosen (choice_of p decl args) w i budget is) else (refused BadBudget w is))
      by true = chosen_stands (choice_of p decl args) i budget is
      by false = h

  discard_stands : (i : ℕ) (is : List Input) → StepStands R (discard w i (module_at w i) is)
  discard_stands i is = all_set R (map (option_map (unbound_module i)) w.modules.places) i None (all_unbound R i w.modules.places h) tt

  -- ---- a build

  abbrev left : ℕ → List (Option ModuleState)
  left i = map (option_map (unbound_module i)) w.modules.places

  emptied_stands : (i : ℕ) (m : ModuleState) → AllStand R (slice_set (left i) i (Some (emptied m)))
  emptied_stands i m = all_set R (left i) i (Some (emptied m)) (all_unbound R i w.modules.places h) tt

  initialized_stands : (r : Result Slot Fault) (x : RunWorld) (i : ℕ) (m : ModuleState) (q : Resolved)
      → AllStand R (initialized r x (all_unbound_from i w) i m (program_over (seen R m.mask) q)).world.modules.places
  initialized_stands (Ok v) x i m q =
      all_set R (left i) i (Some (with_program (program_over (seen R m.mask) q) m)) (all_unbound R i w.modules.places h) (kept_stands R m.mask q)
  initialized_stands (Err f) x i m q = emptied_stands i m

  after_build_stands : (ds : List Denial) (b : Built) (i : ℕ) (m : ModuleState) (budget : ℕ) (r : RunWorld) → AllStand R (after_build (seen R m.mask) ds b (all_unbound_from i w) i m budget r).world.modules.places
  after_build_stands ds (Errors es) i m budget r = emptied_stands i m
  after_build_stands ds (Compiled q) i m budget r =
      let p = program_over (seen R m.mask) q in
      let e = initializers_end (placed (all_unbound_from i w) i (with_program p m)) i p budget r in
      initialized_stands e.result e.world i m q

  build_by : (i budget : ℕ) (m : ModuleState) (is : List Input) → StepStands R (build R w i m budget is)
  build_by i budget m [] = tt
  build_by i budget m (Said x ∷ is) = tt
  build_by i budget m (Tallied x ∷ is) = tt
  build_by i budget m (Fresh x ∷ is) = tt
  build_by i budget m (Room true ∷ is) = after_build_stands (denials_in R m.mask m.sections) (build_of (seen R m.mask) m.sections) i m budget (globals_ended i (running w is))
  build_by i budget m (Room false ∷ is) = emptied_stands i m

  build_stands : (budget i : ℕ) (is : List Input) → StepStands R (build_within budget R w i (module_at w i) is)
  build_stands budget i is = by (is_budget budget)
    where
      by : (b : Bool) → StepStands R (if b then (build R w i (module_at w i) budget is) else (refused BadBudget w is))
      by true = build_by i budget (module_at w i) is
      by false = h

-- ---- any command

module _ (R : Grouped) (w : World) (h : AllStand R.entries w.modules.places) where
  removing_stands : (x : Removal) (is : List Input) → StepStands R.entries (removing x w is)
  removing_stands (Removed s) is = h
  removing_stands NoGroup is = h
  removing_stands InUse is = h

  judged_stands : (c : Command) (is : List Input) → StepStands R.entries (judged R w c is)
  judged_stands (NewModule name mask) is = new_stands R.entries w h name mask.0 is
  judged_stands (SetMask name mask) is = on_named R.entries w h (module_named name w) is (set_mask mask.0 w) (λ i. mask_stands R.entries w h mask.0 i is)
  judged_stands (AddSection name text) is = on_named R.entries w h (module_named name w) is (add_section text w) (λ i. section_stands R.entries w h text i is)
  judged_stands (Build name budget) is = on_named R.entries w h (module_named name w) is (build_within budget R.entries w) (λ i. build_stands R.entries w h budget i is)
  judged_stands (Bind name index exporter decl) is = on_two R.entries w h (module_named name w) (module_named exporter w) is (bind index decl w) (λ i j. bind_stands R.entries w h index decl i j is)
  judged_stands (Unbind name index) is = on_named R.entries w h (module_named name w) is (unbind index w) (λ i. unbind_stands R.entries w h index i is)
  judged_stands (Call name decl args budget) is = on_named R.entries w h (module_named name w) is (call decl args budget w) (λ i. call_by R.entries w h (module_at w i).program decl args budget i is)
  judged_stands (Discard name) is = on_named R.entries w h (module_named name w) is (discard w) (λ i. discard_stands R.entries w h i is)
  judged_stands (RemoveGroup name) is = removing_stands (removal name R w.modules) is

  granted_stands : (c : Command) (is : List Input) → StepStands R.entries (granted R w c is)
  granted_stands c [] = tt
  granted_stands c (Said x ∷ is) = tt
  granted_stands c (Tallied x ∷ is) = tt
  granted_stands c (Fresh x ∷ is) = tt
  granted_stands c (Room true ∷ is) = judged_stands c is
  granted_stands c (Room false ∷ is) = h

  -- Whatever a command does, what built modules use stands after it.
  pub step_stands : (c : Command) (is : List Input) → StepStands R.entries (step R w c is)
  step_stands (NewModule name mask) is = granted_stands (NewModule name mask) is
  step_stands (SetMask name mask) is = judged_stands (SetMask name mask) is
  step_stands (AddSection name text) is = granted_stands (AddSection name text) is
  step_stands (Build name budget) is = granted_stands (Build name budget) is
  step_stands (Bind name index exporter decl) is = granted_stands (Bind name index exporter decl) is
  step_stands (Unbind name index) is = judged_stands (Unbind name index) is
  step_stands (Call name decl args budget) is = granted_stands (Call name decl args budget) is
  step_stands (Discard name) is = granted_stands (Discard name) is
  step_stands (RemoveGroup name) is = judged_stands (RemoveGroup name) is

-- ---- a group goes

or_false : (b c : Bool) → (b || c) ≡ false → (b ≡ false) × (c ≡ false)
or_false true c e = cc
or_false false c e = (refl, e)

is_there : (V : RegistrationList) (n : ℕ) (x : Entry) → entry_at V n ≡ Some x → is_some (entry_at V n) ≡ true
is_there V n x e = ap is_some e

none_of : (b c : Bool) → (b && c) ≡ false → c ≡ true → not b ≡ true
none_of true c e t = cc
none_of false c e t = refl

-- it is outside the group
outside : (R : RegistrationList) (g : Group) (V : RegistrationList) (n : ℕ) → n < length R → list_any (λ k. is_in g k && keeps V k) (numbers_of R) ≡ false → keeps V n ≡ true → left_outside g n ≡ true
outside R g V n lt none k = none_of (is_in g n) (keeps V n) (none_at (λ i. is_in g i && keeps V i) 0 (length R) n (omega arith) (omega (arith, lt)) none) k

keeps_less : (b c d : Bool) → (b && (c || d)) ≡ false → (b && c) ≡ false
keeps_less true true d e = cc
keeps_less true false d e = refl
keeps_less false c d e = refl

-- What none keeps goes, and nothing else: so all that a module keeps stands still.
view_stands : (R : RegistrationList) (g : Group) (mask : ℕ) (V : RegistrationList) → uses_group R g V ≡ false → IsWithin V (seen R mask) → IsWithin V (seen (only (left_outside g) R) mask)
view_stands R g mask V none h =
    within_still (left_outside g) V R mask h
    (λ n x e.
    let lt : n < length R = omega (arith, entry_at-lt (seen R mask) n x (h n x e), length-seen R mask) in
    none_of (is_in g n) (keeps V n)
    (keeps_less (is_in g n) (keeps V n) _ (none_at (λ i. is_in g i && uses_entry R V i) 0 (length R) n (omega arith) (omega (arith, lt)) none))
    (is_there V n x e))

program_left : (R : RegistrationList) (g : Group) (mask : ℕ) (o : Option Program) → program_uses R g o ≡ false → ProgramStands R mask o → ProgramStands (only (left_outside g) R) mask o
program_left R g mask None none h = tt
program_left R g mask (Some p) none h = view_stands R g mask p.view none h

place_left : (R : RegistrationList) (g : Group) (o : Option ModuleState) → place_uses R g o ≡ false → PlaceStands R o → PlaceStands (only (left_outside g) R) o
place_left R g None none h = tt
place_left R g (Some m) none h = program_left R g m.built_mask m.program none h

pub all_left : (r : Grouped) (g : Group) (ps : List (Option ModuleState)) → list_any (place_uses r.entries g) ps ≡ false → AllStand r.entries ps → AllStand (without_group g r).entries ps
all_left r g [] none h = tt
all_left r g (p ∷ ps) none h =
    let e = or_false (place_uses r.entries g p) (list_any (place_uses r.entries g) ps) none in
    (place_left r.entries g p e.0 h.0, all_left r g ps e.1 h.1)

-- The command keeps what stands.
pub removal_stands : (name : List ℕ) (r s : Grouped) (ms : ModuleStates) → AllStand r.entries ms.places → removal name r ms ≡ Removed s → AllStand s.entries ms.places
removal_stands name r s ms h e = by (group_named name r) e
  where
    done : (a b : Grouped) → Removed a ≡ Removed b → a ≡ b
    done a b e = cc

    chosen : (g : Group) (b c : Bool) → is_used r.entries g ms ≡ c → (if b || c then InUse else Removed (without_group g r)) ≡ Removed s → AllStand s.entries ms.places
    chosen g true c u e = cc
    chosen g false true u e = cc
    chosen g false false u e = subst (λ (q : Grouped). AllStand q.entries ms.places) (done (without_group g r) s e) (all_left r g ms.places u h)

    by : (o : Option Group) → removal_of o r ms ≡ Removed s → AllStand s.entries ms.places
    by None e = cc
    by (Some g) e = chosen g (is_named_outside r.entries g) (is_used r.entries g ms) refl e

-- ---- the same of the engine's own modules

loaded_left : (R : RegistrationList) (g : Group) (m : Option Module) (l : Option LoadedModule) → place_keeps R g l ≡ false → IsSoundPlace R m l → IsSoundPlace (only (left_outside g) R) m l
loaded_left R g None None none h = tt
loaded_left R g None (Some l) none h = h
loaded_left R g (Some m) None none h = tt
loaded_left R g (Some m) (Some l) none h = record {
  name = h.name;
  sight = h.sight;
  sections = h.sections;
  built = h.built;
  view = h.view;
  stands = within_still (left_outside g) l.view R m.built_mask.0 h.stands
      (λ n x e.
      let lt : n < length R = omega (arith, entry_at-lt (seen R m.built_mask.0) n x (h.stands n x e), length-seen R m.built_mask.0) in
      outside R g l.view n lt none (is_there l.view n x e));
}

-- Where no module keeps an entry of the group, the modules are sound over the list without it.
pub modules_left : (R : RegistrationList) (g : Group) (ms : List (Option Module)) (ls : List (Option LoadedModule)) → list_any (place_keeps R g) ls ≡ false → AllZip (IsSoundPlace R) ms ls
    → AllZip (IsSoundPlace (only (left_outside g) R)) ms ls
modules_left R g [] [] none h = tt
modules_left R g [] (l ∷ ls) none h = absurd h
modules_left R g (m ∷ ms) [] none h = absurd h
modules_left R g (m ∷ ms) (l ∷ ls) none h =
    let e = or_false (place_keeps R g l) (list_any (place_keeps R g) ls) none in
    (loaded_left R g m l e.0 h.0, modules_left R g ms ls e.1 h.1)

-- each entry that is left is a driver's that is there
pub drivers_left : (R : RegistrationList) (g : Group) (count : ℕ) → HaveDrivers R count → HaveDrivers (only (left_outside g) R) count
drivers_left R g count h n x e driver = h n x (only_gives (left_outside g) R n x e).1 driver
