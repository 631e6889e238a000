-- A command does the same to worlds whose modules stand in other places.
use Rattle.std.proofs.Common.{◌≡◌, refl, sym, ap, ap₂, ◌∙◌, subst, inl, arith, ◌<◌, ℕ, zero, suc, Bool, true, false, List, [], ◌∷◌, ◌++◌, length, reverse, map, Option, Some, None}
use Rattle.std.specs.Prelude.{cond, filter, not, ◌==◌, ◌⊎◌, ◌||◌, IsSome, Result, Ok, Err, bytes_eq, nat_le, is_some, option_map, position, slice_get, slice_set, slice_index_or, if◌then◌else◌}
use Rattle.ang_kinds.specs.declared.error.Denial.{Denial}
use Rattle.ang_kinds.specs.declared.fault.Fault.{Fault}
use Rattle.ang_kinds.specs.declared.value.Value.{Value}
use Rattle.ang_host.specs.declared.event.HostEvent.{HostEvent}
use Rattle.ang_view.specs.declared.group.Group.{Group}
use Rattle.ang_view.specs.Groups.{Grouped, group_named, is_named_outside, without_group}
use Rattle.ang_view.specs.Registration.{RegistrationList, seen}
use Rattle.ang_names_known.specs.declared.names.ScriptFunction.{ScriptFunction}
use Rattle.ang_names_known.specs.Lookup.{same_call}
use Rattle.ang_meaning.specs.declared.slot.Slot.{Slot}
use Rattle.ang_meaning.specs.declared.routine.Routine.{Routine}
use Rattle.ang_meaning.specs.World.{Input, Room, Said, Tallied, Fresh, World as RunWorld, give, give_all}
use Rattle.ang_meaning.specs.Results.{Reply as RunReply, Yields, Raises, give_back}
use Rattle.ang_source.specs.Meaning.{codes_in, called_with, initialized_all, routine}
use Rattle.ang_engine_build.specs.Build.{Resolved, Built, Errors, Compiled, build_of, denials_in}
use Rattle.ang_engine_call.specs.Named.{function_named_by}
use Rattle.ang_engine_call.specs.Calls.{result_of}
use Rattle.ang_engine_modules.specs.Executed.{setting_for, first_globals, initializers_of, call_of, initialization_of}
use Rattle.ang_engine_modules.specs.Modules.{module_at as built_module, trees_of}
use Rattle.ang_engine_modules.specs.Ends.{Ended, end_of}
use Rattle.ang_engine_modules.specs.declared.reply.Reply.{Reply}
use Rattle.ang_engine_modules.specs.declared.reply.Outcome.{Outcome}
use Rattle.ang_engine_modules.specs.declared.reply.Outcome.TheVariants.{Done, Failed, Refused}
use Rattle.ang_engine_modules.specs.declared.reply.Refusal.{Refusal}
use Rattle.ang_engine_modules.specs.declared.reply.Refusal.TheVariants as refusal
use Rattle.ang_engine_modules.specs.World.{Program, ModuleState, ModuleStates, World, has_name, module_named, module_in, module_at, placed, all_unbound_from, unbound_module, built_in, running, left_to, globals_ended, all_ended, engine_ended}
use Rattle.ang_engine_modules.specs.Commands.{with_link, Stepped, reply_of, answered, refused, set_mask, or_limit, add_section, linked, unbind_import, unbind_program, unbind, without, discard, on_module, on_both, most_sections}
use Rattle.ang_engine.specs.Groups as Groups
use Rattle.ang_engine.specs.Groups.{InUse, Removal, Removed, place_uses, program_uses, removal, removal_of, removing}
use Rattle.ang_engine.specs.Step.{is_budget, emptied, program_over, with_program, globals_begun, initializers_end, initialized, started, errors_reply, after_build, build, build_within, link_to, link_to_number, link_of, bound, bind_programs, bind, Choice, Chosen, Not, choice_of, called, call_end, call_chosen, call_program, call}
use Rattle.ang_engine_modules.proofs.PlaceLists.{map_set, set_at, set_length, set_set}
use Rattle.ang_alike.specs.Moved.{Moving, moved_routine, AreMovedLists, with_lists, reply_with, reply_lists, RepliesMoved}
use Rattle.std.proofs.lemmas.List.{length-map}
use Rattle.ang_alike.proofs.ByNumber.{at_unbound, set_either, home_number}
use Rattle.ang_alike.proofs.ListsStay.{call_lengths, initialized_lengths, call_lists, initialized_lists}
use Rattle.ang_alike.proofs.MovedWorlds.{give_moved, give_all_moved}
use Rattle.ang_alike.proofs.MovedResults.{put_moved, give_back_with, give_back_lists}
use Rattle.ang_alike.proofs.MovedRuns.{calls_moved, initializers_moved}
use Rattle.ang_alike.proofs.MovedPlaces.{AreUnder, under_set, under_map, under_back, any_same, some_within, put_within}
use Rattle.ang_alike.proofs.MovedModules.{same_test, moved_program, moved_state, moved_place, name_stays, state_in, link_moved, new_program, place_unbound, initializers_elsewhere, tree_there, setting_elsewhere, codes_elsewhere}
use Rattle.ang_alike.proofs.MovedOrders.{AreOrdered, ordered_put, ordered_unbound, ordered_gone}
use Rattle.ang_alike.proofs.MovedKept.{LinkLeads, ProgramLeads, PlaceLeads, links_put, unlinked_lead, Holds, Except, holds_put, holds_unbound, leads_elsewhere, holds_gone, unbound_stays, places_at, lengths_at, AreKept, IsKept, kept_as, Stands, found_stands, found_named, not_found, the_one}

-- ---- worlds whose modules stand in other places

-- The order has the new numbers.
pub record AreOrdersMoved (p : Moving) (ms ns : ModuleStates) : Type 0 where
  pub same : ns.order ≡ map p.to ms.order
  pub ordered : AreOrdered ms

-- The second world is the first one, but that each module and its globals stand under its new number. There may be more empty places in one.
pub record AreMoved (p : Moving) (w v : World) : Type 0 where
  pub places : AreUnder p (moved_place p) w.modules.places v.modules.places
  pub globals : AreMovedLists p w.globals v.globals
  pub rest : v ≡ record w { modules = v.modules; globals = v.globals }
  pub kept : IsKept w
  pub lists : length v.globals ≡ length v.modules.places
  pub orders : AreOrdersMoved p w.modules v.modules

-- the same reply, the same inputs left, and worlds that are so again
pub record IsSameStep (a b : Stepped) : Type 0 where
  pub by : Moving
  pub reply : b.reply ≡ a.reply
  pub left : b.left ≡ a.left
  pub worlds : AreMoved by a.world b.world

abbrev pub StepsMoved : Option Stepped → Option Stepped → Type 0
StepsMoved None None = Unit {0}
StepsMoved None (Some b) = ⊥
StepsMoved (Some a) None = ⊥
StepsMoved (Some a) (Some b) = IsSameStep a b

-- the world of a run with other lists of globals
pub record IsRunMoved (p : Moving) (r s : RunWorld) : Type 0 where
  pub lists : List (List Slot)
  pub same : s ≡ with_lists lists r
  pub moved : AreMovedLists p r.globals lists

pub record IsEndMoved (p : Moving) (e f : Ended) : Type 0 where
  pub result : f.result ≡ e.result
  pub world : IsRunMoved p e.world f.world

pub if_both : (b : Bool) (o q o' q' : Option Stepped) → StepsMoved o o' → StepsMoved q q' → StepsMoved (if b then o else q) (if b then o' else q')
if_both true o q o' q' h k = h
if_both false o q o' q' h k = k

pub some_moved : (p : Moving) (o : Option ModuleState) → is_some (moved_place p o) ≡ is_some o
some_moved p None = refl
some_moved p (Some m) = refl

-- ---- lists of globals

lengths_set : (gs : List (List Slot)) (i : ℕ) (ls : List Slot) → Except (lengths_at gs) (lengths_at (slice_set gs i ls)) i (length ls)
lengths_set gs i ls n =
    subst (λ ns. (slice_index_or ns n 0 ≡ lengths_at gs n) ⊎ ((n ≡ i) × (slice_index_or ns n 0 ≡ length ls))) (sym (map_set length gs i ls)) (set_either (map length gs) i n (length ls) 0)

length_gone : (gs : List (List Slot)) (i : ℕ) → lengths_at (slice_set gs i []) i ≡ 0
length_gone [] i = refl
length_gone (l ∷ gs) zero = refl
length_gone (l ∷ gs) (suc i) = length_gone gs i

name_unbound : (i : ℕ) (name : List ℕ) (o : Option ModuleState) → has_name name (option_map (unbound_module i) o) ≡ has_name name o
name_unbound i name None = refl
name_unbound i name (Some m) = refl

give_all_globals : (vs : List Slot) (w : RunWorld) → (give_all vs w).globals ≡ w.globals
give_all_globals vs w = ap (λ (u : RunWorld). u.globals) (give_all_moved (λ xs. w.globals) vs w)

give_globals : (v : Slot) (w : RunWorld) → (give v w).globals ≡ w.globals
give_globals v w = ap (λ (u : RunWorld). u.globals) (give_moved (λ xs. w.globals) v w)

ended_globals : (i : ℕ) (r : RunWorld) → (globals_ended i r).globals ≡ slice_set r.globals i []
ended_globals i r = give_back_lists (slice_index_or r.globals i []) (record r { globals = slice_set r.globals i [] })

-- ---- what a run leaves

-- a reply to what it has listed, beside these modules
abbrev step_with : (List HostEvent → Reply) → ModuleStates → RunWorld → Stepped
step_with answer ms r = record { reply = answer r.events; world = left_to ms r; left = r.inputs }

module _ (p : Moving) where
  left_by : (answer : List HostEvent → Reply) (ms ns : ModuleStates) (r : RunWorld) (hs : List (List Slot)) → AreMovedLists p r.globals hs
      → length hs ≡ length ns.places → AreUnder p (moved_place p) ms.places ns.places → AreOrdersMoved p ms ns → AreKept ms.places r.globals → IsSameStep (step_with answer ms r) (step_with answer ns (with_lists hs r))
  left_by answer ms ns r hs h long under orders kept =
      record { by = p; reply = refl; left = refl; worlds = record { places = under; globals = h; rest = refl; kept = kept; lists = long; orders = orders } }

  left_moved : (answer : List HostEvent → Reply) (ms ns : ModuleStates) (r s : RunWorld) → IsRunMoved p r s
      → length s.globals ≡ length ns.places → AreUnder p (moved_place p) ms.places ns.places → AreOrdersMoved p ms ns → AreKept ms.places r.globals
      → IsSameStep (step_with answer ms r) (step_with answer ns s)
  left_moved answer ms ns r s h long under orders kept =
      subst (λ x. IsSameStep (step_with answer ms r) (step_with answer ns x)) (sym h.same)
      (left_by answer ms ns r h.lists h.moved (sym (ap (λ (u : RunWorld). length u.globals) h.same) ∙ long) under orders kept)

  on_lists : (gs hs ks : List (List Slot)) → hs ≡ gs → AreMovedLists p gs ks → AreMovedLists p hs ks
  on_lists gs hs ks e h = subst (λ xs. AreMovedLists p xs ks) (sym e) h

  end_with : (o : RunReply) (hs : List (List Slot)) → AreMovedLists p (reply_lists o) hs → IsEndMoved p (end_of o) (end_of (reply_with hs o))
  end_with (Yields v outs t w) hs h = record {
    result = refl;
    world = record {
      lists = hs;
      same = ap (give v) (give_all_moved (λ xs. hs) outs w) ∙ give_moved (λ xs. hs) v (give_all outs w);
      moved = on_lists w.globals (give v (give_all outs w)).globals hs (give_globals v (give_all outs w) ∙ give_all_globals outs w) h;
    };
  }
  end_with (Raises f w) hs h = record { result = refl; world = record { lists = hs; same = refl; moved = h } }

  end_moved : (o o' : RunReply) → RepliesMoved p o o' → IsEndMoved p (end_of o) (end_of o')
  end_moved o o' h = subst (λ x. IsEndMoved p (end_of o) (end_of x)) (sym h.same) (end_with o h.lists h.moved)

  -- ---- globals end and begin

  ended_by : (i : ℕ) (r : RunWorld) (hs : List (List Slot)) → AreMovedLists p r.globals hs → IsRunMoved p (globals_ended i r) (globals_ended (p.to i) (with_lists hs r))
  ended_by i r hs h =
      let before : RunWorld = record r { globals = slice_set r.globals i [] } in
      record {
        lists = slice_set hs (p.to i) [];
        same =
            ap (λ vs. give_back vs (with_lists (slice_set hs (p.to i) []) before)) (h.each i)
            ∙ give_back_with (slice_index_or r.globals i []) before (slice_set hs (p.to i) []);
        moved = on_lists before.globals (globals_ended i r).globals (slice_set hs (p.to i) []) (ended_globals i r) (put_moved p r.globals hs i [] (λ e. refl) h);
      }

  ended_moved : (i : ℕ) (r s : RunWorld) → IsRunMoved p r s → IsRunMoved p (globals_ended i r) (globals_ended (p.to i) s)
  ended_moved i r s h = subst (λ x. IsRunMoved p (globals_ended i r) (globals_ended (p.to i) x)) (sym h.same) (ended_by i r h.lists h.moved)

  begun_moved : (i : ℕ) (q : Program) (r s : RunWorld) → IsRunMoved p r s → i < length r.globals → p.to i < length s.globals
      → IsRunMoved p (globals_begun i q r) (globals_begun (p.to i) q s)
  begun_moved i q r s h within there = record {
    lists = slice_set h.lists (p.to i) (first_globals q.tree);
    same = ap (globals_begun (p.to i) q) h.same;
    moved = put_within p r.globals h.lists h.moved i (first_globals q.tree) within (omega (arith, there, ap (λ (u : RunWorld). length u.globals) h.same));
  }

  -- ---- runs of modules

  module _ (ms ns : ModuleStates) (under : AreUnder p (moved_place p) ms.places ns.places) where
    call_by : (budget i n : ℕ) (slots : List Slot) (r : RunWorld) (hs : List (List Slot)) → AreMovedLists p r.globals hs
        → RepliesMoved p (call_of (built_in ms) budget i n slots r) (call_of (built_in ns) budget (p.to i) n slots (with_lists hs r))
    call_by budget i n slots r hs h =
        let z = setting_for (built_in ms) 200 in
        let codes = codes_in (trees_of (built_in ms)) in
        let other = codes_in (trees_of (built_in ns)) in
        subst
        (λ y. RepliesMoved p (called_with z codes budget (routine i n) (reverse slots) r) (called_with y other budget (routine (p.to i) n) (reverse slots) (with_lists hs r)))
        (sym (setting_elsewhere p ms.places ns.places under 200))
        (calls_moved p z codes other (codes_elsewhere p ms.places ns.places under) budget (routine i n) (reverse slots) r hs h)

    call_moved : (budget i n : ℕ) (slots : List Slot) (r s : RunWorld) → IsRunMoved p r s
        → IsEndMoved p (end_of (call_of (built_in ms) budget i n slots r)) (end_of (call_of (built_in ns) budget (p.to i) n slots s))
    call_moved budget i n slots r s h =
        subst (λ x. IsEndMoved p (end_of (call_of (built_in ms) budget i n slots r)) (end_of (call_of (built_in ns) budget (p.to i) n slots x))) (sym h.same)
        (end_moved (call_of (built_in ms) budget i n slots r) (call_of (built_in ns) budget (p.to i) n slots (with_lists h.lists r)) (call_by budget i n slots r h.lists h.moved))

    initializers_same : (i : ℕ) → initializers_of (p.to i) (built_module (built_in ns) (p.to i)).tree ≡ map (moved_routine p) (initializers_of i (built_module (built_in ms) i).tree)
    initializers_same i =
        ap (initializers_of (p.to i)) (tree_there p ms.places ns.places under i) ∙ initializers_elsewhere p i (built_module (built_in ms) i).tree

    initialization_by : (budget i : ℕ) (r : RunWorld) (hs : List (List Slot)) → AreMovedLists p r.globals hs
        → RepliesMoved p (initialization_of (built_in ms) budget i r) (initialization_of (built_in ns) budget (p.to i) (with_lists hs r))
    initialization_by budget i r hs h =
        let z = setting_for (built_in ms) 201 in
        let codes = codes_in (trees_of (built_in ms)) in
        let other = codes_in (trees_of (built_in ns)) in
        let gs : List Routine = initializers_of i (built_module (built_in ms) i).tree in
        subst (λ fs. RepliesMoved p (initialized_all z codes gs budget r) (initialized_all (setting_for (built_in ns) 201) other fs budget (with_lists hs r))) (sym (initializers_same i))
        (subst (λ y. RepliesMoved p (initialized_all z codes gs budget r) (initialized_all y other (map (moved_routine p) gs) budget (with_lists hs r)))
        (sym (setting_elsewhere p ms.places ns.places under 201))
        (initializers_moved p z codes other (codes_elsewhere p ms.places ns.places under) gs budget r hs h))

    initialization_moved : (budget i : ℕ) (r s : RunWorld) → IsRunMoved p r s
        → IsEndMoved p (end_of (initialization_of (built_in ms) budget i r)) (end_of (initialization_of (built_in ns) budget (p.to i) s))
    initialization_moved budget i r s h =
        subst (λ x. IsEndMoved p (end_of (initialization_of (built_in ms) budget i r)) (end_of (initialization_of (built_in ns) budget (p.to i) x))) (sym h.same)
        (end_moved (initialization_of (built_in ms) budget i r) (initialization_of (built_in ns) budget (p.to i) (with_lists h.lists r)) (initialization_by budget i r h.lists h.moved))

  -- those of several modules end
  all_ended_moved : (is : List ℕ) (r s : RunWorld) → IsRunMoved p r s → IsRunMoved p (all_ended is r) (all_ended (map p.to is) s)
  all_ended_moved [] r s h = h
  all_ended_moved (i ∷ is) r s h = ended_moved i (all_ended is r) (all_ended (map p.to is) s) (all_ended_moved is r s h)

  keep_by : (n : ℕ) (ns : List ℕ) (b : Bool) → cond (not b) (p.to n ∷ map p.to ns) (map p.to ns) ≡ map p.to (cond (not b) (n ∷ ns) ns)
  keep_by n ns true = refl
  keep_by n ns false = refl

  filter_moved : (i : ℕ) (ns : List ℕ) → filter (λ n. not (n == p.to i)) (map p.to ns) ≡ map p.to (filter (λ n. not (n == i)) ns)
  filter_moved i [] = refl
  filter_moved i (n ∷ ns) =
      let rest = filter (λ j. not (j == i)) ns in
      ap₂ (λ b l. cond (not b) (p.to n ∷ l) l) (same_test p n i) (filter_moved i ns) ∙ keep_by n rest (n == i)

-- ---- one command

module _ (p : Moving) (w v : World) (h : AreMoved p w v) where
  abbrev ps : List (Option ModuleState)
  ps = w.modules.places

  abbrev qs : List (Option ModuleState)
  qs = v.modules.places

  run_moved : (inputs : List Input) → IsRunMoved p (running w inputs) (running v inputs)
  run_moved inputs = record { lists = v.globals; same = ap (λ x. running x inputs) h.rest; moved = h.globals }

  pub answered_moved : (outcome : Outcome) (inputs : List Input) → StepsMoved (answered outcome w inputs) (answered outcome v inputs)
  answered_moved outcome inputs = record { by = p; reply = refl; left = refl; worlds = h }

  pub refused_moved : (why : Refusal) (inputs : List Input) → StepsMoved (refused why w inputs) (refused why v inputs)
  refused_moved why inputs = answered_moved (Refused why) inputs

  -- ---- the module of a name

  name_there : (name : List ℕ) (i : ℕ) → has_name name (places_at qs (p.to i)) ≡ has_name name (places_at ps i)
  name_there name i = ap (has_name name) (h.places.each i) ∙ name_stays p name (places_at ps i)

  name_back : (name : List ℕ) (i : ℕ) → has_name name (places_at qs i) ≡ has_name name (places_at ps (p.back i))
  name_back name i = ap (has_name name) (under_back p (moved_place p) ps qs h.places i) ∙ name_stays p name (places_at ps (p.back i))

  once_there : (name : List ℕ) (i j : ℕ) → has_name name (places_at qs i) ≡ true → has_name name (places_at qs j) ≡ true → i ≡ j
  once_there name i j a b =
      sym (p.here i) ∙ ap p.to (h.kept.holds.once name (p.back i) (p.back j) (sym (name_back name i) ∙ a) (sym (name_back name j) ∙ b)) ∙ p.here j

  none_there : (name : List ℕ) (o : Option ℕ) → position (has_name name) qs ≡ o → position (has_name name) ps ≡ None → o ≡ None
  none_there name None e none = refl
  none_there name (Some j) e none = absurd (not_found name ps none (p.back j) (sym (name_back name j) ∙ found_named name qs j e))

  named_by : (name : List ℕ) (o : Option ℕ) → module_named name w ≡ o → module_named name v ≡ option_map p.to o
  named_by name None e = none_there name (module_named name v) refl e
  named_by name (Some i) e = the_one name qs (once_there name) (p.to i) (name_there name i ∙ found_named name ps i e)

  pub named_moved : (name : List ℕ) → module_named name v ≡ option_map p.to (module_named name w)
  named_moved name = named_by name (module_named name w) refl

  module_moved : (i : ℕ) → module_at v (p.to i) ≡ moved_state p (module_at w i)
  module_moved i = ap module_in (h.places.each i) ∙ state_in p (places_at ps i)

  on_by : (inputs : List Input) (go go' : ℕ → ModuleState → List Input → Option Stepped) (o : Option ℕ)
      → ((i : ℕ) → o ≡ Some i → StepsMoved (go i (module_at w i) inputs) (go' (p.to i) (moved_state p (module_at w i)) inputs))
      → StepsMoved (on_module o w inputs go) (on_module (option_map p.to o) v inputs go')
  on_by inputs go go' None k = refused_moved refusal.NoModule inputs
  on_by inputs go go' (Some i) k = subst (λ m. StepsMoved (go i (module_at w i) inputs) (go' (p.to i) m inputs)) (sym (module_moved i)) (k i refl)

  on_moved : (name : List ℕ) (inputs : List Input) (go go' : ℕ → ModuleState → List Input → Option Stepped)
      → ((i : ℕ) → Stands ps i → StepsMoved (go i (module_at w i) inputs) (go' (p.to i) (moved_state p (module_at w i)) inputs))
      → StepsMoved (on_module (module_named name w) w inputs go) (on_module (module_named name v) v inputs go')
  on_moved name inputs go go' k =
      subst (λ o. StepsMoved (on_module (module_named name w) w inputs go) (on_module o v inputs go')) (sym (named_moved name))
      (on_by inputs go go' (module_named name w) (λ i e. k i (found_stands name ps i e)))

  -- ---- a module that changes alone

  stands_there : (i : ℕ) → Stands ps i → p.to i < length qs
  stands_there i stands = some_within qs (p.to i) (ap is_some (h.places.each i) ∙ some_moved p (places_at ps i) ∙ ap is_some stands.there)

  state_kept : (i : ℕ) (x : ModuleState) → Stands ps i → x.name ≡ (module_at w i).name → ProgramLeads (λ n. IsSome (places_at ps n)) x.program
      → AreKept (slice_set ps i (Some x)) w.globals
  state_kept i x stands name leads = record {
    lists = h.kept.lists ∙ sym (set_length ps i (Some x));
    holds = holds_put (places_at ps) (places_at (slice_set ps i (Some x))) (lengths_at w.globals) (lengths_at w.globals) i x
        (λ n. set_either ps i n (Some x) None) (set_at ps i (Some x) None stands.within) (lengths_at w.globals i) (λ n. inl refl)
        (λ l e. ap (has_name l) stands.there ∙ ap (λ k. bytes_eq k l) (sym name) ∙ e) leads h.kept.holds;
  }

  -- the program that was there leads where a module stands
  was_leading : (i : ℕ) → Stands ps i → ProgramLeads (λ n. IsSome (places_at ps n)) (module_at w i).program
  was_leading i stands = subst (PlaceLeads (λ n. IsSome (places_at ps n))) stands.there (h.kept.holds.leads i)

  state_moved : (i : ℕ) (x y : ModuleState) → y ≡ moved_state p x → Stands ps i → x.name ≡ (module_at w i).name → ProgramLeads (λ n. IsSome (places_at ps n)) x.program
      → AreMoved p (record w { modules = placed w i x }) (record v { modules = placed v (p.to i) y })
  state_moved i x y e stands name leads = record {
    places = under_set p (moved_place p) ps qs h.places i (Some x) (Some y) (ap (λ m. Some m) e) stands.within (stands_there i stands);
    globals = h.globals;
    rest = ap (λ (u : World). record u { modules = placed v (p.to i) y }) h.rest;
    kept = state_kept i x stands name leads;
    lists = h.lists ∙ sym (set_length qs (p.to i) (Some y));
    orders = record { same = h.orders.same; ordered = ordered_put w.modules i x h.orders.ordered (ap is_some stands.there) };
  }

  mask_moved : (mask i : ℕ) (inputs : List Input) → Stands ps i → StepsMoved (set_mask mask w i (module_at w i) inputs) (set_mask mask v (p.to i) (moved_state p (module_at w i)) inputs)
  mask_moved mask i inputs stands =
      let x : ModuleState = record (module_at w i) { mask = mask } in
      record { by = p; reply = refl; left = refl; worlds = state_moved i x (moved_state p x) refl stands refl (was_leading i stands) }

  section_by : (b : Bool) (i : ℕ) (x : ModuleState) (inputs : List Input) → Stands ps i → x.name ≡ (module_at w i).name → ProgramLeads (λ n. IsSome (places_at ps n)) x.program
      → StepsMoved (or_limit (if b then None else Some x) w i inputs) (or_limit (if b then None else Some (moved_state p x)) v (p.to i) inputs)
  section_by true i x inputs stands name leads = refused_moved refusal.Limit inputs
  section_by false i x inputs stands name leads = record { by = p; reply = refl; left = refl; worlds = state_moved i x (moved_state p x) refl stands name leads }

  section_moved : (text : List ℕ) (i : ℕ) (inputs : List Input) → Stands ps i
      → StepsMoved (add_section text w i (module_at w i) inputs) (add_section text v (p.to i) (moved_state p (module_at w i)) inputs)
  section_moved text i inputs stands =
      section_by (nat_le most_sections (length (module_at w i).sections)) i (record (module_at w i) { sections = (module_at w i).sections ++ text ∷ [] }) inputs stands refl (was_leading i stands)

  -- ---- Unbind, Bind

  link_put : (i index : ℕ) (q : Program) (g : Option Routine) → Stands ps i → (module_at w i).program ≡ Some q → LinkLeads (λ n. IsSome (places_at ps n)) g
      → AreMoved p (linked g w i (module_at w i) q index) (linked (option_map (moved_routine p) g) v (p.to i) (moved_state p (module_at w i)) (moved_program p q) index)
  link_put i index q g stands here leads =
      let x : ModuleState = record (module_at w i) { program = Some (with_link index g q) } in
      let y : ModuleState = record (module_at w i) { program = Some (with_link index (option_map (moved_routine p) g) (moved_program p q)) } in
      state_moved i x y (ap (λ r. record (module_at w i) { program = Some r }) (link_moved p index g q)) stands refl
      (links_put (λ n. IsSome (places_at ps n)) q.links index g leads (subst (ProgramLeads (λ n. IsSome (places_at ps n))) here (was_leading i stands)))

  unbind_one : (i index : ℕ) (q : Program) (import : Option ScriptFunction) (inputs : List Input) → Stands ps i → (module_at w i).program ≡ Some q
      → StepsMoved (unbind_import import w i (module_at w i) q index inputs) (unbind_import import v (p.to i) (moved_state p (module_at w i)) (moved_program p q) index inputs)
  unbind_one i index q None inputs stands here = refused_moved refusal.NoImport inputs
  unbind_one i index q (Some import) inputs stands here = record { by = p; reply = refl; left = refl; worlds = link_put i index q None stands here tt }

  unbind_by : (i index : ℕ) (o : Option Program) (inputs : List Input) → Stands ps i → (module_at w i).program ≡ o
      → StepsMoved (unbind_program o index w i (module_at w i) inputs) (unbind_program (option_map (moved_program p) o) index v (p.to i) (moved_state p (module_at w i)) inputs)
  unbind_by i index None inputs stands here = refused_moved refusal.NotBuilt inputs
  unbind_by i index (Some q) inputs stands here = unbind_one i index q (slice_get q.names.imports index) inputs stands here

  unbind_moved : (index i : ℕ) (inputs : List Input) → Stands ps i → StepsMoved (unbind index w i (module_at w i) inputs) (unbind index v (p.to i) (moved_state p (module_at w i)) inputs)
  unbind_moved index i inputs stands = unbind_by i index (module_at w i).program inputs stands refl

  abbrev moved_link : Result Routine Refusal → Result Routine Refusal
  moved_link (Ok g) = Ok (moved_routine p g)
  moved_link (Err why) = Err why

  fit_by : (j n : ℕ) (b : Bool)
      → ◌≡◌ {A = Result Routine Refusal} (if b then Ok (routine (p.to j) n) else Err refusal.SignatureDiffers) (moved_link (if b then Ok (routine j n) else Err refusal.SignatureDiffers))
  fit_by j n true = refl
  fit_by j n false = refl

  to_moved : (import : ScriptFunction) (j n : ℕ) (f : Option ScriptFunction) → link_to import (p.to j) n f ≡ moved_link (link_to import j n f)
  to_moved import j n None = refl
  to_moved import j n (Some f) = fit_by j n (same_call import f)

  number_moved : (import : ScriptFunction) (j : ℕ) (o : Option ℕ) (fs : List ScriptFunction) → link_to_number import (p.to j) o fs ≡ moved_link (link_to_number import j o fs)
  number_moved import j None fs = refl
  number_moved import j (Some n) fs = to_moved import j n (slice_get fs n)

  of_moved : (o : Option ScriptFunction) (j : ℕ) (q : Program) (decl : List ℕ) → link_of o (p.to j) (moved_program p q) decl ≡ moved_link (link_of o j q decl)
  of_moved None j q decl = refl
  of_moved (Some import) j q decl = number_moved import j (function_named_by q.view q.names decl) q.names.functions

  link_leading : (o : Option ScriptFunction) (j : ℕ) (q : Program) (decl : List ℕ) (g : Routine) → Stands ps j → link_of o j q decl ≡ Ok g → IsSome (places_at ps g.home)
  link_leading None j q decl g stands e = absurd (let x : ⊥ = cc in x)
  link_leading (Some import) j q decl g stands e =
      ap (λ n. is_some (places_at ps n)) (home_number import j (function_named_by q.view q.names decl) q.names.functions g e) ∙ ap is_some stands.there

  bound_by : (i index : ℕ) (q : Program) (x : Result Routine Refusal) (inputs : List Input) → Stands ps i → (module_at w i).program ≡ Some q → ((g : Routine) → x ≡ Ok g → IsSome (places_at ps g.home))
      → StepsMoved (bound x w i (module_at w i) q index inputs) (bound (moved_link x) v (p.to i) (moved_state p (module_at w i)) (moved_program p q) index inputs)
  bound_by i index q (Err why) inputs stands here k = refused_moved why inputs
  bound_by i index q (Ok g) inputs stands here k = record { by = p; reply = refl; left = refl; worlds = link_put i index q (Some g) stands here (k g refl) }

  bind_by : (i j index : ℕ) (decl : List ℕ) (o n : Option Program) (inputs : List Input) → Stands ps i → Stands ps j → (module_at w i).program ≡ o
      → StepsMoved (bind_programs o n index decl w i (module_at w i) j inputs)
      (bind_programs (option_map (moved_program p) o) (option_map (moved_program p) n) index decl v (p.to i) (moved_state p (module_at w i)) (p.to j) inputs)
  bind_by i j index decl None n inputs stands other here = refused_moved refusal.NotBuilt inputs
  bind_by i j index decl (Some a) None inputs stands other here = refused_moved refusal.NotBuilt inputs
  bind_by i j index decl (Some a) (Some b) inputs stands other here =
      let import = slice_get a.names.imports index in
      subst (λ y. StepsMoved (bound (link_of import j b decl) w i (module_at w i) a index inputs) (bound y v (p.to i) (moved_state p (module_at w i)) (moved_program p a) index inputs))
      (sym (of_moved import j b decl))
      (bound_by i index a (link_of import j b decl) inputs stands here (λ g e. link_leading import j b decl g other e))

  bind_both : (index : ℕ) (decl : List ℕ) (inputs : List Input) (o n : Option ℕ) → ((i : ℕ) → o ≡ Some i → Stands ps i) → ((j : ℕ) → n ≡ Some j → Stands ps j)
      → StepsMoved (on_both o n w inputs (bind index decl w)) (on_both (option_map p.to o) (option_map p.to n) v inputs (bind index decl v))
  bind_both index decl inputs None n k l = refused_moved refusal.NoModule inputs
  bind_both index decl inputs (Some i) None k l = refused_moved refusal.NoModule inputs
  bind_both index decl inputs (Some i) (Some j) k l =
      subst (λ m. StepsMoved (bind index decl w i (module_at w i) j (module_at w j) inputs) (bind index decl v (p.to i) m (p.to j) (module_at v (p.to j)) inputs)) (sym (module_moved i))
      (subst (λ m. StepsMoved (bind index decl w i (module_at w i) j (module_at w j) inputs) (bind index decl v (p.to i) (moved_state p (module_at w i)) (p.to j) m inputs)) (sym (module_moved j))
      (bind_by i j index decl (module_at w i).program (module_at w j).program inputs (k i refl) (l j refl) refl))

  pub bind_moved : (name exporter : List ℕ) (index : ℕ) (decl : List ℕ) (inputs : List Input)
      → StepsMoved (on_both (module_named name w) (module_named exporter w) w inputs (bind index decl w)) (on_both (module_named name v) (module_named exporter v) v inputs (bind index decl v))
  bind_moved name exporter index decl inputs =
      let one : Option Stepped = on_both (module_named name w) (module_named exporter w) w inputs (bind index decl w) in
      subst (λ o. StepsMoved one (on_both o (module_named exporter v) v inputs (bind index decl v))) (sym (named_moved name))
      (subst (λ o. StepsMoved one (on_both (option_map p.to (module_named name w)) o v inputs (bind index decl v))) (sym (named_moved exporter))
      (bind_both index decl inputs (module_named name w) (module_named exporter w) (λ i e. found_stands name ps i e) (λ j e. found_stands exporter ps j e)))

  -- ---- Call

  called_by : (x : Result Slot Fault) (r s : RunWorld) (f : ScriptFunction) → IsRunMoved p r s → map length r.globals ≡ map length w.globals → length s.globals ≡ length v.globals
      → IsSameStep (called x r w f) (called x s v f)
  called_by (Ok a) r s f k e l = left_moved p (λ es. reply_of (Done (result_of f a)) es []) w.modules v.modules r s k (l ∙ h.lists) h.places h.orders (kept_as ps w.globals r.globals e h.kept)
  called_by (Err a) r s f k e l = left_moved p (λ es. reply_of (Failed a) es []) w.modules v.modules r s k (l ∙ h.lists) h.places h.orders (kept_as ps w.globals r.globals e h.kept)

  chosen_by : (i budget : ℕ) (c : Choice) (inputs : List Input) → StepsMoved (call_chosen c w i budget inputs) (call_chosen c v (p.to i) budget inputs)
  chosen_by i budget (Not why) inputs = refused_moved why inputs
  chosen_by i budget (Chosen n f slots) inputs =
      let e : Ended = call_end w i budget n slots inputs in
      let o : Ended = call_end v (p.to i) budget n slots inputs in
      let k : IsEndMoved p e o = call_moved p w.modules v.modules h.places budget i n slots (running w inputs) (running v inputs) (run_moved inputs) in
      let ms = built_in w.modules in
      let ns = built_in v.modules in
      subst (λ x. IsSameStep (called e.result e.world w f) (called x o.world v f)) (sym k.result)
      (called_by e.result e.world o.world f k.world (call_lengths (setting_for ms 200) (codes_in (trees_of ms)) budget (routine i n) (reverse slots) (running w inputs))
      (call_lists (setting_for ns 200) (codes_in (trees_of ns)) budget (routine (p.to i) n) (reverse slots) (running v inputs)))

  call_program_by : (i budget : ℕ) (decl : List ℕ) (args : List Value) (o : Option Program) (inputs : List Input)
      → StepsMoved (call_program o decl args budget w i inputs) (call_program (option_map (moved_program p) o) decl args budget v (p.to i) inputs)
  call_program_by i budget decl args None inputs = refused_moved refusal.NotBuilt inputs
  call_program_by i budget decl args (Some q) inputs =
      if_both (is_budget budget) _ _ _ _ (chosen_by i budget (choice_of q decl args) inputs) (refused_moved refusal.BadBudget inputs)

  call_one : (decl : List ℕ) (args : List Value) (budget i : ℕ) (inputs : List Input)
      → StepsMoved (call decl args budget w i (module_at w i) inputs) (call decl args budget v (p.to i) (moved_state p (module_at w i)) inputs)
  call_one decl args budget i inputs = call_program_by i budget decl args (module_at w i).program inputs

  -- ---- RemoveGroup

  program_uses_same : (R : RegistrationList) (g : Group) (o : Option Program) → program_uses R g (option_map (moved_program p) o) ≡ program_uses R g o
  program_uses_same R g None = refl
  program_uses_same R g (Some q) = refl

  place_uses_same : (R : RegistrationList) (g : Group) (o : Option ModuleState) → place_uses R g (moved_place p o) ≡ place_uses R g o
  place_uses_same R g None = refl
  place_uses_same R g (Some m) = program_uses_same R g m.program

  removal_by : (R : Grouped) (o : Option Group) → removal_of o R v.modules ≡ removal_of o R w.modules
  removal_by R None = refl
  removal_by R (Some g) =
      ap (λ b. if is_named_outside R.entries g || b then InUse else Removed (without_group g R))
      (any_same p (moved_place p) ps qs h.places (place_uses R.entries g) refl (place_uses_same R.entries g))

  pub removal_moved : (R : Grouped) (name : List ℕ) → removal name R v.modules ≡ removal name R w.modules
  removal_moved R name = removal_by R (group_named name R)

  removed_by : (x : Removal) (inputs : List Input) → StepsMoved (removing x w inputs) (removing x v inputs)
  removed_by (Removed s) inputs = answered_moved (Done None) inputs
  removed_by Groups.NoGroup inputs = refused_moved refusal.NoGroup inputs
  removed_by Groups.InUse inputs = refused_moved refusal.InUse inputs

  pub removing_moved : (R : Grouped) (name : List ℕ) (inputs : List Input) → StepsMoved (removing (removal name R w.modules) w inputs) (removing (removal name R v.modules) v inputs)
  removing_moved R name inputs =
      subst (λ x. StepsMoved (removing (removal name R w.modules) w inputs) (removing x v inputs)) (sym (removal_moved R name)) (removed_by (removal name R w.modules) inputs)

  -- ---- Discard, Build

  module _ (i : ℕ) (stands : Stands ps i) where
    abbrev m : ModuleState
    m = module_at w i

    -- the modules with no import that leads to module i
    abbrev others : List (Option ModuleState)
    others = map (option_map (unbound_module i)) ps

    abbrev others' : List (Option ModuleState)
    others' = map (option_map (unbound_module (p.to i))) qs

    others_under : AreUnder p (moved_place p) others others'
    others_under = under_map p (moved_place p) ps qs h.places (option_map (unbound_module i)) (option_map (unbound_module (p.to i))) refl refl (place_unbound p i)

    others_long : length others ≡ length ps
    others_long = length-map ps (option_map (unbound_module i))

    others_long' : length others' ≡ length qs
    others_long' = length-map qs (option_map (unbound_module (p.to i)))

    rebuilt_under : (o o' : Option ModuleState) → o' ≡ moved_place p o → AreUnder p (moved_place p) (slice_set others i o) (slice_set others' (p.to i) o')
    rebuilt_under o o' e =
        under_set p (moved_place p) others others' others_under i o o' e (omega (arith, stands.within, others_long)) (omega (arith, stands_there i stands, others_long'))

    others_ordered : AreOrdered (record w.modules { places = others })
    others_ordered = ordered_unbound w.modules i h.orders.ordered

    others_there : IsSome (places_at others i)
    others_there = unbound_stays ps i i (ap is_some stands.there)

    rebuilt_orders : (x y : ModuleState) → AreOrdersMoved p (placed (all_unbound_from i w) i x) (placed (all_unbound_from (p.to i) v) (p.to i) y)
    rebuilt_orders x y = record { same = h.orders.same; ordered = ordered_put (record w.modules { places = others }) i x others_ordered others_there }

    gone_orders : AreOrdersMoved p (without i (all_unbound_from i w).modules) (without (p.to i) (all_unbound_from (p.to i) v).modules)
    gone_orders = record {
      same = ap (filter (λ n. not (n == p.to i))) h.orders.same ∙ filter_moved p i w.modules.order;
      ordered = ordered_gone (record w.modules { places = others }) i others_ordered (omega (arith, stands.within, others_long)) others_there;
    }

    others_hold : Holds (places_at others) (lengths_at w.globals)
    others_hold = holds_unbound (places_at ps) (places_at others) (lengths_at w.globals) i (at_unbound ps i) h.kept.holds

    gone_kept : AreKept (slice_set others i None) (slice_set w.globals i [])
    gone_kept = record {
      lists = set_length w.globals i [] ∙ h.kept.lists ∙ sym (set_length others i None ∙ others_long);
      holds = holds_gone (places_at others) (places_at (slice_set others i None)) (lengths_at w.globals) (lengths_at (slice_set w.globals i [])) i
          (λ n. set_either others i n None None) (lengths_set w.globals i []) (length_gone w.globals i)
          (leads_elsewhere (places_at ps) (places_at others) (lengths_at w.globals) i (at_unbound ps i) h.kept.holds) others_hold;
    }

    others_named : (l : List ℕ) → has_name l (places_at others i) ≡ bytes_eq m.name l
    others_named l = ap (has_name l) (at_unbound ps i i) ∙ name_unbound i l (places_at ps i) ∙ ap (has_name l) stands.there

    put_kept : (x : ModuleState) (ls : List Slot) → x.name ≡ m.name → ProgramLeads (λ n. IsSome (places_at others n)) x.program → AreKept (slice_set others i (Some x)) (slice_set w.globals i ls)
    put_kept x ls name leads = record {
      lists = set_length w.globals i ls ∙ h.kept.lists ∙ sym (set_length others i (Some x) ∙ others_long);
      holds = holds_put (places_at others) (places_at (slice_set others i (Some x))) (lengths_at w.globals) (lengths_at (slice_set w.globals i ls)) i x
          (λ n. set_either others i n (Some x) None) (set_at others i (Some x) None (omega (arith, stands.within, others_long))) (length ls) (lengths_set w.globals i ls)
          (λ l e. others_named l ∙ ap (λ k. bytes_eq k l) (sym name) ∙ e) leads others_hold;
    }

    abbrev ended : List Input → RunWorld
    ended inputs = globals_ended i (running w inputs)

    abbrev ended' : List Input → RunWorld
    ended' inputs = globals_ended (p.to i) (running v inputs)

    both_ended : (inputs : List Input) → IsRunMoved p (ended inputs) (ended' inputs)
    both_ended inputs = ended_moved p i (running w inputs) (running v inputs) (run_moved inputs)

    ended_long : (inputs : List Input) → length (ended' inputs).globals ≡ length v.globals
    ended_long inputs = ap length (ended_globals (p.to i) (running v inputs)) ∙ set_length v.globals (p.to i) []

    ended_globals_long : (inputs : List Input) → length (ended inputs).globals ≡ length w.globals
    ended_globals_long inputs = ap length (ended_globals i (running w inputs)) ∙ set_length w.globals i []

    -- as many as there are places then
    rebuilt_long : (o : Option ModuleState) (n : ℕ) → n ≡ length v.globals → n ≡ length (slice_set others' (p.to i) o)
    rebuilt_long o n e = e ∙ h.lists ∙ sym (set_length others' (p.to i) o ∙ others_long')

    discard_moved : (inputs : List Input) → StepsMoved (discard w i m inputs) (discard v (p.to i) (moved_state p m) inputs)
    discard_moved inputs =
        left_moved p (λ es. reply_of (Done None) es []) (without i (all_unbound_from i w).modules) (without (p.to i) (all_unbound_from (p.to i) v).modules) (ended inputs) (ended' inputs)
        (both_ended inputs) (rebuilt_long None (length (ended' inputs).globals) (ended_long inputs)) (rebuilt_under None None refl) gone_orders (subst (AreKept (slice_set others i None)) (sym (ended_globals i (running w inputs))) gone_kept)

    -- ---- builds that leave the module emptied

    abbrev left_empty : ModuleStates
    left_empty = placed (all_unbound_from i w) i (emptied m)

    abbrev left_empty' : ModuleStates
    left_empty' = placed (all_unbound_from (p.to i) v) (p.to i) (emptied (moved_state p m))

    empty_kept : AreKept left_empty.places (slice_set w.globals i [])
    empty_kept = put_kept (emptied m) [] refl tt

    emptied_moved : (answer : List HostEvent → Reply) (inputs : List Input) → IsSameStep (step_with answer left_empty (ended inputs)) (step_with answer left_empty' (ended' inputs))
    emptied_moved answer inputs =
        left_moved p answer left_empty left_empty' (ended inputs) (ended' inputs) (both_ended inputs)
        (rebuilt_long (Some (emptied (moved_state p m))) (length (ended' inputs).globals) (ended_long inputs))
        (rebuilt_under (Some (emptied m)) (Some (emptied (moved_state p m))) refl) (rebuilt_orders (emptied m) (emptied (moved_state p m))) (subst (AreKept left_empty.places) (sym (ended_globals i (running w inputs))) empty_kept)

    -- ---- builds that run initializers

    module _ (V : RegistrationList) (r : Resolved) where
      abbrev q : Program
      q = program_over V r

      abbrev firsts : List Slot
      firsts = first_globals q.tree

      abbrev built : ModuleStates
      built = placed (all_unbound_from i w) i (with_program q m)

      abbrev built' : ModuleStates
      built' = placed (all_unbound_from (p.to i) v) (p.to i) (with_program q (moved_state p m))

      built_under : AreUnder p (moved_place p) built.places built'.places
      built_under =
          rebuilt_under (Some (with_program q m)) (Some (with_program q (moved_state p m))) (ap (λ x. Some (record (emptied m) { program = Some x })) (sym (new_program p V r)))

      built_kept : (hs : List (List Slot)) → map length hs ≡ map length (slice_set w.globals i firsts) → AreKept built.places hs
      built_kept hs e =
          kept_as built.places (slice_set w.globals i firsts) hs e (put_kept (with_program q m) firsts refl (unlinked_lead (λ n. IsSome (places_at others n)) r.tree.imports))

      failed_lengths : (u : RunWorld) → map length u.globals ≡ map length (slice_set w.globals i firsts) → map length (globals_ended i u).globals ≡ map length (slice_set w.globals i [])
      failed_lengths u e =
          ap (map length) (ended_globals i u) ∙ map_set length u.globals i [] ∙ ap (λ ns. slice_set ns i 0) (e ∙ map_set length w.globals i firsts)
          ∙ set_set (map length w.globals) i (length firsts) 0 ∙ sym (map_set length w.globals i [])

      initialized_by : (x : Result Slot Fault) (u s : RunWorld) → IsRunMoved p u s → map length u.globals ≡ map length (slice_set w.globals i firsts) → length s.globals ≡ length v.globals
          → IsSameStep (initialized x u (all_unbound_from i w) i m q) (initialized x s (all_unbound_from (p.to i) v) (p.to i) (moved_state p m) q)
      initialized_by (Ok a) u s k e l =
          left_moved p (λ es. reply_of (Done None) es []) built built' u s k (rebuilt_long (Some (with_program q (moved_state p m))) (length s.globals) l) built_under (rebuilt_orders (with_program q m) (with_program q (moved_state p m))) (built_kept u.globals e)
      initialized_by (Err a) u s k e l =
          left_moved p (λ es. reply_of (Refused (refusal.InitFailed a)) es []) left_empty left_empty' (globals_ended i u) (globals_ended (p.to i) s) (ended_moved p i u s k)
          (rebuilt_long (Some (emptied (moved_state p m))) (length (globals_ended (p.to i) s).globals) (ap length (ended_globals (p.to i) s) ∙ set_length s.globals (p.to i) [] ∙ l))
          (rebuilt_under (Some (emptied m)) (Some (emptied (moved_state p m))) refl) (rebuilt_orders (emptied m) (emptied (moved_state p m)))
          (kept_as left_empty.places (slice_set w.globals i []) (globals_ended i u).globals (failed_lengths u e) empty_kept)

      compiled_moved : (budget : ℕ) (inputs : List Input)
          → IsSameStep (started (initializers_end built i q budget (ended inputs)) (all_unbound_from i w) i m q)
          (started (initializers_end built' (p.to i) q budget (ended' inputs)) (all_unbound_from (p.to i) v) (p.to i) (moved_state p m) q)
      compiled_moved budget inputs =
          let before : RunWorld = globals_begun i q (ended inputs) in
          let before' : RunWorld = globals_begun (p.to i) q (ended' inputs) in
          let e : Ended = initializers_end built i q budget (ended inputs) in
          let o : Ended = initializers_end built' (p.to i) q budget (ended' inputs) in
          let k : IsEndMoved p e o = initialization_moved p built built' built_under budget i before before'
          (begun_moved p i q (ended inputs) (ended' inputs) (both_ended inputs) (omega (arith, stands.within, h.kept.lists, ended_globals_long inputs)) (omega (arith, stands_there i stands, h.lists, ended_long inputs))) in
          let ms = built_in built in
          let ran : map length e.world.globals ≡ map length before.globals = initialized_lengths (setting_for ms 201) (codes_in (trees_of ms)) (initializers_of i (built_module ms i).tree) budget before in
          let long : map length e.world.globals ≡ map length (slice_set w.globals i firsts) =
          ran ∙ ap (λ gs. map length (slice_set gs i firsts)) (ended_globals i (running w inputs)) ∙ ap (map length) (set_set w.globals i [] firsts) in
          let ns = built_in built' in
          let other : length o.world.globals ≡ length v.globals =
          initialized_lists (setting_for ns 201) (codes_in (trees_of ns)) (initializers_of (p.to i) (built_module ns (p.to i)).tree) budget before'
          ∙ set_length (ended' inputs).globals (p.to i) firsts ∙ ended_long inputs in
          subst (λ x. IsSameStep (initialized e.result e.world (all_unbound_from i w) i m q) (initialized x o.world (all_unbound_from (p.to i) v) (p.to i) (moved_state p m) q)) (sym k.result)
          (initialized_by e.result e.world o.world k.world long other)

    built_by : (V : RegistrationList) (ds : List Denial) (c : Built) (budget : ℕ) (inputs : List Input)
        → IsSameStep (after_build V ds c (all_unbound_from i w) i m budget (ended inputs)) (after_build V ds c (all_unbound_from (p.to i) v) (p.to i) (moved_state p m) budget (ended' inputs))
    built_by V ds (Errors es) budget inputs = emptied_moved (λ evs. errors_reply evs es ds) inputs
    built_by V ds (Compiled r) budget inputs = compiled_moved V r budget inputs

    build_one : (R : RegistrationList) (budget : ℕ) (inputs : List Input) → StepsMoved (build R w i m budget inputs) (build R v (p.to i) (moved_state p m) budget inputs)
    build_one R budget [] = tt
    build_one R budget (Said x ∷ is) = tt
    build_one R budget (Tallied x ∷ is) = tt
    build_one R budget (Fresh x ∷ is) = tt
    build_one R budget (Room true ∷ is) = built_by (seen R m.mask) (denials_in R m.mask m.sections) (build_of (seen R m.mask) m.sections) budget is
    build_one R budget (Room false ∷ is) = emptied_moved (λ es. reply_of (Refused refusal.BuildMemory) es []) is

    build_moved : (R : RegistrationList) (budget : ℕ) (inputs : List Input)
        → StepsMoved (build_within budget R w i m inputs) (build_within budget R v (p.to i) (moved_state p m) inputs)
    build_moved R budget inputs = if_both (is_budget budget) _ _ _ _ (build_one R budget inputs) (refused_moved refusal.BadBudget inputs)

  -- ---- the engine ends

  pub end_same : (engine_ended v).events ≡ (engine_ended w).events
  end_same =
      ap (λ l. (all_ended l (running v [])).events) h.orders.same
      ∙ ap (λ (u : RunWorld). u.events) (all_ended_moved p w.modules.order (running w []) (running v []) (run_moved [])).same

  -- ---- commands on the module of a name

  pub set_mask_moved : (name : List ℕ) (mask : ℕ) (inputs : List Input)
      → StepsMoved (on_module (module_named name w) w inputs (set_mask mask w)) (on_module (module_named name v) v inputs (set_mask mask v))
  set_mask_moved name mask inputs = on_moved name inputs (set_mask mask w) (set_mask mask v) (λ i stands. mask_moved mask i inputs stands)

  pub add_section_moved : (name text : List ℕ) (inputs : List Input)
      → StepsMoved (on_module (module_named name w) w inputs (add_section text w)) (on_module (module_named name v) v inputs (add_section text v))
  add_section_moved name text inputs = on_moved name inputs (add_section text w) (add_section text v) (λ i stands. section_moved text i inputs stands)

  pub build_named_moved : (name : List ℕ) (budget : ℕ) (R : RegistrationList) (inputs : List Input)
      → StepsMoved (on_module (module_named name w) w inputs (build_within budget R w)) (on_module (module_named name v) v inputs (build_within budget R v))
  build_named_moved name budget R inputs = on_moved name inputs (build_within budget R w) (build_within budget R v) (λ i stands. build_moved i stands R budget inputs)

  pub unbind_named_moved : (name : List ℕ) (index : ℕ) (inputs : List Input)
      → StepsMoved (on_module (module_named name w) w inputs (unbind index w)) (on_module (module_named name v) v inputs (unbind index v))
  unbind_named_moved name index inputs = on_moved name inputs (unbind index w) (unbind index v) (λ i stands. unbind_moved index i inputs stands)

  pub call_named_moved : (name decl : List ℕ) (args : List Value) (budget : ℕ) (inputs : List Input)
      → StepsMoved (on_module (module_named name w) w inputs (call decl args budget w)) (on_module (module_named name v) v inputs (call decl args budget v))
  call_named_moved name decl args budget inputs = on_moved name inputs (call decl args budget w) (call decl args budget v) (λ i stands. call_one decl args budget i inputs)

  pub discard_named_moved : (name : List ℕ) (inputs : List Input)
      → StepsMoved (on_module (module_named name w) w inputs (discard w)) (on_module (module_named name v) v inputs (discard v))
  discard_named_moved name inputs = on_moved name inputs (discard w) (discard v) (λ i stands. discard_moved i stands inputs)
