-- What modules do under other numbers: operations, the combinators, and calls. The world is the same but for its lists of globals.
use Rattle.std.specs.Prelude.{◌≡◌, ◌≢◌, ℕ, zero, suc, ◌-◌, Bool, true, false, List, [], ◌∷◌, length, Option, Some, None, option_map, if◌then◌else◌, slice_index_or, slice_set, nat_eq}
use Rattle.std.specs.FinMap as map
use Rattle.std.proofs.Common.{refl, sym, ap, ap₂, ◌∙◌, subst}
use Rattle.std.proofs.lemmas.Bool.{eqb-true, eq-eqb}
use Rattle.ang_kinds.specs.declared.fault.Fault.{Fault}
use Rattle.ang_kinds.specs.declared.fault.Fault.TheVariants.{Null, Budget, Depth, Memory, Tally}
use Rattle.ang_meaning.specs.declared.slot.Slot.{Slot}
use Rattle.ang_meaning.specs.declared.slot.Slot.TheVariants.{Bits, Script}
use Rattle.ang_meaning.specs.declared.operation.Update.{Update}
use Rattle.ang_meaning.specs.declared.operation.Operation.{Operation}
use Rattle.ang_meaning.specs.declared.operation.Operation.TheVariants.{GlobalGet, GlobalSet, GlobalChange}
use Rattle.ang_meaning.specs.declared.routine.Routine.{Routine}
use Rattle.ang_meaning.specs.declared.routine.Callee.{Callee}
use Rattle.ang_meaning.specs.declared.routine.Callee.TheVariants.{Own, Import, Virtual}
use Rattle.ang_meaning.specs.declared.routine.Passing.{Passing}
use Rattle.ang_meaning.specs.declared.routine.Passing.TheVariants.{Out}
use Rattle.ang_meaning.specs.declared.routine.Target.{Target}
use Rattle.ang_meaning.specs.declared.routine.Spot.{Spot}
use Rattle.ang_meaning.specs.declared.routine.Spot.TheVariants.{Local, Global, Field}
use Rattle.ang_meaning.specs.Numbers.{Changed, Into, Never}
use Rattle.ang_meaning.specs.World.{World, ScriptRecord, Tried, Yes, No, or_else, hold, give, give_all, memory_step}
use Rattle.ang_meaning.specs.Environment.{Environment, Found, Enters, Misses, bound, params_in, params_of, method_of, virtual_of, receiver_in, has_objects, target}
use Rattle.ang_meaning.specs.Hosts.{Done, Fine, Fails, holding, asked}
use Rattle.ang_meaning.specs.Perform.{change_of, globals_of, global_or, global_put, stored_global, changed_global, field_put, may_take, member_or, member_put, perform}
use Rattle.ang_meaning.specs.Results.{Evaluated, Gave, Failed, Gathered, Ready, Broke, Ran, Went, Returned, Halted, Broken, Continued, Reply, Yields, Raises, Calls, local_at, local_set, give_some, drop_some, give_back, at_zero, on_test, ticked, loaded, performed, applied, assigned, altered_by, altered, chosen, then_rest, brought, Traded, trade, Settled, settled_next, settled, with_outs, replied, called, leave, with_value, then_run, caught, outs_of, give_others, yielded, finished, may_nest, entered, found_entered, enter}
use Rattle.ang_alike.specs.Moved.{Moving, AreMovedLists, moved_routine, moved_setting, with_lists, reply_with, reply_lists}
use Rattle.ang_alike.proofs.MovedWorlds.{moved_tried, moved_done, step_moved, hold_moved, give_moved, give_all_moved, holding_moved, take_moved, field_moved, field_put_moved, of_globals, performed_elsewhere}

-- ---- lists of globals

-- what is put stands there, if it is none where there is no place
put_here : (xs : List (List Slot)) (k : ℕ) (x : List Slot) → (slice_index_or xs k [] ≡ [] → x ≡ []) → slice_index_or (slice_set xs k x) k [] ≡ x
put_here [] k x h = sym (h refl)
put_here (y ∷ ys) zero x h = refl
put_here (y ∷ ys) (suc k) x h = put_here ys k x h

set_other : (xs : List (List Slot)) (k j : ℕ) (x : List Slot) → j ≢ k → slice_index_or (slice_set xs k x) j [] ≡ slice_index_or xs j []
set_other [] k j x d = refl
set_other (y ∷ ys) zero zero x d = absurd (d refl)
set_other (y ∷ ys) zero (suc j) x d = refl
set_other (y ∷ ys) (suc k) zero x d = refl
set_other (y ∷ ys) (suc k) (suc j) x d = set_other ys k j x (λ e. d (ap suc e))

-- ---- what gives up leaves the lists as they are

abbrev pub tried_lists : Tried → List (List Slot)
tried_lists (Yes w) = w.globals
tried_lists (No w) = w.globals

abbrev pub done_lists : Done → List (List Slot)
done_lists (Fine v w) = w.globals
done_lists (Fails f w) = w.globals

give_lists : (v : Slot) (w : World) → (give v w).globals ≡ w.globals
give_lists v w = ap (λ (u : World). u.globals) (give_moved (λ gs. w.globals) v w)

give_all_lists : (vs : List Slot) (w : World) → (give_all vs w).globals ≡ w.globals
give_all_lists vs w = ap (λ (u : World). u.globals) (give_all_moved (λ gs. w.globals) vs w)

tried_with : (o : Tried) (gs : List (List Slot)) → tried_lists (moved_tried (λ hs. gs) o) ≡ gs
tried_with (Yes u) gs = refl
tried_with (No u) gs = refl

hold_lists : (v : Slot) (w : World) → tried_lists (hold v w) ≡ w.globals
hold_lists v w = ap tried_lists (hold_moved (λ gs. w.globals) v w) ∙ tried_with (hold v w) w.globals

step_lists : (w : World) → tried_lists (memory_step w) ≡ w.globals
step_lists w = ap tried_lists (step_moved (λ gs. w.globals) w) ∙ tried_with (memory_step w) w.globals

done_with : (o : Done) (gs : List (List Slot)) → done_lists (moved_done (λ hs. gs) o) ≡ gs
done_with (Fine v u) gs = refl
done_with (Fails f u) gs = refl

holding_lists : (v : Slot) (w : World) → done_lists (holding v w) ≡ w.globals
holding_lists v w = ap done_lists (holding_moved (λ gs. w.globals) v w) ∙ done_with (holding v w) w.globals

give_some_with : (n : ℕ) (vs : List Slot) (w : World) (gs : List (List Slot)) → give_some n vs (with_lists gs w) ≡ with_lists gs (give_some n vs w)
give_some_with zero vs w gs = refl
give_some_with (suc n) [] w gs = refl
give_some_with (suc n) (v ∷ vs) w gs = ap (give_some n vs) (give_moved (λ hs. gs) v w) ∙ give_some_with n vs (give v w) gs

give_some_lists : (n : ℕ) (vs : List Slot) (w : World) → (give_some n vs w).globals ≡ w.globals
give_some_lists n vs w = ap (λ (u : World). u.globals) (give_some_with n vs w w.globals)

pub give_back_with : (vs : List Slot) (w : World) (gs : List (List Slot)) → give_back vs (with_lists gs w) ≡ with_lists gs (give_back vs w)
give_back_with [] w gs = refl
give_back_with (v ∷ vs) w gs = ap (give v) (give_back_with vs w gs) ∙ give_moved (λ hs. gs) v (give_back vs w)

pub give_back_lists : (vs : List Slot) (w : World) → (give_back vs w).globals ≡ w.globals
give_back_lists vs w = ap (λ (u : World). u.globals) (give_back_with vs w w.globals)

give_others_with : (ps : List Passing) (vs : List Slot) (w : World) (gs : List (List Slot)) → give_others ps vs (with_lists gs w) ≡ with_lists gs (give_others ps vs w)
give_others_with [] vs w gs = refl
give_others_with (p ∷ ps) [] w gs = refl
give_others_with (Out ∷ ps) (v ∷ vs) w gs = give_others_with ps vs w gs
give_others_with (p ∷ ps) (v ∷ vs) w gs = ap (give_others ps vs) (give_moved (λ hs. gs) v w) ∙ give_others_with ps vs (give v w) gs

give_others_lists : (ps : List Passing) (vs : List Slot) (w : World) → (give_others ps vs w).globals ≡ w.globals
give_others_lists ps vs w = ap (λ (u : World). u.globals) (give_others_with ps vs w w.globals)

member_with : (i : ℕ) (o v : Slot) (w : World) (gs : List (List Slot)) → member_or i o v (with_lists gs w) ≡ member_or i o v w
unfolding member_or
member_with i (Script (Some n)) v w gs = ap₂ (λ b x. if b then x else v) (take_moved (λ hs. gs) n v w) (field_moved (λ hs. gs) n i v w)
member_with i _ v w gs = refl

put_if : (b : Bool) (n i : ℕ) (v : Slot) (w : World) (gs : List (List Slot))
    → (if b then field_put n i v (with_lists gs w) else with_lists gs w) ≡ with_lists gs (if b then field_put n i v w else w)
put_if true n i v w gs = field_put_moved (λ hs. gs) n i v w
put_if false n i v w gs = refl

member_put_with : (i : ℕ) (o v : Slot) (w : World) (gs : List (List Slot)) → member_put i o v (with_lists gs w) ≡ with_lists gs (member_put i o v w)
unfolding member_put
member_put_with i (Script (Some n)) v w gs =
    ap (λ b. if b then field_put n i v (with_lists gs w) else with_lists gs w) (take_moved (λ hs. gs) n v w) ∙ put_if (may_take n v w) n i v w gs
member_put_with i _ v w gs = refl

member_put_lists : (i : ℕ) (o v : Slot) (w : World) → (member_put i o v w).globals ≡ w.globals
member_put_lists i o v w = ap (λ (u : World). u.globals) (member_put_with i o v w w.globals)

-- ---- ends with other lists

abbrev pub value_with : List (List Slot) → Evaluated → Evaluated
value_with gs (Gave v ls t w) = Gave v ls t (with_lists gs w)
value_with gs (Failed f ls w) = Failed f ls (with_lists gs w)

abbrev pub value_lists : Evaluated → List (List Slot)
value_lists (Gave v ls t w) = w.globals
value_lists (Failed f ls w) = w.globals

abbrev pub values_with : List (List Slot) → Gathered → Gathered
values_with gs (Ready vs ls t w) = Ready vs ls t (with_lists gs w)
values_with gs (Broke f ls w) = Broke f ls (with_lists gs w)

abbrev pub values_lists : Gathered → List (List Slot)
values_lists (Ready vs ls t w) = w.globals
values_lists (Broke f ls w) = w.globals

abbrev pub run_with : List (List Slot) → Ran → Ran
run_with gs (Went ls t w) = Went ls t (with_lists gs w)
run_with gs (Returned v ls t w) = Returned v ls t (with_lists gs w)
run_with gs (Halted f ls w) = Halted f ls (with_lists gs w)
run_with gs (Broken ls t w) = Broken ls t (with_lists gs w)
run_with gs (Continued ls t w) = Continued ls t (with_lists gs w)

abbrev pub run_lists : Ran → List (List Slot)
run_lists (Went ls t w) = w.globals
run_lists (Returned v ls t w) = w.globals
run_lists (Halted f ls w) = w.globals
run_lists (Broken ls t w) = w.globals
run_lists (Continued ls t w) = w.globals

module _ (p : Moving) where
  -- The second end is the first one, but that the lists of globals in its world are moved.
  pub record Moved {A : Type 0} (turn : List (List Slot) → A → A) (lists : A → List (List Slot)) (o o' : A) : Type 0 where
    pub there : List (List Slot)
    pub same : o' ≡ turn there o
    pub moved : AreMovedLists p (lists o) there

  abbrev pub DoneMoved : Done → Done → Type 0
  DoneMoved = Moved (λ gs. moved_done (λ hs. gs)) done_lists

  abbrev pub ValueMoved : Evaluated → Evaluated → Type 0
  ValueMoved = Moved value_with value_lists

  abbrev pub ValuesMoved : Gathered → Gathered → Type 0
  ValuesMoved = Moved values_with values_lists

  abbrev pub RunMoved : Ran → Ran → Type 0
  RunMoved = Moved run_with run_lists

  abbrev pub ReplyMoved : Reply → Reply → Type 0
  ReplyMoved = Moved reply_with reply_lists

  -- what goes on from a world does so from the world with moved lists
  abbrev pub GoesOn : {A : Type 0} → (A → A → Type 0) → (World → A) → (World → A) → Type 0
  GoesOn R go go' = (w : World) (gs : List (List Slot)) → AreMovedLists p w.globals gs → R (go w) (go' (with_lists gs w))

  -- the lists of a world that has those of another one
  pub on_lists : (gs hs ks : List (List Slot)) → hs ≡ gs → AreMovedLists p gs ks → AreMovedLists p hs ks
  on_lists gs hs ks e h = subst (λ xs. AreMovedLists p xs ks) (sym e) h

  pub injective : (a b : ℕ) → p.to a ≡ p.to b → a ≡ b
  injective a b e = sym (p.there a) ∙ ap p.back e ∙ p.there b

  put_by : (b : Bool) (gs hs : List (List Slot)) (k m : ℕ) (l : List Slot) → nat_eq m k ≡ b → (slice_index_or gs k [] ≡ [] → l ≡ []) → AreMovedLists p gs hs
      → slice_index_or (slice_set hs (p.to k) l) (p.to m) [] ≡ slice_index_or (slice_set gs k l) m []
  put_by true gs hs k m l e still h =
      let same : m ≡ k = eqb-true m k e in
      subst (λ n. slice_index_or (slice_set hs (p.to k) l) (p.to n) [] ≡ slice_index_or (slice_set gs k l) n []) (sym same)
      (put_here hs (p.to k) l (λ s. still (sym (h.each k) ∙ s)) ∙ sym (put_here gs k l still))
  put_by false gs hs k m l e still h =
      let apart : m ≢ k = λ s. (let differ : true ≡ false = sym (eq-eqb m k s) ∙ e in cc) in
      set_other hs (p.to k) (p.to m) l (λ s. apart (injective m k s)) ∙ h.each m ∙ sym (set_other gs k m l apart)

  -- what is put where there are no globals is none
  pub put_moved : (gs hs : List (List Slot)) (k : ℕ) (l : List Slot) → (slice_index_or gs k [] ≡ [] → l ≡ []) → AreMovedLists p gs hs
      → AreMovedLists p (slice_set gs k l) (slice_set hs (p.to k) l)
  put_moved gs hs k l still h = record { each = λ m. put_by (nat_eq m k) gs hs k m l refl still h }

  -- what follows a request for room
  room_moved : {A : Type 0} (turn : List (List Slot) → A → A) (lists : A → List (List Slot)) (o : Tried) (gs hs : List (List Slot)) (out go out' go' : World → A)
      → tried_lists o ≡ gs → AreMovedLists p gs hs → GoesOn (Moved turn lists) out out' → GoesOn (Moved turn lists) go go'
      → Moved turn lists (or_else o out go) (or_else (moved_tried (λ xs. hs) o) out' go')
  room_moved turn lists (Yes w) gs hs out go out' go' e h k l = l w hs (on_lists gs w.globals hs e h)
  room_moved turn lists (No w) gs hs out go out' go' e h k l = k w hs (on_lists gs w.globals hs e h)

  pub held_moved : {A : Type 0} (turn : List (List Slot) → A → A) (lists : A → List (List Slot)) (v : Slot) (w : World) (gs : List (List Slot)) (out go out' go' : World → A)
      → AreMovedLists p w.globals gs → GoesOn (Moved turn lists) out out' → GoesOn (Moved turn lists) go go'
      → Moved turn lists (or_else (hold v w) out go) (or_else (hold v (with_lists gs w)) out' go')
  held_moved turn lists v w gs out go out' go' h k l =
      subst (λ o. Moved turn lists (or_else (hold v w) out go) (or_else o out' go')) (sym (hold_moved (λ xs. gs) v w))
      (room_moved turn lists (hold v w) w.globals gs out go out' go' (hold_lists v w) h k l)

  pub stepped_moved : {A : Type 0} (turn : List (List Slot) → A → A) (lists : A → List (List Slot)) (w : World) (gs : List (List Slot)) (out go out' go' : World → A)
      → AreMovedLists p w.globals gs → GoesOn (Moved turn lists) out out' → GoesOn (Moved turn lists) go go'
      → Moved turn lists (or_else (memory_step w) out go) (or_else (memory_step (with_lists gs w)) out' go')
  stepped_moved turn lists w gs out go out' go' h k l =
      subst (λ o. Moved turn lists (or_else (memory_step w) out go) (or_else o out' go')) (sym (step_moved (λ xs. gs) w))
      (room_moved turn lists (memory_step w) w.globals gs out go out' go' (step_lists w) h k l)

  pub either_moved : {A : Type 0} (R : A → A → Type 0) (b : Bool) (x y x' y' : A) → R x x' → R y y' → R (if b then x else y) (if b then x' else y')
  either_moved R true x y x' y' h k = h
  either_moved R false x y x' y' h k = k

  -- the second end is equal to one that is moved
  pub on_same : {A : Type 0} (turn : List (List Slot) → A → A) (lists : A → List (List Slot)) (o o' x : A) → o' ≡ x → Moved turn lists o x → Moved turn lists o o'
  on_same turn lists o o' x e h = record { there = h.there; same = e ∙ h.same; moved = h.moved }

  -- ---- a fault, and a value

  pub failed_moved : (f : Fault) (ls : List Slot) (w : World) (gs : List (List Slot)) (go : World → World) → ((u : World) (hs : List (List Slot)) → go (with_lists hs u) ≡ with_lists hs (go u))
      → AreMovedLists p w.globals gs → ValueMoved (Failed f ls (go w)) (Failed f ls (go (with_lists gs w)))
  failed_moved f ls w gs go e h =
      record { there = gs; same = ap (Failed f ls) (e w gs); moved = on_lists w.globals (go w).globals gs (ap (λ (u : World). u.globals) (e w w.globals)) h }

  pub gave_moved : (v : Slot) (ls : List Slot) (t : ℕ) (w : World) (gs : List (List Slot)) (go : World → World) → ((u : World) (hs : List (List Slot)) → go (with_lists hs u) ≡ with_lists hs (go u))
      → AreMovedLists p w.globals gs → ValueMoved (Gave v ls t (go w)) (Gave v ls t (go (with_lists gs w)))
  gave_moved v ls t w gs go e h =
      record { there = gs; same = ap (Gave v ls t) (e w gs); moved = on_lists w.globals (go w).globals gs (ap (λ (u : World). u.globals) (e w w.globals)) h }

  pub loaded_moved : (v : Slot) (ls : List Slot) (t : ℕ) (w : World) (gs : List (List Slot)) → AreMovedLists p w.globals gs → ValueMoved (loaded v ls t w) (loaded v ls t (with_lists gs w))
  loaded_moved v ls t w gs h =
      held_moved value_with value_lists v w gs (λ u. Failed Tally ls u) (λ u. Gave v ls t u) (λ u. Failed Tally ls u) (λ u. Gave v ls t u) h
      (λ u hs k. record { there = hs; same = refl; moved = k }) (λ u hs k. record { there = hs; same = refl; moved = k })

  performed_moved : (d : Done) (gs : List (List Slot)) (vs ls : List Slot) (t : ℕ) → AreMovedLists p (done_lists d) gs
      → ValueMoved (performed d vs ls t) (performed (moved_done (λ hs. gs) d) vs ls t)
  performed_moved (Fine v w) gs vs ls t h = record { there = gs; same = refl; moved = h }
  performed_moved (Fails f w) gs vs ls t h = failed_moved f ls w gs (give_all vs) (λ u hs. give_all_moved (λ xs. hs) vs u) h

  applied_by : (op op' : List Slot → World → Done)
      → ((vs : List Slot) → GoesOn DoneMoved (op vs) (op' vs))
      → (o : Gathered) (gs : List (List Slot)) → AreMovedLists p (values_lists o) gs → ValueMoved (applied op o) (applied op' (values_with gs o))
  applied_by op op' k (Ready vs ls t w) gs h =
      let d = k vs w gs h in
      on_same value_with value_lists (performed (op vs w) vs ls t) (performed (op' vs (with_lists gs w)) vs ls t) (performed (moved_done (λ hs. d.there) (op vs w)) vs ls t)
      (ap (λ x. performed x vs ls t) d.same) (performed_moved (op vs w) d.there vs ls t d.moved)
  applied_by op op' k (Broke f ls w) gs h = record { there = gs; same = refl; moved = h }

  pub applied_moved : (op op' : List Slot → World → Done)
      → ((vs : List Slot) → GoesOn DoneMoved (op vs) (op' vs))
      → (o o' : Gathered) → ValuesMoved o o' → ValueMoved (applied op o) (applied op' o')
  applied_moved op op' k o o' h =
      on_same value_with value_lists (applied op o) (applied op' o') (applied op' (values_with h.there o)) (ap (applied op') h.same) (applied_by op op' k o h.there h.moved)

  assigned_by : (i : ℕ) (o : Evaluated) (gs : List (List Slot)) → AreMovedLists p (value_lists o) gs → ValueMoved (assigned i o) (assigned i (value_with gs o))
  assigned_by i (Gave v ls t w) gs h =
      let out : World → Evaluated = λ u. Failed Tally ls (give v u) in
      let go : World → Evaluated = λ u. Gave v (local_set ls i v) t (give (local_at ls i) u) in
      held_moved value_with value_lists v w gs out go out go h
      (λ u hs k. failed_moved Tally ls u hs (give v) (λ x ks. give_moved (λ xs. ks) v x) k)
      (λ u hs k. gave_moved v (local_set ls i v) t u hs (give (local_at ls i)) (λ x ks. give_moved (λ xs. ks) (local_at ls i) x) k)
  assigned_by i (Failed f ls w) gs h = record { there = gs; same = refl; moved = h }

  pub assigned_moved : (i : ℕ) (o o' : Evaluated) → ValueMoved o o' → ValueMoved (assigned i o) (assigned i o')
  assigned_moved i o o' h = on_same value_with value_lists (assigned i o) (assigned i o') (assigned i (value_with h.there o)) (ap (assigned i) h.same) (assigned_by i o h.there h.moved)

  altered_by_moved : (i : ℕ) (c : Changed) (v : Slot) (ls : List Slot) (t : ℕ) (w : World) (gs : List (List Slot)) → AreMovedLists p w.globals gs
      → ValueMoved (altered_by i c v ls t w) (altered_by i c v ls t (with_lists gs w))
  altered_by_moved i (Into stored given) v ls t w gs h = record { there = gs; same = refl; moved = h }
  altered_by_moved i (Never f) v ls t w gs h = failed_moved f ls w gs (give v) (λ u hs. give_moved (λ xs. hs) v u) h

  alters : (i : ℕ) (c : Update) (o : Evaluated) (gs : List (List Slot)) → AreMovedLists p (value_lists o) gs → ValueMoved (altered i c o) (altered i c (value_with gs o))
  alters i c (Gave v ls t w) gs h = altered_by_moved i (change_of c (local_at ls i) v) v ls t w gs h
  alters i c (Failed f ls w) gs h = record { there = gs; same = refl; moved = h }

  pub altered_moved : (i : ℕ) (c : Update) (o o' : Evaluated) → ValueMoved o o' → ValueMoved (altered i c o) (altered i c o')
  altered_moved i c o o' h = on_same value_with value_lists (altered i c o) (altered i c o') (altered i c (value_with h.there o)) (ap (altered i c) h.same) (alters i c o h.there h.moved)

  zero_moved : {A : Type 0} (R : A → A → Type 0) (n : ℕ) (a b a' b' : A) → R a a' → R b b' → R (at_zero n a b) (at_zero n a' b')
  zero_moved R zero a b a' b' h k = h
  zero_moved R (suc n) a b a' b' h k = k

  pub test_moved : {A : Type 0} (R : A → A → Type 0) (v : Slot) (bad off on bad' off' on' : A) → R bad bad' → R off off' → R on on'
      → R (on_test v bad off on) (on_test v bad' off' on')
  test_moved R (Bits n) bad off on bad' off' on' h k l = zero_moved R n off on off' on' k l
  test_moved R _ bad off on bad' off' on' h k l = h

  chosen_by : (o : Evaluated) (gs : List (List Slot)) (first second first' second' : List Slot → ℕ → World → Evaluated) → AreMovedLists p (value_lists o) gs
      → ((ls : List Slot) (t : ℕ) → GoesOn ValueMoved (first ls t) (first' ls t)) → ((ls : List Slot) (t : ℕ) → GoesOn ValueMoved (second ls t) (second' ls t))
      → ValueMoved (chosen o first second) (chosen (value_with gs o) first' second')
  chosen_by (Gave v ls t w) gs first second first' second' h k l =
      test_moved ValueMoved v (Failed Null ls (give v w)) (second ls t w) (first ls t w)
      (Failed Null ls (give v (with_lists gs w))) (second' ls t (with_lists gs w)) (first' ls t (with_lists gs w))
      (failed_moved Null ls w gs (give v) (λ u hs. give_moved (λ xs. hs) v u) h) (l ls t w gs h) (k ls t w gs h)
  chosen_by (Failed f ls w) gs first second first' second' h k l = record { there = gs; same = refl; moved = h }

  pub chosen_moved : (o o' : Evaluated) (first second first' second' : List Slot → ℕ → World → Evaluated) → ValueMoved o o'
      → ((ls : List Slot) (t : ℕ) → GoesOn ValueMoved (first ls t) (first' ls t)) → ((ls : List Slot) (t : ℕ) → GoesOn ValueMoved (second ls t) (second' ls t))
      → ValueMoved (chosen o first second) (chosen o' first' second')
  chosen_moved o o' first second first' second' h k l =
      on_same value_with value_lists (chosen o first second) (chosen o' first' second') (chosen (value_with h.there o) first' second')
      (ap (λ x. chosen x first' second') h.same) (chosen_by o h.there first second first' second' h.moved k l)

  rest_by : (vs : List Slot) (o : Evaluated) (gs : List (List Slot)) (go go' : Slot → List Slot → ℕ → World → Gathered) → AreMovedLists p (value_lists o) gs
      → ((v : Slot) (ls : List Slot) (t : ℕ) → GoesOn ValuesMoved (go v ls t) (go' v ls t)) → ValuesMoved (then_rest vs o go) (then_rest vs (value_with gs o) go')
  rest_by vs (Gave v ls t w) gs go go' h k = k v ls t w gs h
  rest_by vs (Failed f ls w) gs go go' h k =
      record { there = gs; same = ap (Broke f ls) (give_all_moved (λ xs. gs) vs w); moved = on_lists w.globals (give_all vs w).globals gs (give_all_lists vs w) h }

  pub then_rest_moved : (vs : List Slot) (o o' : Evaluated) (go go' : Slot → List Slot → ℕ → World → Gathered) → ValueMoved o o'
      → ((v : Slot) (ls : List Slot) (t : ℕ) → GoesOn ValuesMoved (go v ls t) (go' v ls t)) → ValuesMoved (then_rest vs o go) (then_rest vs o' go')
  then_rest_moved vs o o' go go' h k =
      on_same values_with values_lists (then_rest vs o go) (then_rest vs o' go') (then_rest vs (value_with h.there o) go')
      (ap (λ x. then_rest vs x go') h.same) (rest_by vs o h.there go go' h.moved k)

  -- ---- statements

  some_moved : (make : List Slot → World → Ran) (n : ℕ) (ls : List Slot) (w : World) (gs : List (List Slot))
      → ((u : World) (hs : List (List Slot)) → make (drop_some n ls) (with_lists hs u) ≡ run_with hs (make (drop_some n ls) u))
      → ((u : World) → run_lists (make (drop_some n ls) u) ≡ u.globals)
      → AreMovedLists p w.globals gs
      → RunMoved (make (drop_some n ls) (give_some n ls w)) (make (drop_some n ls) (give_some n ls (with_lists gs w)))
  some_moved make n ls w gs turns has h =
      record {
        there = gs;
        same = ap (make (drop_some n ls)) (give_some_with n ls w gs) ∙ turns (give_some n ls w) gs;
        moved = on_lists w.globals (run_lists (make (drop_some n ls) (give_some n ls w))) gs (has (give_some n ls w) ∙ give_some_lists n ls w) h;
      }

  leave_by : (n : ℕ) (o : Ran) (gs : List (List Slot)) → AreMovedLists p (run_lists o) gs → RunMoved (leave n o) (leave n (run_with gs o))
  leave_by n (Went ls t w) gs h = some_moved (λ xs u. Went xs t u) (length ls - n) ls w gs (λ u hs. refl) (λ u. refl) h
  leave_by n (Returned v ls t w) gs h = some_moved (λ xs u. Returned v xs t u) (length ls - n) ls w gs (λ u hs. refl) (λ u. refl) h
  leave_by n (Halted f ls w) gs h = some_moved (λ xs u. Halted f xs u) (length ls - n) ls w gs (λ u hs. refl) (λ u. refl) h
  leave_by n (Broken ls t w) gs h = some_moved (λ xs u. Broken xs t u) (length ls - n) ls w gs (λ u hs. refl) (λ u. refl) h
  leave_by n (Continued ls t w) gs h = some_moved (λ xs u. Continued xs t u) (length ls - n) ls w gs (λ u hs. refl) (λ u. refl) h

  pub leave_moved : (n : ℕ) (o o' : Ran) → RunMoved o o' → RunMoved (leave n o) (leave n o')
  leave_moved n o o' h = on_same run_with run_lists (leave n o) (leave n o') (leave n (run_with h.there o)) (ap (leave n) h.same) (leave_by n o h.there h.moved)

  value_by : (o : Evaluated) (gs : List (List Slot)) (go go' : Slot → List Slot → ℕ → World → Ran) → AreMovedLists p (value_lists o) gs
      → ((v : Slot) (ls : List Slot) (t : ℕ) → GoesOn RunMoved (go v ls t) (go' v ls t)) → RunMoved (with_value o go) (with_value (value_with gs o) go')
  value_by (Gave v ls t w) gs go go' h k = k v ls t w gs h
  value_by (Failed f ls w) gs go go' h k = record { there = gs; same = refl; moved = h }

  pub with_value_moved : (o o' : Evaluated) (go go' : Slot → List Slot → ℕ → World → Ran) → ValueMoved o o'
      → ((v : Slot) (ls : List Slot) (t : ℕ) → GoesOn RunMoved (go v ls t) (go' v ls t)) → RunMoved (with_value o go) (with_value o' go')
  with_value_moved o o' go go' h k =
      on_same run_with run_lists (with_value o go) (with_value o' go') (with_value (value_with h.there o) go') (ap (λ x. with_value x go') h.same) (value_by o h.there go go' h.moved k)

  run_by : (o : Ran) (gs : List (List Slot)) (go go' : List Slot → ℕ → World → Ran) → AreMovedLists p (run_lists o) gs
      → ((ls : List Slot) (t : ℕ) → GoesOn RunMoved (go ls t) (go' ls t)) → RunMoved (then_run o go) (then_run (run_with gs o) go')
  run_by (Went ls t w) gs go go' h k = k ls t w gs h
  run_by (Returned v ls t w) gs go go' h k = record { there = gs; same = refl; moved = h }
  run_by (Halted f ls w) gs go go' h k = record { there = gs; same = refl; moved = h }
  run_by (Broken ls t w) gs go go' h k = record { there = gs; same = refl; moved = h }
  run_by (Continued ls t w) gs go go' h k = record { there = gs; same = refl; moved = h }

  pub then_run_moved : (o o' : Ran) (go go' : List Slot → ℕ → World → Ran) → RunMoved o o'
      → ((ls : List Slot) (t : ℕ) → GoesOn RunMoved (go ls t) (go' ls t)) → RunMoved (then_run o go) (then_run o' go')
  then_run_moved o o' go go' h k =
      on_same run_with run_lists (then_run o go) (then_run o' go') (then_run (run_with h.there o) go') (ap (λ x. then_run x go') h.same) (run_by o h.there go go' h.moved k)

  -- goes on with the innermost locals given up
  goes_on : (n : ℕ) (ls : List Slot) (t : ℕ) (w : World) (gs : List (List Slot)) (go go' : List Slot → ℕ → World → Ran) → AreMovedLists p w.globals gs
      → ((xs : List Slot) (s : ℕ) → GoesOn RunMoved (go xs s) (go' xs s))
      → RunMoved (go (drop_some n ls) t (give_some n ls w)) (go' (drop_some n ls) t (give_some n ls (with_lists gs w)))
  goes_on n ls t w gs go go' h k =
      on_same run_with run_lists (go (drop_some n ls) t (give_some n ls w)) (go' (drop_some n ls) t (give_some n ls (with_lists gs w)))
      (go' (drop_some n ls) t (with_lists gs (give_some n ls w))) (ap (go' (drop_some n ls) t) (give_some_with n ls w gs))
      (k (drop_some n ls) t (give_some n ls w) gs (on_lists w.globals (give_some n ls w).globals gs (give_some_lists n ls w) h))

  caught_by : (n : ℕ) (o : Ran) (gs : List (List Slot)) (go go' : List Slot → ℕ → World → Ran) → AreMovedLists p (run_lists o) gs
      → ((ls : List Slot) (t : ℕ) → GoesOn RunMoved (go ls t) (go' ls t)) → RunMoved (caught n o go) (caught n (run_with gs o) go')
  caught_by n (Went ls t w) gs go go' h k = goes_on (length ls - n) ls t w gs go go' h k
  caught_by n (Continued ls t w) gs go go' h k = goes_on (length ls - n) ls t w gs go go' h k
  caught_by n (Broken ls t w) gs go go' h k = some_moved (λ xs u. Went xs t u) (length ls - n) ls w gs (λ u hs. refl) (λ u. refl) h
  caught_by n (Returned v ls t w) gs go go' h k = some_moved (λ xs u. Returned v xs t u) (length ls - n) ls w gs (λ u hs. refl) (λ u. refl) h
  caught_by n (Halted f ls w) gs go go' h k = some_moved (λ xs u. Halted f xs u) (length ls - n) ls w gs (λ u hs. refl) (λ u. refl) h

  pub caught_moved : (n : ℕ) (o o' : Ran) (go go' : List Slot → ℕ → World → Ran) → RunMoved o o'
      → ((ls : List Slot) (t : ℕ) → GoesOn RunMoved (go ls t) (go' ls t)) → RunMoved (caught n o go) (caught n o' go')
  caught_moved n o o' go go' h k =
      on_same run_with run_lists (caught n o go) (caught n o' go') (caught n (run_with h.there o) go') (ap (λ x. caught n x go') h.same) (caught_by n o h.there go go' h.moved k)

  pub ticked_moved : {A : Type 0} (R : A → A → Type 0) (t : ℕ) (out out' : A) (go go' : ℕ → A) → R out out' → ((n : ℕ) → R (go n) (go' n))
      → R (ticked t out go) (ticked t out' go')
  ticked_moved R zero out out' go go' h k = h
  ticked_moved R (suc t) out out' go go' h k = k t

  -- an end after something that leaves the lists
  pub gone_on : (make : World → Ran) (go : World → World) → ((u : World) (hs : List (List Slot)) → make (with_lists hs u) ≡ run_with hs (make u)) → ((u : World) → run_lists (make u) ≡ u.globals)
      → ((u : World) (hs : List (List Slot)) → go (with_lists hs u) ≡ with_lists hs (go u)) → GoesOn RunMoved (λ u. make (go u)) (λ u. make (go u))
  gone_on make go turns has e w gs h =
      record {
        there = gs;
        same = ap make (e w gs) ∙ turns (go w) gs;
        moved = on_lists w.globals (run_lists (make (go w))) gs (has (go w) ∙ ap (λ (u : World). u.globals) (e w w.globals)) h;
      }

  pub given_on : (next next' : World → Reply) (go : World → World) → ((u : World) (hs : List (List Slot)) → go (with_lists hs u) ≡ with_lists hs (go u))
      → GoesOn ReplyMoved next next' → GoesOn ReplyMoved (λ u. next (go u)) (λ u. next' (go u))
  given_on next next' go e k w gs h =
      on_same reply_with reply_lists (next (go w)) (next' (go (with_lists gs w))) (next' (with_lists gs (go w))) (ap next' (e w gs))
      (k (go w) gs (on_lists w.globals (go w).globals gs (ap (λ (u : World). u.globals) (e w w.globals)) h))

  -- ---- ends of bodies

  pub raised_moved : (f : Fault) (vs : List Slot) (w : World) (gs : List (List Slot)) → AreMovedLists p w.globals gs
      → ReplyMoved (Raises f (give_all vs w)) (Raises f (give_all vs (with_lists gs w)))
  raised_moved f vs w gs h =
      record { there = gs; same = ap (Raises f) (give_all_moved (λ xs. gs) vs w); moved = on_lists w.globals (give_all vs w).globals gs (give_all_lists vs w) h }

  yielded_moved : (ps : List Passing) (v : Slot) (ls : List Slot) (t : ℕ) (w : World) (gs : List (List Slot)) → AreMovedLists p w.globals gs
      → ReplyMoved (yielded ps v ls t w) (yielded ps v ls t (with_lists gs w))
  yielded_moved ps v ls t w gs h =
      let k = length ls - length ps in
      let u = give_some k ls w in
      record {
        there = gs;
        same = ap (Yields v (outs_of ps (drop_some k ls)) t) (ap (give_others ps (drop_some k ls)) (give_some_with k ls w gs) ∙ give_others_with ps (drop_some k ls) u gs);
        moved = on_lists w.globals (give_others ps (drop_some k ls) u).globals gs (give_others_lists ps (drop_some k ls) u ∙ give_some_lists k ls w) h;
      }

  finished_by : (ps : List Passing) (o : Ran) (gs : List (List Slot)) → AreMovedLists p (run_lists o) gs → ReplyMoved (finished ps o) (finished ps (run_with gs o))
  finished_by ps (Went ls t w) gs h = yielded_moved ps (Bits 0) ls t w gs h
  finished_by ps (Returned v ls t w) gs h = yielded_moved ps v ls t w gs h
  finished_by ps (Halted f ls w) gs h = raised_moved f ls w gs h
  finished_by ps (Broken ls t w) gs h = yielded_moved ps (Bits 0) ls t w gs h
  finished_by ps (Continued ls t w) gs h = yielded_moved ps (Bits 0) ls t w gs h

  pub finished_moved : (ps : List Passing) (o o' : Ran) → RunMoved o o' → ReplyMoved (finished ps o) (finished ps o')
  finished_moved ps o o' h = on_same reply_with reply_lists (finished ps o) (finished ps o') (finished ps (run_with h.there o)) (ap (finished ps) h.same) (finished_by ps o h.there h.moved)

  -- ---- modules under other numbers

  module _ (z : Environment) where
    global_moved : (m g : ℕ) (v : Slot) (w : World) (gs : List (List Slot)) → AreMovedLists p w.globals gs → global_or (p.to m) g v (with_lists gs w) ≡ global_or m g v w
    unfolding global_or
    global_moved m g v w gs h = ap (λ l. slice_index_or l g v) (h.each m)

    abbrev lists_put : ℕ → ℕ → Slot → World → List (List Slot) → List (List Slot)
    lists_put m g v w gs = slice_set gs (p.to m) (slice_set (globals_of m w) g v)

    global_put_moved : (m g : ℕ) (v : Slot) (w : World) (gs : List (List Slot)) → AreMovedLists p w.globals gs
        → global_put (p.to m) g v (with_lists gs w) ≡ with_lists (lists_put m g v w gs) (global_put m g v w)
    unfolding global_put
    global_put_moved m g v w gs h = ap (λ l. with_lists (slice_set gs (p.to m) (slice_set l g v)) w) (h.each m)

    global_put_lists : (m g : ℕ) (v : Slot) (w : World) (gs : List (List Slot)) → AreMovedLists p w.globals gs → AreMovedLists p (global_put m g v w).globals (lists_put m g v w gs)
    unfolding global_put
    global_put_lists m g v w gs h = put_moved w.globals gs m (slice_set (globals_of m w) g v) (λ e. ap (λ l. slice_set l g v) e) h

    stored_global_moved : (m g : ℕ) (v : Slot) → GoesOn DoneMoved (stored_global m g v) (stored_global (p.to m) g v)
    stored_global_moved m g v w gs h =
        let put = global_put m g v w in
        let hs = lists_put m g v w gs in
        record {
          there = hs;
          same = ap₂ (λ x u. Fine v (give x u)) (global_moved m g v w gs h) (global_put_moved m g v w gs h) ∙ ap (Fine v) (give_moved (λ xs. hs) (global_or m g v w) put);
          moved = on_lists put.globals (give (global_or m g v w) put).globals hs (give_lists (global_or m g v w) put) (global_put_lists m g v w gs h);
        }

    changed_global_moved : (m g : ℕ) (c : Changed) → GoesOn DoneMoved (changed_global m g c) (changed_global (p.to m) g c)
    changed_global_moved m g (Into stored given) w gs h =
        record { there = lists_put m g (Bits stored) w gs; same = ap (Fine (Bits given)) (global_put_moved m g (Bits stored) w gs h); moved = global_put_lists m g (Bits stored) w gs h }
    changed_global_moved m g (Never f) w gs h = record { there = gs; same = refl; moved = h }

    -- an operation that looks at no global finds under the new number what it found under the old one
    renumbered : (m : ℕ) (op : Operation) (vs : List Slot) (w : World) → of_globals op ≡ false → perform (moved_setting p z) (p.to m) op vs w ≡ perform z m op vs w
    unfolding perform asked
    renumbered m (GlobalGet g) vs w e = absurd (cc)
    renumbered m (GlobalSet g) vs w e = absurd (cc)
    renumbered m (GlobalChange c g) vs w e = absurd (cc)
    renumbered m op vs w e = ap (λ k. perform z k op vs w) (p.there m)

    performs : (m : ℕ) (op : Operation) (vs : List Slot) (w : World) (gs : List (List Slot)) → of_globals op ≡ false → AreMovedLists p w.globals gs
        → DoneMoved (perform z m op vs w) (perform (moved_setting p z) (p.to m) op vs (with_lists gs w))
    performs m op vs w gs e h =
        record {
          there = gs;
          same = renumbered m op vs (with_lists gs w) e ∙ performed_elsewhere (λ xs. gs) z m op vs w e;
          moved = on_lists w.globals (done_lists (perform z m op vs w)) gs
              (ap done_lists (performed_elsewhere (λ xs. w.globals) z m op vs w e) ∙ done_with (perform z m op vs w) w.globals) h;
        }

    nothing_done : (f : Fault) (w : World) (gs : List (List Slot)) → AreMovedLists p w.globals gs → DoneMoved (Fails f w) (Fails f (with_lists gs w))
    nothing_done f w gs h = record { there = gs; same = refl; moved = h }

    pub perform_moved : (m : ℕ) (op : Operation) (vs : List Slot) → GoesOn DoneMoved (perform z m op vs) (perform (moved_setting p z) (p.to m) op vs)
    unfolding perform
    perform_moved m (GlobalGet g) [] w gs h =
        let v = global_or m g (Bits 0) w in
        record {
          there = gs;
          same = ap (λ x. holding x (with_lists gs w)) (global_moved m g (Bits 0) w gs h) ∙ holding_moved (λ xs. gs) v w;
          moved = on_lists w.globals (done_lists (holding v w)) gs (holding_lists v w) h;
        }
    perform_moved m (GlobalGet g) (v ∷ vs) w gs h = nothing_done Null w gs h
    perform_moved m (GlobalSet g) [] w gs h = nothing_done Null w gs h
    perform_moved m (GlobalSet g) (v ∷ []) w gs h =
        held_moved (λ hs. moved_done (λ xs. hs)) done_lists v w gs (Fails Tally) (stored_global m g v) (Fails Tally) (stored_global (p.to m) g v) h
        (λ u hs k. nothing_done Tally u hs k) (stored_global_moved m g v)
    perform_moved m (GlobalSet g) (v ∷ u ∷ vs) w gs h = nothing_done Null w gs h
    perform_moved m (GlobalChange c g) [] w gs h = nothing_done Null w gs h
    perform_moved m (GlobalChange c g) (v ∷ []) w gs h =
        let x = global_or m g (Bits 0) w in
        on_same (λ hs. moved_done (λ xs. hs)) done_lists (changed_global m g (change_of c x v) w)
        (changed_global (p.to m) g (change_of c (global_or (p.to m) g (Bits 0) (with_lists gs w)) v) (with_lists gs w))
        (changed_global (p.to m) g (change_of c x v) (with_lists gs w))
        (ap (λ y. changed_global (p.to m) g (change_of c y v) (with_lists gs w)) (global_moved m g (Bits 0) w gs h))
        (changed_global_moved m g (change_of c x v) w gs h)
    perform_moved m (GlobalChange c g) (v ∷ u ∷ vs) w gs h = nothing_done Null w gs h
    perform_moved m op vs w gs h = performs m op vs w gs refl h

    pub op_moved : (m : ℕ) (op : Operation) (o o' : Gathered) → ValuesMoved o o' → ValueMoved (applied (perform z m op) o) (applied (perform (moved_setting p z) (p.to m) op) o')
    op_moved m op o o' h = applied_moved (perform z m op) (perform (moved_setting p z) (p.to m) op) (λ vs. perform_moved m op vs) o o' h

    -- ---- `&out` values

    abbrev traded_with : List (List Slot) → Traded → Traded
    traded_with gs r = record r { world = with_lists gs r.world }

    abbrev settled_with : List (List Slot) → Settled → Settled
    settled_with gs r = record r { world = with_lists gs r.world }

    abbrev TradedMoved : Traded → Traded → Type 0
    TradedMoved = Moved traded_with (λ (r : Traded). r.world.globals)

    abbrev SettledMoved : Settled → Settled → Type 0
    SettledMoved = Moved settled_with (λ (r : Settled). r.world.globals)

    abbrev traded : List Slot → Slot → World → Traded
    traded ls x u = record { old = x; locals = ls; world = u }

    abbrev settled_so : Settled → Traded → Settled
    settled_so r d = record { olds = d.old ∷ r.olds; locals = d.locals; world = d.world }

    trade_moved : (m : ℕ) (x : Spot) (v : Slot) (ls : List Slot) → GoesOn TradedMoved (trade m x v ls) (trade (p.to m) x v ls)
    trade_moved m (Local i) v ls w gs h = record { there = gs; same = refl; moved = h }
    trade_moved m (Global g) v ls w gs h =
        record {
          there = lists_put m g v w gs;
          same = ap₂ (traded ls) (global_moved m g v w gs h) (global_put_moved m g v w gs h);
          moved = global_put_lists m g v w gs h;
        }
    trade_moved m (Field o i) v ls w gs h =
        record {
          there = gs;
          same = ap₂ (traded ls) (member_with i (local_at ls o) v w gs) (member_put_with i (local_at ls o) v w gs);
          moved = on_lists w.globals (member_put i (local_at ls o) v w).globals gs (member_put_lists i (local_at ls o) v w) h;
        }

    next_moved : (m : ℕ) (x : Target) (v : Slot) (r r' : Settled) → SettledMoved r r' → SettledMoved (settled_next m x v r) (settled_next (p.to m) x v r')
    next_moved m x v r r' h =
        let k = trade_moved m x.spot (brought x.to v) r.locals r.world h.there h.moved in
        record {
          there = k.there;
          same = ap (settled_next (p.to m) x v) h.same ∙ ap (settled_so r) k.same;
          moved = k.moved;
        }

    settled_moved : (m : ℕ) (xs : List Target) (outs ls : List Slot) → GoesOn SettledMoved (settled m xs outs ls) (settled (p.to m) xs outs ls)
    settled_moved m [] outs ls w gs h = record { there = gs; same = refl; moved = h }
    settled_moved m (x ∷ xs) [] ls w gs h = record { there = gs; same = refl; moved = h }
    settled_moved m (x ∷ xs) (v ∷ outs) ls w gs h =
        next_moved m x v (settled m xs outs ls w) (settled (p.to m) xs outs ls (with_lists gs w)) (settled_moved m xs outs ls w gs h)

    outs_moved : (v : Slot) (t : ℕ) (r r' : Settled) → SettledMoved r r' → ValueMoved (with_outs v r t) (with_outs v r' t)
    outs_moved v t r r' h =
        record {
          there = h.there;
          same = ap (λ s. with_outs v s t) h.same ∙ ap (Gave v r.locals t) (give_back_with r.olds r.world h.there);
          moved = on_lists r.world.globals (give_back r.olds r.world).globals h.there (give_back_lists r.olds r.world) h.moved;
        }

    replied_by_moved : (m : ℕ) (xs : List Target) (r : Reply) (ls : List Slot) (gs : List (List Slot)) → AreMovedLists p (reply_lists r) gs
        → ValueMoved (replied m xs r ls) (replied (p.to m) xs (reply_with gs r) ls)
    replied_by_moved m xs (Yields v outs t w) ls gs h =
        outs_moved v t (settled m xs outs ls w) (settled (p.to m) xs outs ls (with_lists gs w)) (settled_moved m xs outs ls w gs h)
    replied_by_moved m xs (Raises f w) ls gs h = record { there = gs; same = refl; moved = h }

    called_by_moved : (m : ℕ) (call call' : List Slot → ℕ → World → Reply) → ((vs : List Slot) (t : ℕ) → GoesOn ReplyMoved (call vs t) (call' vs t))
        → (xs : List Target) (o : Gathered) (gs : List (List Slot)) → AreMovedLists p (values_lists o) gs → ValueMoved (called m call xs o) (called (p.to m) call' xs (values_with gs o))
    called_by_moved m call call' k xs (Ready vs ls t w) gs h =
        let r = k vs t w gs h in
        on_same value_with value_lists (replied m xs (call vs t w) ls) (replied (p.to m) xs (call' vs t (with_lists gs w)) ls)
        (replied (p.to m) xs (reply_with r.there (call vs t w)) ls) (ap (λ x. replied (p.to m) xs x ls) r.same) (replied_by_moved m xs (call vs t w) ls r.there r.moved)
    called_by_moved m call call' k xs (Broke f ls w) gs h = record { there = gs; same = refl; moved = h }

    pub called_moved : (m : ℕ) (call call' : List Slot → ℕ → World → Reply) → ((vs : List Slot) (t : ℕ) → GoesOn ReplyMoved (call vs t) (call' vs t))
        → (xs : List Target) (o o' : Gathered) → ValuesMoved o o' → ValueMoved (called m call xs o) (called (p.to m) call' xs o')
    called_moved m call call' k xs o o' h =
        on_same value_with value_lists (called m call xs o) (called (p.to m) call' xs o') (called (p.to m) call' xs (values_with h.there o))
        (ap (called (p.to m) call' xs) h.same) (called_by_moved m call call' k xs o h.there h.moved)

    -- ---- calls

    pub params_moved : (g : Routine) → params_of (moved_setting p z) (moved_routine p g) ≡ params_of z g
    params_moved g = ap (λ h. params_in (z.params (record g { home = h }))) (p.there g.home)

    abbrev moved_found : Found → Found
    moved_found (Enters g) = Enters (moved_routine p g)
    moved_found (Misses f) = Misses f

    bound_moved : (o : Option Routine) → bound (option_map (moved_routine p) o) ≡ moved_found (bound o)
    bound_moved (Some g) = refl
    bound_moved None = refl

    method_moved : (m s : ℕ) (o : Option ScriptRecord) → method_of (moved_setting p z) (p.to m) s o ≡ moved_found (method_of z m s o)
    method_moved m s None = refl
    method_moved m s (Some o) = ap (λ k. bound (option_map (moved_routine p) (z.method k o.class s))) (p.there m) ∙ bound_moved (z.method m o.class s)

    virtual_moved : (m s : ℕ) (v : Slot) (w : World) (gs : List (List Slot)) → virtual_of (moved_setting p z) (p.to m) s v (with_lists gs w) ≡ moved_found (virtual_of z m s v w)
    virtual_moved m s (Script (Some n)) w gs = method_moved m s (map.get w.objects n)
    virtual_moved m s _ w gs = refl

    target_moved : (m : ℕ) (c : Callee) (vs : List Slot) (w : World) (gs : List (List Slot)) → target (moved_setting p z) (p.to m) c vs (with_lists gs w) ≡ moved_found (target z m c vs w)
    unfolding target
    target_moved m (Own g) vs w gs = refl
    target_moved m (Import i) vs w gs = ap (λ k. bound (option_map (moved_routine p) (z.linked k i))) (p.there m) ∙ bound_moved (z.linked m i)
    target_moved m (Virtual s) vs w gs =
        ap (λ k. virtual_of (moved_setting p z) (p.to m) s (receiver_in (params_in (z.slot k s)) vs) (with_lists gs w)) (p.there m)
        ∙ virtual_moved m s (receiver_in (params_in (z.slot m s)) vs) w gs

    module _ (body body' : Calls) (k : (g : Routine) (vs : List Slot) (t : ℕ) → GoesOn ReplyMoved (body g vs t) (body' (moved_routine p g) vs t)) where
      entered_moved : (d : ℕ) (g : Routine) (vs : List Slot) (t : ℕ) → GoesOn ReplyMoved (entered z body d g vs t) (entered (moved_setting p z) body' d (moved_routine p g) vs t)
      entered_moved d g vs t w gs h =
          let v : World = with_lists gs w in
          let out : World → Reply = λ u. Raises Memory (give_all vs u) in
          let go : ℕ → Reply = λ n. or_else (memory_step w) out (λ u. body g vs n u) in
          let go' : ℕ → Reply = λ n. or_else (memory_step v) out (λ u. body' (moved_routine p g) vs n u) in
          let ran : Reply = ticked t (Raises Budget (give_all vs w)) go in
          let ran' : Reply = ticked t (Raises Budget (give_all vs v)) go' in
          let nested : Reply = if may_nest z d then ran else Raises Depth (give_all vs w) in
          let nested' : Reply = if may_nest z d then ran' else Raises Depth (give_all vs v) in
          let whole : Reply = if has_objects (params_of z g) vs then nested else Raises Null (give_all vs w) in
          let whole' : Reply = if has_objects (params_of z g) vs then nested' else Raises Null (give_all vs v) in
          on_same reply_with reply_lists whole (entered (moved_setting p z) body' d (moved_routine p g) vs t v) whole'
          (ap (λ ps. if has_objects ps vs then nested' else Raises Null (give_all vs v)) (params_moved g))
          (either_moved ReplyMoved (has_objects (params_of z g) vs) nested (Raises Null (give_all vs w)) nested' (Raises Null (give_all vs v))
          (either_moved ReplyMoved (may_nest z d) ran (Raises Depth (give_all vs w)) ran' (Raises Depth (give_all vs v))
          (ticked_moved ReplyMoved t (Raises Budget (give_all vs w)) (Raises Budget (give_all vs v)) go go' (raised_moved Budget vs w gs h)
          (λ n. stepped_moved reply_with reply_lists w gs out (λ u. body g vs n u) out (λ u. body' (moved_routine p g) vs n u) h (λ u hs l. raised_moved Memory vs u hs l) (k g vs n)))
          (raised_moved Depth vs w gs h)) (raised_moved Null vs w gs h))

      found_moved : (d : ℕ) (f : Found) (vs : List Slot) (t : ℕ) → GoesOn ReplyMoved (found_entered z body d f vs t) (found_entered (moved_setting p z) body' d (moved_found f) vs t)
      found_moved d (Enters g) vs t w gs h = entered_moved d g vs t w gs h
      found_moved d (Misses f) vs t w gs h = raised_moved f vs w gs h

      pub enter_moved : (d m : ℕ) (c : Callee) (vs : List Slot) (t : ℕ) → GoesOn ReplyMoved (enter z body d m c vs t) (enter (moved_setting p z) body' d (p.to m) c vs t)
      enter_moved d m c vs t w gs h =
          on_same reply_with reply_lists (found_entered z body d (target z m c vs w) vs t w)
          (found_entered (moved_setting p z) body' d (target (moved_setting p z) (p.to m) c vs (with_lists gs w)) vs t (with_lists gs w))
          (found_entered (moved_setting p z) body' d (moved_found (target z m c vs w)) vs t (with_lists gs w))
          (ap (λ f. found_entered (moved_setting p z) body' d f vs t (with_lists gs w)) (target_moved m c vs w gs)) (found_moved d (target z m c vs w) vs t w gs h)
