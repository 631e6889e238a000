-- What a fault `Tally` of each piece of a run comes of: a refused reference, an answer `Full`, or a count at its end.
use Rattle.std.proofs.Common.{◌≡◌, ℕ, zero, suc, ◌⊎◌, inl, inr, List, [], ◌∷◌, ◌++◌, Option, Some, None, refl, sym, ap, ◌∙◌, append_assoc, arith, ◌<◌}
use Rattle.std.specs.Prelude.{Bool, true, false, cond, ◌||◌, ◌-◌, ℤ, pos, negsuc, reverse, int_le}
use Rattle.std.specs.FinMap as map
use Rattle.std.specs.FinMap.{get-empty}
use Rattle.std.specs.Ordering.{nat_cmp}
use Rattle.ang_kinds.specs.declared.mask.EntityNo.{EntityNo}
use Rattle.ang_kinds.specs.declared.value.Value.{Value}
use Rattle.ang_kinds.specs.declared.primitive.Primitive.{Primitive}
use Rattle.ang_kinds.specs.declared.fault.Fault.{Fault}
use Rattle.ang_kinds.specs.declared.fault.Fault.TheVariants.{Null, Host as HostFault, BadAnswer, NoObject, Memory, Tally, DivideByZero, DivideOverflow}
use Rattle.ang_host.specs.declared.answer.Made.TheVariants.{Key as MadeKey, Nothing as MadeNothing, Fault as MadeFault, Memory as MadeMemory, Full as MadeFull}
use Rattle.ang_host.specs.declared.answer.Answer.TheVariants.{Void, Gave, Fault as SaidFault, Memory as SaidMemory, Full}
use Rattle.ang_host.specs.declared.answer.HostReply.{HostReply}
use Rattle.ang_host.specs.declared.answer.HostReply.TheVariants.{Making, Asking}
use Rattle.ang_host.specs.declared.event.HostEvent.{HostEvent}
use Rattle.ang_host.specs.declared.event.HostEvent.TheVariants.{Called}
use Rattle.ang_host.specs.Events.{is_full, was_full, some_full}
use Rattle.ang_meaning.specs.declared.slot.Slot.{Slot}
use Rattle.ang_meaning.specs.declared.slot.Slot.TheVariants.{Bits, Script, Host}
use Rattle.ang_meaning.specs.declared.host.HostValueType.{HostValueType}
use Rattle.ang_meaning.specs.declared.host.HostValueType.TheVariants.{Nothing}
use Rattle.ang_kinds.specs.declared.operator.Operator.{Operator}
use Rattle.ang_kinds.specs.declared.operator.Operator.TheVariants.{Divide, Remainder}
use Rattle.ang_meaning.specs.declared.operation.Update.{Update}
use Rattle.ang_meaning.specs.declared.operation.Operation.{Operation}
use Rattle.ang_meaning.specs.declared.operation.Operation.TheVariants.{Binary, Compare, Convert, Negate, Complement, Not, Same, GlobalGet, GlobalSet, GlobalChange, Ask, Read, Write, Alter, Make, FieldGet, FieldSet, FieldChange, Cast}
use Rattle.ang_meaning.specs.Numbers.{Worked, Is, Cannot, Changed, Into, Never, divided, least, number_of, binary_result, changed_to, changed, converted}
use Rattle.ang_meaning.specs.World.{World, ScriptRecord, Input, Room, Said, Tallied, Fresh, Tried, Yes, No, memory_step, one_more, HoldLimit, Inside, AtEnd, OfDriver, hold_limit_of, tally_told, tally_step, hold, Lowered, Gone, Kept, each_given, script_given, script_lowered, given, give, give_all, or_else}
use Rattle.ang_meaning.specs.Told.{Moves, GoesOn}
use Rattle.ang_meaning.specs.Counting.{count_of_object}
use Rattle.ang_meaning.specs.declared.class.Class.{Class}
use Rattle.ang_meaning.specs.Environment.{Environment, class_at, use_at}
use Rattle.ang_meaning.specs.Hosts.{Done, Fine, Fails, accepted, holding, is_void, slot_of, replied_by, is_reply_to, may_ask, asked_from, asked, value_of, values_of}
use Rattle.ang_meaning.specs.Perform.{work_done, change_of, global_or, changed_global, Receiver, Of, receiver_of, arguments_of, gives_up, called_of, read_of, write_of, in_place_of, altered_to, altered_of, field_or, may_take, stored_field, changed_field, field_put, global_put, is_under, cast_to, may_make, made_from, perform, NoReceiver, NullReceiver}
use Rattle.ang_meaning.specs.Causes.{RefusesFullCount, WasAnsweredFull, TallyCause}
use Rattle.ang_meaning.proofs.Moving.{TriedFrom, memory_goes, DoneFrom, read_goes}
use Rattle.ang_meaning.proofs.Operating.{KnownOption, slot_known}
use Rattle.ang_meaning.proofs.Refused.{at_end}

-- ---- what a run is told and what it lists, before and after

or_true : (b : Bool) → (b || true) ≡ true
or_true true = refl
or_true false = refl

full_append : (xs ys : List HostEvent) → some_full ys ≡ true → some_full (xs ++ ys) ≡ true
full_append [] ys h = h
full_append (x ∷ xs) ys h = ap (λ b. was_full x || b) (full_append xs ys h) ∙ or_true (was_full x)

full_front : (xs ys : List HostEvent) → some_full xs ≡ true → some_full (xs ++ ys) ≡ true
full_front [] ys h = absurd (let x : ⊥ = cc in x)
full_front (x ∷ xs) ys h =
    elim (was_full x) as (λ b. (b || some_full xs) ≡ true → (b || some_full (xs ++ ys)) ≡ true) [
      | true ↦ λ e. refl
      | false ↦ λ e. full_front xs ys e
    ] h

-- a run that is not told whether there is room in a tally goes on as if it were refused
abbrev pub IsUntold : List Input → Type 0
IsUntold is = (rest : List Input) → is ≡ Tallied true ∷ rest → ⊥

-- where a fault is `Tally`: its cause, or that nothing was told
abbrev pub TallyOf : Type 0 → World → World → Type 0
TallyOf P v w = TallyCause P v w ⊎ IsUntold w.inputs

full_later : (u v w : World) (more : List HostEvent) → v.events ≡ u.events ++ more → WasAnsweredFull v w → WasAnsweredFull u w
full_later u v w more e f = record {
  more = more ++ f.more;
  events = f.events ∙ ap (λ l. l ++ f.more) e ∙ append_assoc u.events more f.more;
  full = full_append more f.more f.full;
}

full_further : (u v w : World) (more : List HostEvent) → w.events ≡ v.events ++ more → WasAnsweredFull u v → WasAnsweredFull u w
full_further u v w more e f = record {
  more = f.more ++ more;
  events = e ∙ ap (λ l. l ++ more) f.events ∙ append_assoc u.events f.more more;
  full = full_front f.more more f.full;
}

-- after what went on before
pub tally_later : (P Q : Type 0) (u v w : World) → GoesOn u v → (P → Q) → TallyOf P v w → TallyOf Q u w
tally_later P Q u v w g f (inl (inl s)) = inl (inl s)
tally_later P Q u v w g f (inl (inr (inl h))) = inl (inr (inl (full_later u v w g.moves.more g.moves.events h)))
tally_later P Q u v w g f (inl (inr (inr p))) = inl (inr (inr (f p)))
tally_later P Q u v w g f (inr n) = inr n

-- what is given up leaves the inputs, and notes nothing
pub tally_further : (P : Type 0) (u v w : World) → Moves v [] w → w.spent ≡ v.spent → TallyOf P u v → TallyOf P u w
tally_further P u v w m s (inl (inl h)) = inl (inl (s ∙ h))
tally_further P u v w m s (inl (inr (inl h))) = inl (inr (inl (full_further u v w m.more m.events h)))
tally_further P u v w m s (inl (inr (inr p))) = inl (inr (inr p))
tally_further P u v w m s (inr n) = inr (λ rest e. n rest (m.inputs ∙ e))

each_notes : (go : Slot → World → World) → ((v : Slot) (w : World) → (go v w).spent ≡ w.spent) → (vs : List Slot) (w : World) → (each_given go vs w).spent ≡ w.spent
each_notes go h [] w = refl
each_notes go h (v ∷ vs) w = each_notes go h vs (go v w) ∙ h v w

script_notes : (go : Slot → World → World) → ((v : Slot) (w : World) → (go v w).spent ≡ w.spent) → (l : Lowered) (w : World) → (script_given go l w).spent ≡ w.spent
script_notes go h (Kept os) w = refl
script_notes go h (Gone vs os) w = each_notes go h vs (record w { objects = os })

given_notes : (n : ℕ) (v : Slot) (w : World) → (given n v w).spent ≡ w.spent
unfolding given
given_notes n (Bits x) w = refl
given_notes n (Script None) w = refl
given_notes n (Host d None) w = refl
given_notes n (Host d (Some k)) w = refl
given_notes zero (Script (Some k)) w = refl
given_notes (suc n) (Script (Some k)) w = script_notes (given n) (given_notes n) (script_lowered k w.objects) w

pub give_notes : (v : Slot) (w : World) → (give v w).spent ≡ w.spent
unfolding give
give_notes v w = given_notes (map.len w.objects) v w

pub give_all_notes : (vs : List Slot) (w : World) → (give_all vs w).spent ≡ w.spent
give_all_notes [] w = refl
give_all_notes (v ∷ vs) w = give_all_notes vs (give v w) ∙ give_notes v w

-- ---- a place more

abbrev pub TriedTally : Type 0 → World → Tried → Type 0
TriedTally P w (Yes u) = Unit {0}
TriedTally P w (No u) = TallyOf P w u

-- an input of another sort
untold_nothing : IsUntold []
untold_nothing rest e = let x : ⊥ = cc in x

untold_room : (b : Bool) (is : List Input) → IsUntold (Room b ∷ is)
untold_room b is rest e = let x : ⊥ = cc in x

untold_said : (r : HostReply) (is : List Input) → IsUntold (Said r ∷ is)
untold_said r is rest e = let x : ⊥ = cc in x

untold_fresh : (n : ℕ) (is : List Input) → IsUntold (Fresh n ∷ is)
untold_fresh n is rest e = let x : ⊥ = cc in x

untold_refused : (is : List Input) → IsUntold (Tallied false ∷ is)
untold_refused is rest e = let x : ⊥ = cc in x

module _ (P : Type 0) (w : World) where
  told_from : (x : HoldLimit) (inputs : List Input) → w.inputs ≡ inputs → (x ≡ AtEnd → (rest : List Input) → w.inputs ≡ Tallied false ∷ rest → P) → TriedTally P w (tally_told x inputs w)
  told_from x (Tallied true ∷ is) e p = tt
  told_from Inside (Tallied false ∷ is) e p = inr (λ rest h. untold_refused is rest (sym e ∙ h))
  told_from AtEnd (Tallied false ∷ is) e p = inl (inr (inr (p refl is e)))
  told_from OfDriver (Tallied false ∷ is) e p = inl (inl refl)
  told_from x [] e p = inr (λ rest h. untold_nothing rest (sym e ∙ h))
  told_from x (Room b ∷ is) e p = inr (λ rest h. untold_room b is rest (sym e ∙ h))
  told_from x (Said r ∷ is) e p = inr (λ rest h. untold_said r is rest (sym e ∙ h))
  told_from x (Fresh n ∷ is) e p = inr (λ rest h. untold_fresh n is rest (sym e ∙ h))

  held_from : (v : Slot) (o : Tried) → TriedTally P w o → TriedTally P w (or_else o No (λ u. Yes (one_more v u)))
  held_from v (No u) p = p
  held_from v (Yes u) p = tt

driver_limit : (P : Type 0) (w : World) → OfDriver ≡ AtEnd → (rest : List Input) → w.inputs ≡ Tallied false ∷ rest → P
driver_limit P w e rest h = absurd (let x : ⊥ = cc in x)

-- a place more of any value
pub hold_tally : (v : Slot) (w : World) → TriedTally (RefusesFullCount w) w (hold v w)
unfolding hold tally_step
hold_tally (Bits n) w = tt
hold_tally (Script None) w = tt
hold_tally (Script (Some n)) w =
    held_from (RefusesFullCount w) w (Script (Some n)) (tally_told (hold_limit_of (map.get w.objects n)) w.inputs w)
    (told_from (RefusesFullCount w) w (hold_limit_of (map.get w.objects n)) w.inputs refl (λ e rest h. record { object = n; full = at_end (map.get w.objects n) e; rest = rest; told = h }))
hold_tally (Host d None) w = tt
hold_tally (Host d (Some k)) w =
    held_from (RefusesFullCount w) w (Host d (Some k)) (tally_told OfDriver w.inputs w) (told_from (RefusesFullCount w) w OfDriver w.inputs refl (driver_limit (RefusesFullCount w) w))

-- of a key
key_tally : (P : Type 0) (d k : ℕ) (w : World) → TriedTally P w (hold (Host d (Some k)) w)
unfolding hold tally_step
key_tally P d k w = held_from P w (Host d (Some k)) (tally_told OfDriver w.inputs w) (told_from P w OfDriver w.inputs refl (driver_limit P w))

-- ---- operations

abbrev pub DoneTally : Type 0 → World → Done → Type 0
DoneTally P w (Fine v u) = Unit {0}
DoneTally P w (Fails f u) = f ≡ Tally → TallyOf P w u

holding_from : (P : Type 0) (v : Slot) (w : World) (o : Tried) → TriedTally P w o → DoneTally P w (or_else o (Fails Tally) (Fine v))
holding_from P v w (No u) p = λ e. p
holding_from P v w (Yes u) p = tt

-- a fault of another name
none_here : (P : Type 0) (f : Fault) (w u : World) → (f ≡ Tally → ⊥) → DoneTally P w (Fails f u)
none_here P f w u h = λ e. absurd (h e)

null_differs : Null ≡ Tally → ⊥
null_differs e = let x : ⊥ = cc in x

memory_differs : Memory ≡ Tally → ⊥
memory_differs e = let x : ⊥ = cc in x

bad_differs : BadAnswer ≡ Tally → ⊥
bad_differs e = let x : ⊥ = cc in x

none_differs : NoObject ≡ Tally → ⊥
none_differs e = let x : ⊥ = cc in x

host_differs : (n : ℕ) → HostFault n ≡ Tally → ⊥
host_differs n e = let x : ⊥ = cc in x

zero_differs : DivideByZero ≡ Tally → ⊥
zero_differs e = let x : ⊥ = cc in x

overflow_differs : DivideOverflow ≡ Tally → ⊥
overflow_differs e = let x : ⊥ = cc in x

-- no operator ends in `Tally`
abbrev WorksOtherwise : Worked → Type 0
WorksOtherwise (Is n) = Unit {0}
WorksOtherwise (Cannot f) = f ≡ Tally → ⊥

quotient_otherwise : (b : Bool) (n : ℕ) → WorksOtherwise (cond b (Cannot DivideOverflow) (Is n))
quotient_otherwise true n = overflow_differs
quotient_otherwise false n = tt

divided_otherwise : (p : Primitive) (x y r : ℤ) → WorksOtherwise (divided p x y r)
divided_otherwise p x (pos zero) r = zero_differs
divided_otherwise p x (pos (suc n)) r = tt
divided_otherwise p x (negsuc zero) r = quotient_otherwise (int_le x (least p)) _
divided_otherwise p x (negsuc (suc n)) r = tt

works_otherwise : (a : Operator) (p : Primitive) (x y : ℕ) → WorksOtherwise (binary_result a p x y)
unfolding binary_result
works_otherwise Divide p x y = divided_otherwise p (number_of p x) (number_of p y) _
works_otherwise Remainder p x y = divided_otherwise p (number_of p x) (number_of p y) _
works_otherwise _ p x y = tt

abbrev pub ChangesOtherwise : Changed → Type 0
ChangesOtherwise (Into a b) = Unit {0}
ChangesOtherwise (Never f) = f ≡ Tally → ⊥

changed_to_otherwise : (c : Update) (x : ℕ) (o : Worked) → WorksOtherwise o → ChangesOtherwise (changed_to c x o)
changed_to_otherwise c x (Cannot f) h = h
changed_to_otherwise c x (Is n) h = tt

changed_otherwise : (c : Update) (x y : ℕ) → ChangesOtherwise (changed c x y)
unfolding changed
changed_otherwise c x y = changed_to_otherwise c x (binary_result c.operator c.at (converted c.at x) y) (works_otherwise c.operator c.at (converted c.at x) y)

pub changes_otherwise : (c : Update) (u v : Slot) → ChangesOtherwise (change_of c u v)
unfolding change_of
changes_otherwise c (Bits x) (Bits y) = changed_otherwise c x y
changes_otherwise c (Bits x) (Script k) = null_differs
changes_otherwise c (Bits x) (Host d k) = null_differs
changes_otherwise c (Script k) v = null_differs
changes_otherwise c (Host d k) v = null_differs

-- ---- host calls

-- no script object is there
no_object : (n : ℕ) → 0 < count_of_object (map.get (map.empty {X = ScriptRecord} {R = nat_cmp}) n) → ⊥
no_object n h = let e : count_of_object (map.get (map.empty {X = ScriptRecord} {R = nat_cmp}) n) ≡ 0 = ap count_of_object (get-empty nat_cmp n) in omega (arith, h, e)

module _ (P : Type 0) where
  -- what a driver gives is no script object
  accepted_tally : (o : Option Slot) (w : World) → KnownOption (record w { objects = map.empty }) o → DoneTally P w (accepted o w)
  unfolding hold tally_step
  accepted_tally None w k = none_here P BadAnswer w w bad_differs
  accepted_tally (Some (Bits n)) w k = tt
  accepted_tally (Some (Script None)) w k = tt
  accepted_tally (Some (Script (Some n))) w k = absurd (no_object n k)
  accepted_tally (Some (Host d None)) w k = tt
  accepted_tally (Some (Host d (Some n))) w k = holding_from P (Host d (Some n)) w (hold (Host d (Some n)) w) (key_tally P d n w)

  void_tally : (b : Bool) (w : World) → DoneTally P w (cond b (Fine (Bits 0) w) (Fails BadAnswer w))
  void_tally true w = tt
  void_tally false w = none_here P BadAnswer w w bad_differs

  -- an answer `Full` is listed by then
  replied_tally : (u : World) (d : ℕ) (result : HostValueType) (r : HostReply) (w : World) → (is_full r ≡ true → WasAnsweredFull u w) → (DoneTally P w (replied_by d result r w) → DoneTally P u (replied_by d result r w))
      → DoneTally P u (replied_by d result r w)
  unfolding replied_by
  replied_tally u d result (Making (MadeKey k)) w f later = tt
  replied_tally u d result (Making MadeNothing) w f later = none_here P NoObject u w none_differs
  replied_tally u d result (Making (MadeFault n)) w f later = none_here P (HostFault n) u w (host_differs n)
  replied_tally u d result (Making MadeMemory) w f later = none_here P Memory u w memory_differs
  replied_tally u d result (Making MadeFull) w f later = λ e. inl (inr (inl (f refl)))
  replied_tally u d result (Asking Void) w f later = later (void_tally (is_void result) w)
  replied_tally u d result (Asking (Gave v)) w f later = later (accepted_tally (slot_of d result v) w (slot_known (record w { objects = map.empty }) d result v))
  replied_tally u d result (Asking (SaidFault n)) w f later = none_here P (HostFault n) u w (host_differs n)
  replied_tally u d result (Asking SaidMemory) w f later = none_here P Memory u w memory_differs
  replied_tally u d result (Asking Full) w f later = λ e. inl (inr (inl (f refl)))

  later_done : (u v : World) (o : Done) → GoesOn u v → DoneTally P v o → DoneTally P u o
  later_done u v (Fine x w) g h = tt
  later_done u v (Fails f w) g h = λ e. tally_later P P u v w g (λ p. p) (h e)

  kind_tally : (b : Bool) (w : World) (o : Done) → DoneTally P w o → DoneTally P w (cond b o (Fails Memory w))
  kind_tally true w o p = p
  kind_tally false w o p = none_here P Memory w w memory_differs

  memory_tally : (w : World) (o : Tried) (go : World → Done) → TriedFrom Memory w o → ((u : World) → DoneTally P u (go u)) → DoneTally P w (or_else o (Fails Memory) go)
  memory_tally w (No u) go g h = none_here P Memory w u memory_differs
  memory_tally w (Yes u) go g h = later_done w u (go u) g (h u)

module _ (P : Type 0) (z : Environment) (m : ℕ) (e : EntityNo) where
  asked_said : (object : Option ℕ) (args : List Value) (result : HostValueType) (inputs : List Input) (w : World) → w.inputs ≡ inputs → DoneTally P w (asked_from z m e object args result inputs w)
  asked_said object args result (Said reply ∷ rest) w h =
      let event = Called (z.name m) e (use_at z m e).driver object args reply in
      let u : World = record w { inputs = rest; events = w.events ++ event ∷ []; reserved = suc w.reserved } in
      let g : GoesOn w u = record { used = Said reply ∷ []; moves = record { more = event ∷ []; inputs = h; events = refl; answers = refl }; room = refl } in
      let full : is_full reply ≡ true → WasAnsweredFull w u = λ f. record { more = event ∷ []; events = refl; full = ap (λ b. b || false) f } in
      kind_tally P (is_reply_to (use_at z m e).role reply) w _
      (replied_tally P w (use_at z m e).driver result reply u full (later_done P w u (replied_by (use_at z m e).driver result reply u) g))
  asked_said object args result [] w h = none_here P Memory w w memory_differs
  asked_said object args result (Room b ∷ rest) w h = none_here P Memory w w memory_differs
  asked_said object args result (Tallied b ∷ rest) w h = none_here P Memory w w memory_differs
  asked_said object args result (Fresh n ∷ rest) w h = none_here P Memory w w memory_differs

  asked_tally : (object : Option ℕ) (args : List Value) (result : HostValueType) (w : World) → DoneTally P w (asked z m e object args result w)
  unfolding asked
  asked_tally object args result w =
      kind_tally P (may_ask (use_at z m e).role w) w _ (memory_tally P w (memory_step w) _ (memory_goes w) (λ u. asked_said object args result u.inputs u refl))

  called_tally : (r : Receiver) (args : List Slot) (w : World) → DoneTally P w (called_of z m e r args w)
  called_tally NoReceiver args w = asked_tally None (values_of (use_at z m e).driver (use_at z m e).params args) (use_at z m e).result w
  called_tally (Of k) args w = asked_tally (Some k) (values_of (use_at z m e).driver (use_at z m e).params args) (use_at z m e).result w
  called_tally NullReceiver args w = none_here P Null w w null_differs

  read_tally : (r : Receiver) (w : World) → DoneTally P w (read_of z m e r w)
  read_tally NoReceiver w = asked_tally None [] (use_at z m e).result w
  read_tally (Of k) w = asked_tally (Some k) [] (use_at z m e).result w
  read_tally NullReceiver w = none_here P Null w w null_differs

  write_tally : (r : Receiver) (v : Slot) (w : World) → DoneTally P w (write_of z m e r v w)
  write_tally NoReceiver v w = asked_tally None (value_of (use_at z m e).driver (use_at z m e).result v ∷ []) Nothing w
  write_tally (Of k) v w = asked_tally (Some k) (value_of (use_at z m e).driver (use_at z m e).result v ∷ []) Nothing w
  write_tally NullReceiver v w = none_here P Null w w null_differs

  in_place_tally : (v : Slot) (w : World) (o : Done) → DoneTally P w o → DoneTally P w (in_place_of v o)
  in_place_tally v w (Fine x u) p = tt
  in_place_tally v w (Fails f u) p = p

  altered_to_tally : (r : Receiver) (x : Slot) (c : Changed) (w : World) → ChangesOtherwise c → DoneTally P w (altered_to z m e r x c w)
  altered_to_tally r x (Never f) w h = none_here P f w (give x w) h
  altered_to_tally r x (Into stored given) w h = in_place_tally (Bits given) w (write_of z m e r (Bits stored) w) (write_tally r (Bits stored) w)

  altered_tally : (r : Receiver) (c : Update) (v : Slot) (w : World) (o : Done) → DoneFrom w o → DoneTally P w o → DoneTally P w (altered_of z m e r c v o)
  altered_tally r c v w (Fails f u) g p = p
  altered_tally r c v w (Fine x u) g p =
      later_done P w u (altered_to z m e r x (change_of c x v) u) g (altered_to_tally r x (change_of c x v) u (changes_otherwise c x v))

-- ---- all operations

module _ (P : Type 0) where
  up_tally : (vs : List Slot) (w : World) (o : Done) → DoneTally P w o → DoneTally P w (gives_up vs o)
  up_tally vs w (Fine v u) p = tt
  up_tally vs w (Fails f u) p = p

  work_tally : (o : Worked) (w : World) → WorksOtherwise o → DoneTally P w (work_done o w)
  work_tally (Is n) w h = tt
  work_tally (Cannot f) w h = none_here P f w w h

  global_tally : (m g : ℕ) (c : Changed) (w : World) → ChangesOtherwise c → DoneTally P w (changed_global m g c w)
  global_tally m g (Into stored given) w h = tt
  global_tally m g (Never f) w h = none_here P f w w h

  field_tally : (n i : ℕ) (c : Changed) (w : World) → ChangesOtherwise c → DoneTally P w (changed_field n i c w)
  field_tally n i (Into stored given) w h = tt
  field_tally n i (Never f) w h = none_here P f w w h

  stored_tally : (w : World) (o : Tried) (v : World → Slot) (then : World → World) → TriedTally P w o → DoneTally P w (or_else o (Fails Tally) (λ u. Fine (v u) (then u)))
  stored_tally w (No u) v then p = λ e. p
  stored_tally w (Yes u) v then p = tt

  cast_tally : (b : Bool) (n : ℕ) (w : World) → DoneTally P w (cast_to b n w)
  cast_tally true n w = tt
  cast_tally false n w = tt

  made_tally : (k : Class) (inputs : List Input) (w : World) → DoneTally P w (made_from k inputs w)
  made_tally k [] w = none_here P Memory w w memory_differs
  made_tally k (Fresh n ∷ rest) w = tt
  made_tally k (Said r ∷ rest) w = none_here P Memory w w memory_differs
  made_tally k (Room b ∷ rest) w = none_here P Memory w w memory_differs
  made_tally k (Tallied b ∷ rest) w = none_here P Memory w w memory_differs

  misfit : (w : World) → DoneTally P w (Fails Null w)
  misfit w = none_here P Null w w null_differs

may_store_tally : (b : Bool) (n i : ℕ) (v : Slot) (w : World) → DoneTally (RefusesFullCount w) w (cond b (or_else (hold v w) (Fails Tally) (stored_field n i v)) (Fails Null w))
may_store_tally true n i v w = stored_tally (RefusesFullCount w) w (hold v w) (λ u. v) (λ u. give (field_or n i v u) (field_put n i v u)) (hold_tally v w)
may_store_tally false n i v w = misfit (RefusesFullCount w) w

holding_tally : (v : Slot) (w : World) → DoneTally (RefusesFullCount w) w (holding v w)
holding_tally v w = holding_from (RefusesFullCount w) v w (hold v w) (hold_tally v w)

pub perform_tally : (z : Environment) (m : ℕ) (o : Operation) (vs : List Slot) (w : World) → DoneTally (RefusesFullCount w) w (perform z m o vs w)
unfolding perform
perform_tally z m (Binary a p) [] w = misfit (RefusesFullCount w) w
perform_tally z m (Binary a p) (Bits y ∷ []) w = misfit (RefusesFullCount w) w
perform_tally z m (Binary a p) (Bits y ∷ (Bits x ∷ [])) w = work_tally (RefusesFullCount w) (binary_result a p x y) w (works_otherwise a p x y)
perform_tally z m (Binary a p) (Bits y ∷ (Bits x ∷ (u ∷ us))) w = misfit (RefusesFullCount w) w
perform_tally z m (Binary a p) (Bits y ∷ (Script j ∷ us)) w = misfit (RefusesFullCount w) w
perform_tally z m (Binary a p) (Bits y ∷ (Host d j ∷ us)) w = misfit (RefusesFullCount w) w
perform_tally z m (Binary a p) (Script j ∷ us) w = misfit (RefusesFullCount w) w
perform_tally z m (Binary a p) (Host d j ∷ us) w = misfit (RefusesFullCount w) w
perform_tally z m (Compare c signed) [] w = misfit (RefusesFullCount w) w
perform_tally z m (Compare c signed) (Bits y ∷ []) w = misfit (RefusesFullCount w) w
perform_tally z m (Compare c signed) (Bits y ∷ (Bits x ∷ [])) w = tt
perform_tally z m (Compare c signed) (Bits y ∷ (Bits x ∷ (u ∷ us))) w = misfit (RefusesFullCount w) w
perform_tally z m (Compare c signed) (Bits y ∷ (Script j ∷ us)) w = misfit (RefusesFullCount w) w
perform_tally z m (Compare c signed) (Bits y ∷ (Host d j ∷ us)) w = misfit (RefusesFullCount w) w
perform_tally z m (Compare c signed) (Script j ∷ us) w = misfit (RefusesFullCount w) w
perform_tally z m (Compare c signed) (Host d j ∷ us) w = misfit (RefusesFullCount w) w
perform_tally z m (Convert p) [] w = misfit (RefusesFullCount w) w
perform_tally z m (Convert p) (Bits x ∷ []) w = tt
perform_tally z m (Convert p) (Bits x ∷ (u ∷ us)) w = misfit (RefusesFullCount w) w
perform_tally z m (Convert p) (Script j ∷ us) w = misfit (RefusesFullCount w) w
perform_tally z m (Convert p) (Host d j ∷ us) w = misfit (RefusesFullCount w) w
perform_tally z m (Negate p) [] w = misfit (RefusesFullCount w) w
perform_tally z m (Negate p) (Bits x ∷ []) w = tt
perform_tally z m (Negate p) (Bits x ∷ (u ∷ us)) w = misfit (RefusesFullCount w) w
perform_tally z m (Negate p) (Script j ∷ us) w = misfit (RefusesFullCount w) w
perform_tally z m (Negate p) (Host d j ∷ us) w = misfit (RefusesFullCount w) w
perform_tally z m (Complement p) [] w = misfit (RefusesFullCount w) w
perform_tally z m (Complement p) (Bits x ∷ []) w = tt
perform_tally z m (Complement p) (Bits x ∷ (u ∷ us)) w = misfit (RefusesFullCount w) w
perform_tally z m (Complement p) (Script j ∷ us) w = misfit (RefusesFullCount w) w
perform_tally z m (Complement p) (Host d j ∷ us) w = misfit (RefusesFullCount w) w
perform_tally z m Not [] w = misfit (RefusesFullCount w) w
perform_tally z m Not (Bits x ∷ []) w = tt
perform_tally z m Not (Bits x ∷ (u ∷ us)) w = misfit (RefusesFullCount w) w
perform_tally z m Not (Script j ∷ us) w = misfit (RefusesFullCount w) w
perform_tally z m Not (Host d j ∷ us) w = misfit (RefusesFullCount w) w
perform_tally z m Same [] w = misfit (RefusesFullCount w) w
perform_tally z m Same (y ∷ []) w = misfit (RefusesFullCount w) w
perform_tally z m Same (y ∷ (x ∷ [])) w = tt
perform_tally z m Same (y ∷ (x ∷ (u ∷ us))) w = misfit (RefusesFullCount w) w
perform_tally z m (GlobalGet g) [] w = holding_tally (global_or m g (Bits 0) w) w
perform_tally z m (GlobalGet g) (v ∷ vs) w = misfit (RefusesFullCount w) w
perform_tally z m (GlobalSet g) [] w = misfit (RefusesFullCount w) w
perform_tally z m (GlobalSet g) (v ∷ []) w =
    stored_tally (RefusesFullCount w) w (hold v w) (λ u. v) (λ u. give (global_or m g v u) (global_put m g v u)) (hold_tally v w)
perform_tally z m (GlobalSet g) (v ∷ (u ∷ us)) w = misfit (RefusesFullCount w) w
perform_tally z m (GlobalChange c g) [] w = misfit (RefusesFullCount w) w
perform_tally z m (GlobalChange c g) (v ∷ []) w =
    global_tally (RefusesFullCount w) m g (change_of c (global_or m g (Bits 0) w) v) w (changes_otherwise c (global_or m g (Bits 0) w) v)
perform_tally z m (GlobalChange c g) (v ∷ (u ∷ us)) w = misfit (RefusesFullCount w) w
perform_tally z m (Ask e) vs w =
    up_tally (RefusesFullCount w) vs w _ (called_tally (RefusesFullCount w) z m e (receiver_of (use_at z m e) (reverse vs)) (arguments_of (use_at z m e) (reverse vs)) w)
perform_tally z m (Read e) vs w = up_tally (RefusesFullCount w) vs w _ (read_tally (RefusesFullCount w) z m e (receiver_of (use_at z m e) vs) w)
perform_tally z m (Write e) [] w = misfit (RefusesFullCount w) w
perform_tally z m (Write e) (v ∷ []) w = in_place_tally (RefusesFullCount w) z m e v w _ (write_tally (RefusesFullCount w) z m e (receiver_of (use_at z m e) []) v w)
perform_tally z m (Write e) (o ∷ (v ∷ [])) w =
    up_tally (RefusesFullCount w) (o ∷ []) w _ (in_place_tally (RefusesFullCount w) z m e v w _ (write_tally (RefusesFullCount w) z m e (receiver_of (use_at z m e) (o ∷ [])) v w))
perform_tally z m (Write e) (o ∷ (v ∷ (u ∷ us))) w = misfit (RefusesFullCount w) w
perform_tally z m (Alter e c) [] w = misfit (RefusesFullCount w) w
perform_tally z m (Alter e c) (v ∷ []) w =
    let r = receiver_of (use_at z m e) [] in
    altered_tally (RefusesFullCount w) z m e r c v w (read_of z m e r w) (read_goes z m e r w) (read_tally (RefusesFullCount w) z m e r w)
perform_tally z m (Alter e c) (o ∷ (v ∷ [])) w =
    let r = receiver_of (use_at z m e) (o ∷ []) in
    up_tally (RefusesFullCount w) (o ∷ []) w _ (altered_tally (RefusesFullCount w) z m e r c v w (read_of z m e r w) (read_goes z m e r w) (read_tally (RefusesFullCount w) z m e r w))
perform_tally z m (Alter e c) (o ∷ (v ∷ (u ∷ us))) w = misfit (RefusesFullCount w) w
perform_tally z m (Make c) [] w =
    kind_tally (RefusesFullCount w) (may_make (class_at z m c) w) w _
    (memory_tally (RefusesFullCount w) w (memory_step w) _ (memory_goes w) (λ u. made_tally (RefusesFullCount w) (class_at z m c) u.inputs u))
perform_tally z m (Make c) (v ∷ vs) w = misfit (RefusesFullCount w) w
perform_tally z m (FieldGet i) [] w = misfit (RefusesFullCount w) w
perform_tally z m (FieldGet i) (Bits x ∷ us) w = misfit (RefusesFullCount w) w
perform_tally z m (FieldGet i) (Script None ∷ us) w = misfit (RefusesFullCount w) w
perform_tally z m (FieldGet i) (Script (Some n) ∷ []) w =
    up_tally (RefusesFullCount w) (Script (Some n) ∷ []) w _ (holding_tally (field_or n i (Bits 0) w) w)
perform_tally z m (FieldGet i) (Script (Some n) ∷ (u ∷ us)) w = misfit (RefusesFullCount w) w
perform_tally z m (FieldGet i) (Host d j ∷ us) w = misfit (RefusesFullCount w) w
perform_tally z m (FieldSet i) [] w = misfit (RefusesFullCount w) w
perform_tally z m (FieldSet i) (Bits x ∷ us) w = misfit (RefusesFullCount w) w
perform_tally z m (FieldSet i) (Script None ∷ us) w = misfit (RefusesFullCount w) w
perform_tally z m (FieldSet i) (Script (Some n) ∷ []) w = misfit (RefusesFullCount w) w
perform_tally z m (FieldSet i) (Script (Some n) ∷ (v ∷ [])) w =
    up_tally (RefusesFullCount w) (Script (Some n) ∷ []) w _ (may_store_tally (may_take n v w) n i v w)
perform_tally z m (FieldSet i) (Script (Some n) ∷ (v ∷ (u ∷ us))) w = misfit (RefusesFullCount w) w
perform_tally z m (FieldSet i) (Host d j ∷ us) w = misfit (RefusesFullCount w) w
perform_tally z m (FieldChange c i) [] w = misfit (RefusesFullCount w) w
perform_tally z m (FieldChange c i) (Bits x ∷ us) w = misfit (RefusesFullCount w) w
perform_tally z m (FieldChange c i) (Script None ∷ us) w = misfit (RefusesFullCount w) w
perform_tally z m (FieldChange c i) (Script (Some n) ∷ []) w = misfit (RefusesFullCount w) w
perform_tally z m (FieldChange c i) (Script (Some n) ∷ (v ∷ [])) w =
    up_tally (RefusesFullCount w) (Script (Some n) ∷ []) w _ (field_tally (RefusesFullCount w) n i (change_of c (field_or n i (Bits 0) w) v) w (changes_otherwise c (field_or n i (Bits 0) w) v))
perform_tally z m (FieldChange c i) (Script (Some n) ∷ (v ∷ (u ∷ us))) w = misfit (RefusesFullCount w) w
perform_tally z m (FieldChange c i) (Host d j ∷ us) w = misfit (RefusesFullCount w) w
perform_tally z m (Cast c) [] w = misfit (RefusesFullCount w) w
perform_tally z m (Cast c) (Bits x ∷ us) w = misfit (RefusesFullCount w) w
perform_tally z m (Cast c) (Script None ∷ []) w = tt
perform_tally z m (Cast c) (Script None ∷ (u ∷ us)) w = misfit (RefusesFullCount w) w
perform_tally z m (Cast c) (Script (Some n) ∷ []) w = cast_tally (RefusesFullCount w) (is_under z m c (map.get w.objects n)) n w
perform_tally z m (Cast c) (Script (Some n) ∷ (u ∷ us)) w = misfit (RefusesFullCount w) w
perform_tally z m (Cast c) (Host d j ∷ us) w = misfit (RefusesFullCount w) w
