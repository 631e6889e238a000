-- When a host call ends in `BadAnswer`, in `NoObject`, or in `Tally`: what the driver answered, or that a place more was refused where it may be.
use Rattle.std.proofs.Common.{◌≡◌, ◌≤◌, ◌⊎◌, inl, inr, List, [], ◌∷◌, ◌++◌, Option, Some, None, refl, sym, ap}
use Rattle.std.specs.Prelude.{Bool, true, false, cond, ltb, ◌-◌, ◌^◌}
use Rattle.std.proofs.lemmas.Bool.{ltb-false}
use Rattle.std.specs.FinMap as map
use Rattle.ang_kinds.specs.declared.fault.Fault.{Fault}
use Rattle.ang_kinds.specs.declared.fault.Fault.TheVariants.{BadAnswer, NoObject, Tally}
use Rattle.ang_host.specs.declared.answer.Made.TheVariants.{Key as MadeKey, Nothing as MadeNothing, Fault as MadeFault, Memory as MadeMemory, Full as MadeFull}
use Rattle.ang_host.specs.declared.answer.Answer.TheVariants.{Void, Gave, Fault as SaidFault, Memory as SaidMemory, Full}
use Rattle.ang_host.specs.declared.answer.HostReply.TheVariants.{Making, Asking}
use Rattle.ang_meaning.specs.declared.slot.Slot.{Slot}
use Rattle.ang_meaning.specs.declared.slot.Slot.TheVariants.{Bits, Script, Host}
use Rattle.ang_meaning.specs.World.{World, ScriptRecord, with_inputs, Input, Room, Said, Tallied, Fresh, Tried, Yes, No, or_else, HoldLimit, Inside, AtEnd, OfDriver, hold_limit_of, tally_told, tally_step, one_more, hold}
use Rattle.ang_meaning.specs.Counting.{count_of_object}
use Rattle.ang_meaning.specs.Hosts.{Fine, Fails, accepted, is_void, slot_of, replied_by}
use Rattle.ang_meaning.specs.Causes.{fault_of, BadAnswersAreBad, NoObjectIsMade, RefusedHoldsAreDue}

-- ---- a value that is held ends in `Tally` alone

holding_no : (f : Fault) (v : Slot) (o : Tried) → fault_of (or_else o (Fails Tally) (Fine v)) ≡ Some f → f ≡ Tally
holding_no f v (Yes w) e = absurd (let x : ⊥ = cc in x)
holding_no f v (No w) e = cc

bad_void : (b : Bool) (w : World) → fault_of (cond b (Fine (Bits 0) w) (Fails BadAnswer w)) ≡ Some BadAnswer → b ≡ false
bad_void true w e = absurd (let x : ⊥ = cc in x)
bad_void false w e = refl

bad_value : (o : Option Slot) (w : World) → fault_of (accepted o w) ≡ Some BadAnswer → o ≡ None
bad_value None w e = refl
bad_value (Some v) w e = absurd (let t : BadAnswer ≡ Tally = holding_no BadAnswer v (hold v w) e in let x : ⊥ = cc in x)

pub bad_answer : BadAnswersAreBad
unfolding replied_by
bad_answer d result (Making (MadeKey k)) w e = let x : ⊥ = cc in x
bad_answer d result (Making MadeNothing) w e = let x : ⊥ = cc in x
bad_answer d result (Making (MadeFault n)) w e = let x : ⊥ = cc in x
bad_answer d result (Making MadeMemory) w e = let x : ⊥ = cc in x
bad_answer d result (Making MadeFull) w e = let x : ⊥ = cc in x
bad_answer d result (Asking Void) w e = bad_void (is_void result) w e
bad_answer d result (Asking (Gave v)) w e = bad_value (slot_of d result v) w e
bad_answer d result (Asking (SaidFault n)) w e = let x : ⊥ = cc in x
bad_answer d result (Asking SaidMemory) w e = let x : ⊥ = cc in x
bad_answer d result (Asking Full) w e = let x : ⊥ = cc in x

void_no : (b : Bool) (w : World) → fault_of (cond b (Fine (Bits 0) w) (Fails BadAnswer w)) ≡ Some NoObject → ⊥
void_no true w e = let x : ⊥ = cc in x
void_no false w e = let x : ⊥ = cc in x

value_no : (o : Option Slot) (w : World) → fault_of (accepted o w) ≡ Some NoObject → ⊥
value_no None w e = let x : ⊥ = cc in x
value_no (Some v) w e = let t : NoObject ≡ Tally = holding_no NoObject v (hold v w) e in let x : ⊥ = cc in x

pub no_object : NoObjectIsMade
unfolding replied_by
no_object d result (Making (MadeKey k)) w e = absurd (let x : ⊥ = cc in x)
no_object d result (Making MadeNothing) w e = refl
no_object d result (Making (MadeFault n)) w e = absurd (let x : ⊥ = cc in x)
no_object d result (Making MadeMemory) w e = absurd (let x : ⊥ = cc in x)
no_object d result (Making MadeFull) w e = absurd (let x : ⊥ = cc in x)
no_object d result (Asking Void) w e = absurd (void_no (is_void result) w e)
no_object d result (Asking (Gave v)) w e = absurd (value_no (slot_of d result v) w e)
no_object d result (Asking (SaidFault n)) w e = absurd (let x : ⊥ = cc in x)
no_object d result (Asking SaidMemory) w e = absurd (let x : ⊥ = cc in x)
no_object d result (Asking Full) w e = absurd (let x : ⊥ = cc in x)

-- ---- a refusal is due

abbrev is_yes : Tried → Bool
is_yes (Yes w) = true
is_yes (No w) = false

abbrev world_in : Tried → World
world_in (Yes w) = w
world_in (No w) = w

granted_not : (w u : World) → Yes w ≡ No u → ⊥
granted_not w u e = let x : true ≡ false = ap is_yes e in cc

-- nothing was used where an input is left
left_over : (i : Input) (is : List Input) (w u : World) → No (with_inputs (i ∷ is) w) ≡ No (with_inputs [] u) → ⊥
left_over i is w u e = let x : i ∷ is ≡ [] = ap (λ o. (world_in o).inputs) e in cc

due_from : (x : HoldLimit) (v : Slot) (w u : World) (used : List Input)
    → ((rest : List Input) → or_else (tally_told x (used ++ rest) (with_inputs (used ++ rest) w)) No (λ q. Yes (one_more v q)) ≡ No (with_inputs rest u)) → (x ≡ AtEnd) ⊎ ((x ≡ OfDriver) × (u.spent ≡ true))
due_from x v w u [] h = absurd (granted_not (one_more v (with_inputs [] w)) (with_inputs (Tallied true ∷ []) u) (h (Tallied true ∷ [])))
due_from x v w u (Tallied true ∷ us) h = absurd (granted_not (one_more v (with_inputs (us ++ []) w)) (with_inputs [] u) (h []))
due_from Inside v w u (Tallied false ∷ us) h = absurd (left_over (Tallied false) (us ++ []) w u (h []))
due_from AtEnd v w u (Tallied false ∷ us) h = inl refl
due_from OfDriver v w u (Tallied false ∷ us) h = inr (refl, sym (ap (λ o. (world_in o).spent) (h [])))
due_from x v w u (Room b ∷ us) h = absurd (left_over (Room b) (us ++ []) w u (h []))
due_from x v w u (Said r ∷ us) h = absurd (left_over (Said r) (us ++ []) w u (h []))
due_from x v w u (Fresh n ∷ us) h = absurd (left_over (Fresh n) (us ++ []) w u (h []))

ended_if : (b : Bool) → cond b Inside AtEnd ≡ AtEnd → b ≡ false
ended_if true e = absurd (let x : ⊥ = cc in x)
ended_if false e = refl

pub at_end : (o : Option ScriptRecord) → hold_limit_of o ≡ AtEnd → 2 ^ 64 - 1 ≤ count_of_object o
at_end None e = absurd (let x : ⊥ = cc in x)
at_end (Some o) e = ltb-false o.count (2 ^ 64 - 1) (ended_if (ltb o.count (2 ^ 64 - 1)) e)

driver_not : (b : Bool) → cond b Inside AtEnd ≡ OfDriver → ⊥
driver_not true e = let x : ⊥ = cc in x
driver_not false e = let x : ⊥ = cc in x

no_driver : (o : Option ScriptRecord) → hold_limit_of o ≡ OfDriver → ⊥
no_driver None e = let x : ⊥ = cc in x
no_driver (Some o) e = driver_not (ltb o.count (2 ^ 64 - 1)) e

pub told_due : RefusedHoldsAreDue
unfolding hold tally_step
told_due (Bits n) w u t = granted_not _ _ (t.tells [])
told_due (Script None) w u t = granted_not _ _ (t.tells [])
told_due (Script (Some n)) w u t =
    elim (due_from (hold_limit_of (map.get w.objects n)) (Script (Some n)) w u t.used t.tells) [
      | inl e ↦ at_end (map.get w.objects n) e
      | inr e ↦ absurd (no_driver (map.get w.objects n) e.0)
    ]
told_due (Host d None) w u t = granted_not _ _ (t.tells [])
told_due (Host d (Some k)) w u t =
    elim (due_from OfDriver (Host d (Some k)) w u t.used t.tells) [
      | inl e ↦ absurd (let x : ⊥ = cc in x)
      | inr e ↦ e.1
    ]
