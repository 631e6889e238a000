-- What a driver's answer comes to in the meaning.
use Rattle.std.proofs.Common.{◌≡◌, ℕ, ◌<◌, ◌-◌, ◌^◌, ℤ, pos, negsuc, arith, w64, List, Bool, true, false, cond, Option, Some, None, refl, sym, ap, subst, ◌∙◌}
use Rattle.std.specs.Prelude.{IfSome, Result, Ok, Err}
use Rattle.std.specs.Int.{cast_unsigned}
use Rattle.std.proofs.lemmas.Bool.{lt-ltb, le-leb}
use Rattle.std.proofs.lemmas.Int.{int_wrap_fits}
use mir.Val.{SFits}
use Rattle.ang_kinds.specs.declared.value.Value.{Value}
use Rattle.ang_kinds.specs.declared.value.Value.TheVariants.{Int, Uint, Bool as Truth, Key}
use Rattle.ang_kinds.specs.declared.primitive.Primitive.TheVariants.{I8, I16, I32, I64, U8, U16, U32, U64, Bool as TruthType}
use Rattle.ang_kinds.specs.declared.fault.Fault.TheVariants.{Host as HostFault, BadAnswer, Memory, Tally}
use Rattle.ang_kinds.specs.declared.fault.Fault.{Fault}
use Rattle.ang_host.specs.declared.answer.Answer.{Answer}
use Rattle.ang_host.specs.declared.answer.Answer.TheVariants.{Void, Gave, Fault as SaidFault, Memory as SaidMemory, Full}
use Rattle.ang_host.specs.declared.answer.HostReply.TheVariants.{Asking}
use Rattle.ang_host.specs.State.{State, count_of}
use Rattle.ang_host.specs.Laws.{IsSound, IsLiveValue}
use Rattle.ang_host.specs.Members.{state_at}
use Rattle.ang_meaning.specs.declared.slot.Slot.{Slot}
use Rattle.ang_meaning.specs.declared.slot.Slot.TheVariants.{Bits}
use Rattle.ang_meaning.specs.declared.host.HostValueType.{HostValueType}
use Rattle.ang_meaning.specs.declared.host.HostValueType.TheVariants.{Nothing, Plain, Handle}
use Rattle.ang_meaning.specs.Numbers.{bits_of}
use Rattle.ang_meaning.specs.World.{World, Tried, or_else, hold, if_told, with_inputs}
use Rattle.ang_meaning.specs.Hosts.{Done, Fine, Fails, is_within, if_within, slot_of, accepted, is_void, replied_by}
use Rattle.ang_meaning.specs.Told.{Told}
use Rattle.ang_meaning.specs.Counting.{HasKey, counts_by}
use Rattle.ang_meaning.proofs.Telling.{told_same, told_then, told_map}
use Rattle.ang_vm_stack.specs.Arms.{done}

-- ---- a value that is accepted

-- what follows where one more place was to hold the value
abbrev taken : Slot → Tried → Done
taken v t = or_else t (Fails Tally) (Fine v)

pub accepted_told : (o : Option Slot) (v : Slot) (b : Bool) (w w' : World) → o ≡ Some v → b ≡ true → Told (λ is. hold v (with_inputs is w)) (λ is. if_told b (with_inputs is w'))
    → Told (λ is. accepted o (with_inputs is w)) (λ is. Fine v (with_inputs is w'))
accepted_told o v b w w' e h t =
    told_then (told_same (λ is. ap (λ x. accepted x (with_inputs is w)) e))
    (told_then (told_map (taken v) t) (told_same (λ is. ap (λ x. taken v (if_told x (with_inputs is w'))) h)))

pub accepted_refused : (o : Option Slot) (v : Slot) (b : Bool) (w w' : World) → o ≡ Some v → b ≡ false → Told (λ is. hold v (with_inputs is w)) (λ is. if_told b (with_inputs is w'))
    → Told (λ is. accepted o (with_inputs is w)) (λ is. Fails Tally (with_inputs is w'))
accepted_refused o v b w w' e h t =
    told_then (told_same (λ is. ap (λ x. accepted x (with_inputs is w)) e))
    (told_then (told_map (taken v) t) (told_same (λ is. ap (λ x. taken v (if_told x (with_inputs is w'))) h)))

-- ---- a driver's key is counted

module _ (ss : List State) (d : ℕ) (sound : IsSound (state_at ss d)) where
  abbrev pub HasKeyOption : Option Slot → Type 0
  HasKeyOption o = IfSome o (λ v. HasKey v (counts_by ss))

  within_there : (b : Bool) (n : ℕ) → HasKeyOption (if_within b n)
  within_there true n = tt
  within_there false n = tt

  pub slot_there : (of : HostValueType) (v : Value) → IsLiveValue (state_at ss d) v → HasKeyOption (slot_of d of v)
  unfolding slot_of
  slot_there Nothing (Int z) h = tt
  slot_there Nothing (Uint n) h = tt
  slot_there Nothing (Truth b) h = tt
  slot_there Nothing (Key k) h = tt
  slot_there (Plain p) (Int z) h = within_there _ _
  slot_there (Plain p) (Uint n) h = within_there _ _
  slot_there (Plain I8) (Truth b) h = tt
  slot_there (Plain I16) (Truth b) h = tt
  slot_there (Plain I32) (Truth b) h = tt
  slot_there (Plain I64) (Truth b) h = tt
  slot_there (Plain U8) (Truth b) h = tt
  slot_there (Plain U16) (Truth b) h = tt
  slot_there (Plain U32) (Truth b) h = tt
  slot_there (Plain U64) (Truth b) h = tt
  slot_there (Plain TruthType) (Truth b) h = tt
  slot_there (Plain p) (Key k) h = tt
  slot_there Handle (Int z) h = tt
  slot_there Handle (Uint n) h = tt
  slot_there Handle (Truth b) h = tt
  slot_there Handle (Key None) h = tt
  slot_there Handle (Key (Some k)) h = subst (λ n. 0 < n) (sym (ap count_of h.1)) (sound.positive k h.0 h.1)

-- ---- a number of the type of all of them

within_long : (z : ℤ) → SFits w64 z → is_within I64 z ≡ true
within_long (pos n) f = let small = f.sfits in lt-ltb n (2 ^ 63) (omega (arith, small))
within_long (negsuc n) f = let small = f.sfits in le-leb n (2 ^ 63 - 1) (omega (arith, small))

pub int64_slot : (d : ℕ) (z : ℤ) (n : ℕ) → SFits w64 z → n ≡ cast_unsigned w64 z → slot_of d (Plain I64) (Int z) ≡ Some (Bits n)
unfolding slot_of
int64_slot d z n f e =
    ap (λ b. if_within b (bits_of I64 z)) (within_long z f) ∙ ap (λ k. Some (Bits k)) (ap (cast_unsigned w64) (int_wrap_fits w64 z f) ∙ sym e)

-- ---- an answer that names nothing

module _ (d : ℕ) (of : HostValueType) where
  pub replied_as : (a b : Answer) (r : Result Slot Fault) (w : World) → a ≡ b → ((u : World) → replied_by d of (Asking b) u ≡ done r u)
      → Told (λ is. replied_by d of (Asking a) (with_inputs is w)) (λ is. done r (with_inputs is w))
  replied_as a b r w e h = told_same (λ is. ap (λ x. replied_by d of (Asking x) (with_inputs is w)) e ∙ h (with_inputs is w))

  pub void_fine : is_void of ≡ true → (u : World) → replied_by d of (Asking Void) u ≡ done (Ok (Bits 0)) u
  unfolding replied_by
  void_fine e u = ap (λ b. cond b (Fine (Bits 0) u) (Fails BadAnswer u)) e

  pub void_bad : is_void of ≡ false → (u : World) → replied_by d of (Asking Void) u ≡ done (Err BadAnswer) u
  unfolding replied_by
  void_bad e u = ap (λ b. cond b (Fine (Bits 0) u) (Fails BadAnswer u)) e

  pub said_fault : (n : ℕ) (u : World) → replied_by d of (Asking (SaidFault n)) u ≡ done (Err (HostFault n)) u
  unfolding replied_by
  said_fault n u = refl

  pub said_memory : (u : World) → replied_by d of (Asking SaidMemory) u ≡ done (Err Memory) u
  unfolding replied_by
  said_memory u = refl

  pub said_full : (u : World) → replied_by d of (Asking Full) u ≡ done (Err Tally) u
  unfolding replied_by
  said_full u = refl

  -- a value
  pub gave : (a : Answer) (v : Value) (o : Option Slot) (u : World) → a ≡ Gave v → o ≡ slot_of d of v → replied_by d of (Asking a) u ≡ accepted o u
  unfolding replied_by
  gave a v o u e h = ap (λ x. replied_by d of (Asking x) u) e ∙ ap (λ x. accepted x u) (sym h)
