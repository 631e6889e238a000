-- A driver's signed number in its type's bits.
use Rattle.std.proofs.Common.{◌≡◌, ℕ, ◌≤◌, ◌^◌, ◌&&◌, true, ℤ, pos, negsuc, unsigned_abs, Some, sym, ap, ◌∙◌, arith, w64}
use Rattle.std.specs.Int.{cast_unsigned}
use mir.Val.{SFits}
use Rattle.ang_kinds.specs.declared.primitive.Primitive.{Primitive}
use Rattle.ang_kinds.specs.declared.value.Value.TheVariants.{Int}
use Rattle.ang_meaning.specs.declared.slot.Slot.TheVariants.{Bits}
use Rattle.ang_meaning.specs.declared.host.HostValueType.TheVariants.{Plain}
use Rattle.ang_meaning.specs.Numbers.{bits_of, converted}
use Rattle.ang_kinds.specs.Primitives.{is_signed}
use Rattle.ang_meaning.specs.Hosts.{is_within, if_within, slot_of}
use Rattle.ang_vm_numbers.proofs.Congruence.{bits_same, same_written}

abs_small : (z : ℤ) → SFits w64 z → unsigned_abs z ≤ 2 ^ 64
abs_small (pos n) f = let small = f.sfits in omega arith
abs_small (negsuc n) f = let small = f.sfits in omega arith

pub signed_slot_is : (d : ℕ) (p : Primitive) (z : ℤ) (n r : ℕ) → SFits w64 z → n ≡ cast_unsigned w64 z → r ≡ converted p n → (is_signed p && is_within p z) ≡ true
    → Some (Bits r) ≡ slot_of d (Plain p) (Int z)
unfolding slot_of
signed_slot_is d p z n r f e c within =
    ap (λ k. Some (Bits k)) (c ∙ ap (converted p) e ∙ bits_same p (pos (cast_unsigned w64 z)) z (same_written z (abs_small z f)))
    ∙ ap (λ b. if_within b (bits_of p z)) (sym within)
