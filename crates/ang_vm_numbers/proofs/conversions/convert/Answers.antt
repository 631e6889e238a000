use Rattle.std.proofs.Common.{◌≡◌, sym, ap, ◌∙◌, ⊎_elim, w8, w16, w32, w64}
use Rattle.std.proofs.lemmas.Int.{to_z-of_z}
use Rattle.ang_kinds.specs.declared.primitive.Primitive.TheVariants.{I64, U64}
use Rattle.ang_meaning.specs.Numbers.{converted}
use Rattle.ang_vm_numbers.proofs.Parts.{wide_bits, flat_bits, byte_bits, short_bits, word_bits}
use Rattle.ang_vm_numbers.proofs.conversions.convert.Goals as goal

pub returns-in-I8 : goal.returns-in-I8
returns-in-I8 c =
    let z = c.cast_signed.result in
    let y = c.from.result in
    let ez = to_z-of_z w8 z (record { sfits = c.cast_signed.type_inv }) in
    let ey = to_z-of_z w64 y (record { sfits = c.from.type_inv }) in
    record { exact = byte_bits c.args.bits c.cast_unsigned.result z _ y _ c.cast_signed.ensures ez c.from.ensures ey c.cast_unsigned.ensures ∙ ap (λ p. converted p c.args.bits) (sym c.in-I8.is) }

pub returns-in-I16 : goal.returns-in-I16
returns-in-I16 c =
    let z = c.cast_signed-in-I16.result in
    let y = c.from-in-I16.result in
    let ez = to_z-of_z w16 z (record { sfits = c.cast_signed-in-I16.type_inv }) in
    let ey = to_z-of_z w64 y (record { sfits = c.from-in-I16.type_inv }) in
    record { exact = short_bits c.args.bits c.cast_unsigned-in-I16.result z _ y _ c.cast_signed-in-I16.ensures ez c.from-in-I16.ensures ey c.cast_unsigned-in-I16.ensures ∙ ap (λ p. converted p c.args.bits) (sym c.in-I16.is) }

pub returns-in-I32 : goal.returns-in-I32
returns-in-I32 c =
    let z = c.cast_signed-in-I32.result in
    let y = c.from-in-I32.result in
    let ez = to_z-of_z w32 z (record { sfits = c.cast_signed-in-I32.type_inv }) in
    let ey = to_z-of_z w64 y (record { sfits = c.from-in-I32.type_inv }) in
    record { exact = word_bits c.args.bits c.cast_unsigned-in-I32.result z _ y _ c.cast_signed-in-I32.ensures ez c.from-in-I32.ensures ey c.cast_unsigned-in-I32.ensures ∙ ap (λ p. converted p c.args.bits) (sym c.in-I32.is) }

pub returns-in-I64 : goal.returns-in-I64
returns-in-I64 c =
    let n = c.args.bits in
    record {
      exact = ⊎_elim
          (λ (e : c.args.to ≡ I64). wide_bits n c.ranges.bits.fits ∙ ap (λ p. converted p n) (sym e))
          (λ (e : c.args.to ≡ U64). flat_bits n c.ranges.bits.fits ∙ ap (λ p. converted p n) (sym e)) c.in-I64.is;
    }
