use Rattle.std.proofs.Common.{◌%◌, ◌∙◌, sym, w64}
use Rattle.std.proofs.lemmas.Int.{to_z-of_z}
use Rattle.ang_kinds.specs.Primitives.{width_of}
use Rattle.ang_vm_numbers.proofs.Parts.{right_bits}
use Rattle.ang_vm_numbers.proofs.shifts.shift_signed.Goals as goal

pub returns-then-is_signed : goal.returns-then-is_signed
returns-then-is_signed c =
    let z = c.cast_signed.result in
    let s = c.wrapping_shr.result in
    let ez = to_z-of_z w64 z (record { sfits = c.cast_signed.type_inv }) in
    let es = to_z-of_z w64 s (record { sfits = c.wrapping_shr.type_inv }) in
    record {
      exact = c.convert.ensures.exact
          ∙ right_bits c.args.at c.args.x (c.args.y % width_of c.args.at) c.count_in-count.result c.cast_unsigned.result z _ s _ ez es c.ranges.x.fits (sym c.is_signed.ensures.exact ∙ c.if-is_signed.true)
          c.count_in-count.ensures.exact c.count_in-count.ensures.small c.cast_signed.ensures c.wrapping_shr.ensures c.cast_unsigned.ensures;
    }
