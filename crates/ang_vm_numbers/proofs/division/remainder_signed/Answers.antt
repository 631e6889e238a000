use Rattle.std.proofs.Common.{int_rem, ◌∙◌, w64}
use Rattle.std.proofs.lemmas.Int.{to_z-of_z}
use Rattle.ang_vm_numbers.proofs.Parts.{bars, passes, rest_bits}
use Rattle.ang_vm_numbers.proofs.division.remainder_signed.Goals as goal

pub returns-in-Some : goal.returns-in-Some
returns-in-Some c =
    let x = c.args.x in
    let y = c.args.y in
    let ex = to_z-of_z w64 x c.ranges.x in
    let ey = to_z-of_z w64 y c.ranges.y in
    record { exact = bars c.args.at x y _ _ (int_rem x y) c.barred.result ex ey (c.barred.ensures.exact (int_rem x y)) c.in-Some.fault c.in-Some.is }

pub returns-in-None : goal.returns-in-None
returns-in-None c =
    let x = c.args.x in
    let y = c.args.y in
    let q = c.wrapping_rem.result in
    let ex = to_z-of_z w64 x c.ranges.x in
    let ey = to_z-of_z w64 y c.ranges.y in
    let eq = to_z-of_z w64 q (record { sfits = c.wrapping_rem.type_inv }) in
    record {
      exact = passes c.args.at x y _ _ (int_rem x y) c.barred.result ex ey (c.barred.ensures.exact (int_rem x y)) c.convert.result c.in-None.is
          (c.convert.ensures.exact ∙ rest_bits c.args.at x y _ _ q _ c.cast_unsigned.result c.ranges.x ex ey eq c.cast_unsigned.ensures c.wrapping_rem.ensures);
    }
