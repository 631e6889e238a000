use Rattle.std.specs.Prelude.{pos}
use Rattle.std.proofs.Common.{rules, ap, ◌∙◌, ◌≡◌}
use Rattle.std.specs.Int.{w32, w64, cast_signed, int_rem_euclid, int_wrap}
use Rattle.std.specs.Int.RustNames.{FitsSigned, unsigned_abs}
use Rattle.std.proofs.lemmas.Int.{to_z-of_z}
use Rattle.ang_drivers.proofs.cell.low_32.Goals as goal

pub returns : goal.returns
unfolding int_wrap
returns c = record {
  exact =
      let fits : FitsSigned w32 c.cast_signed.result = search rules in
      let rest : FitsSigned w64 c.rem_euclid-rest.result = search rules in
      let bits : c.unsigned_abs-bits.result ≡ unsigned_abs c.rem_euclid-rest.result = c.unsigned_abs-bits.ensures.value ∙ ap unsigned_abs (to_z-of_z w64 c.rem_euclid-rest.result rest) in
      let number : FitsSigned w64 c.args.number = search rules in
      to_z-of_z w32 c.cast_signed.result fits ∙ c.cast_signed.ensures ∙ ap (cast_signed w32) (bits ∙ ap unsigned_abs c.rem_euclid-rest.ensures.value)
      ∙ ap (λ z. cast_signed w32 (unsigned_abs (int_rem_euclid z (pos 4294967296)))) (to_z-of_z w64 c.args.number number);
}
