use Rattle.std.proofs.Common.{sym, ap, ◌∙◌, ◌&&◌, w64}
use Rattle.std.specs.Int.{cast_unsigned}
use Rattle.std.proofs.lemmas.Int.{to_z-of_z}
use Rattle.ang_kinds.specs.Primitives.{is_signed}
use Rattle.ang_meaning.specs.Hosts.{is_within}
use Rattle.ang_vm_numbers.proofs.Signed.{signed_slot_is}
use Rattle.ang_vm_numbers.proofs.values.signed_slot.Goals as goal

pub returns-then-fits_signed : goal.returns-then-fits_signed
returns-then-fits_signed c =
    let z = c.args.number in
    record {
      exact = signed_slot_is c.args.driver c.args.of z c.cast_unsigned.result c.convert.result c.ranges.number
          (c.cast_unsigned.ensures ∙ ap (cast_unsigned w64) (to_z-of_z w64 z c.ranges.number)) c.convert.ensures.exact
          (ap (λ x. is_signed c.args.of && is_within c.args.of x) (sym (to_z-of_z w64 z c.ranges.number)) ∙ sym c.fits_signed.ensures.exact ∙ c.if-fits_signed.true);
    }
