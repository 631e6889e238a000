use Rattle.std.proofs.Common.{ap, ◌∙◌, w64}
use Rattle.std.specs.Int.{cast_unsigned}
use Rattle.std.proofs.lemmas.Int.{to_z-of_z}
use Rattle.ang_vm_ask.proofs.Replying.{int64_slot}
use Rattle.ang_vm_ask.proofs.replies.int64_bits.Goals as goal

pub returns : goal.returns
returns c = record {
  exact = λ d. int64_slot d c.args.number c.cast_unsigned.result c.ranges.number (c.cast_unsigned.ensures ∙ ap (cast_unsigned w64) (to_z-of_z w64 c.args.number c.ranges.number));
}
