use Rattle.std.proofs.Common.{◌%◌, ◌∙◌}
use Rattle.ang_kinds.specs.Primitives.{width_of}
use Rattle.ang_vm_numbers.proofs.Parts.{left_bits}
use Rattle.ang_vm_numbers.proofs.shifts.shift_left.Goals as goal

pub returns : goal.returns
returns c =
    record { exact = c.convert.ensures.exact ∙ left_bits c.args.at c.args.x (c.args.y % width_of c.args.at) c.count_in.result c.wrapping_shl.result c.count_in.ensures.exact c.count_in.ensures.small c.wrapping_shl.ensures }
