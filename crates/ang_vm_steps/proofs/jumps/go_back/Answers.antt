use Rattle.std.proofs.Common.{arith}
use Rattle.ang_vm_steps.proofs.Turning.{back_taken, back_missed}
use Rattle.ang_vm_steps.proofs.jumps.go_back.Goals as goal

pub returns-then-here-eq0 : goal.returns-then-here-eq0
returns-then-here-eq0 c =
    record { turned = λ t f stack w is_next. back_missed t f c.args.room c.args.here stack w c.requires.in_room c.args.count c.args.size is_next (omega arith) }

pub returns : goal.returns
returns c =
    record { turned = λ t f stack w is_next. back_taken t f c.args.room c.args.here stack w c.requires.in_room c.args.count c.args.size _ is_next (omega arith) (omega arith) }
