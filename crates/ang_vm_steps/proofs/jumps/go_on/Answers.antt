use Rattle.ang_vm_steps.proofs.Turning.{go_on_passes, go_on_lost}
use Rattle.ang_vm_steps.proofs.jumps.go_on.Goals as goal

pub returns-in-Some : goal.returns-in-Some
returns-in-Some c =
    record { turned = λ t f stack w is_next. go_on_passes t f c.args.room c.args.here stack w c.requires.in_room c.args.count c.args.size c.in-Some.at is_next c.in-Some.ensures.some.0 }

pub returns-in-None : goal.returns-in-None
returns-in-None c =
    record { turned = λ t f stack w is_next. go_on_lost t f c.args.room c.args.here stack w c.requires.in_room c.args.count c.args.size is_next c.in-None.ensures.none }
