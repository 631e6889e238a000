use Rattle.tests_vm.proofs.Ready.{value_there}
use Rattle.tests_vm.proofs.runs.wrong_in.Goals as goal

pub first_wrong-wrong-requires : goal.first_wrong-wrong-requires
first_wrong-wrong-requires c = record { rest = value_there _ c.in_ok-machine.field-0 c.in-Some.machine c.in-Some.is c.in_ok-machine.ensures.rest }
