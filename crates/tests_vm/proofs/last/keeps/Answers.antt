use Rattle.tests_vm.proofs.Ready.{value_there}
use Rattle.tests_vm.proofs.last.keeps.Goals as goal

pub answer_alone-answer-requires : goal.answer_alone-answer-requires
answer_alone-answer-requires c = record { rest = value_there _ c.in_ok-machine.field-0 c.in-Some.machine c.in-Some.is c.in_ok-machine.ensures.rest }
