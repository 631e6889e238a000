use Rattle.tests_vm.specs.Ready.{IsAtRest}
use Rattle.tests_vm.proofs.runs.first_wrong.Given as goal

abbrev pub invariant-loop-at : goal.invariant-loop-at
invariant-loop-at g l = IsAtRest (λ v. (g.dyn-1.0.entry v).1) l.machine
