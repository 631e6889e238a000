use Rattle.std.proofs.Common.{sym, ◌∙◌}
use Rattle.tests_vm.proofs.Ready.{drivers_there}
use Rattle.tests_vm.proofs.machine.drivers_are_there.Goals as goal

pub returns : goal.returns
returns c = record { there = λ h. drivers_there c.args.table.now c.args.count (sym c.have_drivers.ensures.exact ∙ h) }
