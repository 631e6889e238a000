use Rattle.ang_heap.specs.Stores.{world_of}
use Rattle.ang_vm_stack.specs.Tables.{setting_of, texts_of}
use Rattle.ang_vm.specs.Machines.{lent}
use Rattle.tests_vm.proofs.Ready.{initialized_counted}
use Rattle.tests_vm.proofs.machine.initialize_alone.Goals as goal

pub returns-clause-counted : goal.returns-clause-counted
returns-clause-counted g c = λ apart.
    let w = world_of (λ v. (g.dyn-1.0.entry v).1) (lent c.args.machine.now c.args.events.now) in
    let x = world_of (λ v. (g.dyn-1.0.entry v).1) (lent c.run_initializer.new.machine c.run_initializer.new.events) in
    initialized_counted (setting_of c.args.table.now 201) (texts_of c.args.table.now) c.args.entry c.args.ticks w x c.run_initializer.result c.requires.begins.counted c.run_initializer.ensures.told apart
