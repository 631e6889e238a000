use Rattle.std.proofs.Common.{[], ◌∷◌}
use Rattle.ang_meaning.specs.declared.slot.Slot.TheVariants.{Bits}
use Rattle.ang_heap.specs.Stores.{world_of}
use Rattle.ang_vm_stack.specs.Tables.{setting_of, texts_of, result_of}
use Rattle.ang_vm.specs.Machines.{lent}
use Rattle.tests_vm.proofs.Ready.{run_counted, with_number}
use Rattle.tests_vm.proofs.machine.call_with.Goals as goal

pub returns-clause-counted : goal.returns-clause-counted
returns-clause-counted g c = λ apart.
    let w = world_of (λ v. (g.dyn-1.0.entry v).1) (lent c.args.machine.now c.args.events.now) in
    let x = world_of (λ v. (g.dyn-1.0.entry v).1) (lent c.run.new.machine c.run.new.events) in
    run_counted (setting_of c.args.table.now 200) (texts_of c.args.table.now) c.args.entry (result_of c.args.table.now c.args.entry) c.args.budget (Bits c.args.number ∷ []) w x c.run.result (with_number c.args.number w c.requires.begins.counted) c.run.ensures.told apart
