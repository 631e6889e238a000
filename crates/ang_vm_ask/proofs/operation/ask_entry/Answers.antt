use Rattle.std.proofs.Common.{sym, subst, ◌∙◌}
use Rattle.ang_heap.specs.Stores.{world_of}
use Rattle.ang_meaning.specs.World.{with_inputs}
use Rattle.ang_meaning.specs.Told.{Told}
use Rattle.ang_vm_stack.specs.Arms.{done}
use Rattle.ang_vm_stack.specs.Tables.{setting_of}
use Rattle.ang_vm_ask.specs.Asks.{asks}
use Rattle.ang_vm_ask.proofs.Live.{operands_can, operands_length}
use Rattle.ang_vm_ask.proofs.operation.ask_entry.Goals as goal

pub perform-requires-clause-in_list : goal.perform-requires-clause-in_list
perform-requires-clause-in_list g c = c.requires.drivers.each c.args.home c.requires.entry.entity.0 c.args.host.now c.requires.entry.seen

pub perform-requires-clause-enough : goal.perform-requires-clause-enough
perform-requires-clause-enough g c =
    operands_can c.args.count c.args.top c.args.stack.now c.operands_at-operands.result.now (world_of (λ v. (g.dyn-1.0.entry v).1) c.args.store.now) c.operands_at-operands.ensures.exact c.requires.enough

pub returns-clause-told : goal.returns-clause-told
returns-clause-told g c = λ nesting fit count.
    let z = setting_of c.args.table.now nesting in
    let ops = c.operands_at-operands.result.now in
    let same = operands_length c.args.count c.args.top c.args.stack.now ops c.operands_at-operands.ensures.exact c.requires.in_use c.requires.within ∙ count in
    let told = (c.perform.ensures.performed c.requires.entry.entity c.requires.entry.asked).told z c.args.home
    (record { name = sym c.name_at-caller.ensures.exact; host = c.requires.entry.seen }) fit same in
    subst (λ l. Told (λ ins. asks z c.args.home c.args.operation.now l (with_inputs ins (world_of (λ v. (g.dyn-1.0.entry v).1) c.args.store.now))) (λ ins. done c.perform.result (with_inputs ins (world_of (λ v. (g.dyn-1.0.entry v).1) c.perform.new.store))))
    c.operands_at-operands.ensures.exact told
