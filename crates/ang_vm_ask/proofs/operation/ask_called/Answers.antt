use Rattle.std.proofs.Common.{Ok, ap, ◌∙◌}
use Rattle.ang_vm_ask.proofs.Performing.{not_called, made_alone, no_receiver}
use Rattle.ang_vm_ask.proofs.operation.ask_called.Goals as goal

pub returns-in-Making-clause-called : goal.returns-in-Making-clause-called
returns-in-Making-clause-called g c = λ ops object args nesting.
    let host = c.args.host.now in
    let alone = made_alone c.in-Making.number host.role host.member (c.requires.role ∙ c.in-Making.is) c.requires.called in
    c.make_entry.ensures.made ops (object ∙ ap Ok (no_receiver host.member host.driver ops c.args.object alone object)) args nesting

pub unreachable-requires : goal.unreachable-requires
unreachable-requires g c = not_called c.in-Property.field-0 c.args.host.now.role c.args.host.now.member (c.requires.role ∙ c.in-Property.is) c.requires.called
