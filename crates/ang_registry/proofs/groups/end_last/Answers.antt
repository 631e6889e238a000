use Rattle.ang_registry.proofs.Grouping.{last_ended}
use Rattle.ang_registry.proofs.groups.end_last.Goals as goal

pub returns-in-Some : goal.returns-in-Some
returns-in-Some c =
    let item = c.in-Some.ensures.item in record { ended = last_ended c.args.after c.args.groups.now c.in-Some.group.now item.3.0 item.1 }
