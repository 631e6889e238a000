use Rattle.ang_view.proofs.by_name.push_names.Goals as goal

pub returns-in-Err-clause-same : goal.returns-in-Err-clause-same
returns-in-Err-clause-same c = c.take_entry.ensures.taken c.args.index.now c.args.number.0 c.in_ok-push_entry.ensures.pushed
