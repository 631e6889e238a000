use Rattle.ang_names_known.proofs.crowded.crowded_methods.Goals as goal

pub put_names-requires-clause-right : goal.put_names-requires-clause-right
put_names-requires-clause-right c = c.no_lists-crowded.ensures.right c.args.families.now
