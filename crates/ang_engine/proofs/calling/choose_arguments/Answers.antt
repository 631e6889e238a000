use Rattle.std.proofs.Common.{sym, ◌∙◌, rules}
use Rattle.ang_engine.proofs.Calls.{chosen-found, arguments-plain}
use Rattle.ang_engine.proofs.calling.choose_arguments.Goals as goal

pub returns-in-Ok-Some-clause-chosen : goal.returns-in-Ok-Some-clause-chosen
returns-in-Ok-Some-clause-chosen c = (
  c.args.function.now,
  chosen-found c.args.number c.args.function.now c.args.args.now c.in-Ok-Some.args.items (sym c.is_callable.ensures.exact ∙ search rules) (search rules),
)

pub returns-in-Ok-Some-clause-plain : goal.returns-in-Ok-Some-clause-plain
returns-in-Ok-Some-clause-plain c = arguments-plain c.args.function.now c.args.args.now c.in-Ok-Some.args.items (search rules)
