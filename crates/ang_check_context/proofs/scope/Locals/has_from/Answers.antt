use Rattle.ang_check_context.proofs.NumberedLocals.{any_none, any_some}
use Rattle.ang_check_context.proofs.scope.Locals.has_from.Goals as goal

pub returns-in-None : goal.returns-in-None
returns-in-None c = record { exact = any_none c.args.name.now c.args.self.now c.args.start c.in-None.ensures.exact }

pub returns-in-Some : goal.returns-in-Some
returns-in-Some c = record { exact = any_some c.args.name.now c.args.self.now c.args.start c.in-Some.number c.in-Some.ensures.exact }
