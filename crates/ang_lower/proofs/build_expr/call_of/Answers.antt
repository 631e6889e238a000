use Rattle.ang_lower.proofs.ExprRows.{called}
use Rattle.ang_lower.proofs.build_expr.call_of.Goals as goal

pub returns : goal.returns
returns c = record { exact = called c.args.callee c.args.arguments c.args.targets }
