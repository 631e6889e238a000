use Rattle.ang_lower.proofs.ExprRows.{applied}
use Rattle.ang_lower.proofs.build_expr.apply.Goals as goal

pub returns : goal.returns
returns c = record { exact = applied c.args.operation c.args.operands }
