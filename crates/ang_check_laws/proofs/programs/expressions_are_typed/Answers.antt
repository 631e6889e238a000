use Rattle.ang_check_laws.proofs.TypedExpressions.{expressions_typed}
use Rattle.ang_check_laws.proofs.programs.expressions_are_typed.Goals as goal

pub returns : goal.returns
returns c = record { each = expressions_typed }
