use Rattle.ang_gen.proofs.Marked.{of_statements}
use Rattle.ang_gen.proofs.laws.marks_are_of_statements.Goals as goal

pub returns : goal.returns
returns c = record { among = of_statements }
