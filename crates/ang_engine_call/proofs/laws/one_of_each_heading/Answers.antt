use Rattle.ang_engine_call.proofs.OneHeading.{one_heading, named_by_it}
use Rattle.ang_engine_call.proofs.laws.one_of_each_heading.Goals as goal

pub returns-clause-apart : goal.returns-clause-apart
returns-clause-apart c = λ V sources n k f g small e. one_heading V small sources e n k f g

pub returns-clause-named : goal.returns-clause-named
returns-clause-named c = λ V sources names decl n small. named_by_it V small sources names decl n
