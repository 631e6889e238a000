use Rattle.ang_parse.proofs.Answered as answered
use Rattle.ang_parse.proofs.laws.one_answer.Goals as goal

pub returns-clause-script : goal.returns-clause-script
returns-clause-script c = λ text tokens ds. (answered.script_found text tokens ds, answered.script_only text tokens ds)

pub returns-clause-deep : goal.returns-clause-deep
returns-clause-deep c = answered.deep_answered

pub returns-clause-deep_only : goal.returns-clause-deep_only
returns-clause-deep_only c = answered.deep_only

pub returns-clause-syntax : goal.returns-clause-syntax
returns-clause-syntax c = answered.syntax_answered

pub returns-clause-memory : goal.returns-clause-memory
returns-clause-memory c = answered.never_want
