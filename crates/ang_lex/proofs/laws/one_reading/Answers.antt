use Rattle.ang_lex.proofs.Cutting as cutting
use Rattle.ang_lex.proofs.laws.one_reading.Goals as goal

pub returns-clause-tokens : goal.returns-clause-tokens
returns-clause-tokens c = cutting.one_reading

pub returns-clause-fault : goal.returns-clause-fault
returns-clause-fault c = cutting.one_fault
