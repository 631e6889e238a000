use Rattle.ang_engine_call.proofs.Found as named
use Rattle.ang_engine_call.proofs.laws.first_of_its_heading.Goals as goal

pub returns-clause-found : goal.returns-clause-found
returns-clause-found c = named.found

pub returns-clause-first : goal.returns-clause-first
returns-clause-first c = named.first

pub returns-clause-only : goal.returns-clause-only
returns-clause-only c = named.only
