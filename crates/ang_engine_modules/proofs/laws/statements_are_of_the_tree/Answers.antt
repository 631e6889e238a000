use Rattle.ang_engine_modules.proofs.Statements.{function_lists, none_of_initializers}
use Rattle.ang_engine_modules.proofs.laws.statements_are_of_the_tree.Goals as goal

pub returns-clause-functions : goal.returns-clause-functions
returns-clause-functions c = function_lists

pub returns-clause-initializers : goal.returns-clause-initializers
returns-clause-initializers c = none_of_initializers
