use Rattle.ang_tree.specs.Declarations.{Params}
use Rattle.ang_tree.specs.View.{view_params}
use Rattle.ang_parse_read.proofs.Whole.{given_all}
use Rattle.ang_parse_stmt.specs.Params.{SpellsParams}
use Rattle.ang_parse_stmt.specs.ReadParams as read
use Rattle.ang_parse_stmt.proofs.SoundParams.{IsParams}
use Rattle.ang_parse_stmt.proofs.ExactlyParams.{params_exact}
use Rattle.ang_parse_stmt.proofs.whole_parameters.parse_parameters.Goals as goal

pub returns-clause-found : goal.returns-clause-found
returns-clause-found c = (given_all Params read.a_params (λ ts. Unit {0}) IsParams SpellsParams params_exact _ view_params c.all.result c.args.tokens.now tt c.all.ensures.reads).0

pub returns-clause-only : goal.returns-clause-only
returns-clause-only c = (given_all Params read.a_params (λ ts. Unit {0}) IsParams SpellsParams params_exact _ view_params c.all.result c.args.tokens.now tt c.all.ensures.reads).1

pub returns-clause-fault : goal.returns-clause-fault
returns-clause-fault c = (given_all Params read.a_params (λ ts. Unit {0}) IsParams SpellsParams params_exact _ view_params c.all.result c.args.tokens.now tt c.all.ensures.reads).2
