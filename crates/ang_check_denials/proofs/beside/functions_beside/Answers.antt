use Rattle.std.proofs.Common.{rules}
use Rattle.ang_check_uses.specs.Uses.{candidates_of, functions_of}
use Rattle.ang_check_denials.proofs.beside.functions_beside.Goals as goal

pub returns-clause-others : goal.returns-clause-others
returns-clause-others c =
    c.in_ok-others.ensures.rivals c.args.scope.now.ancestors (candidates_of (functions_of c.args.scope.now c.args.name.now)) c.args.args.now c.in_ok-contest.ensures.contest (search rules)
