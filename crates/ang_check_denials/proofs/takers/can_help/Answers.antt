use Rattle.std.proofs.Common.{rules}
use Rattle.ang_check_denials.proofs.takers.can_help.Goals as goal

pub can_mean_one-requires-clause-nothing : goal.can_mean_one-requires-clause-nothing
can_mean_one-requires-clause-nothing c = c.in_ok-nothing.ensures.none _ _ (search rules)
