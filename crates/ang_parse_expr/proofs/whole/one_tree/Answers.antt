use Rattle.ang_parse_expr.proofs.Exactly.{one_tree}
use Rattle.ang_parse_expr.proofs.whole.one_tree.Goals as goal

pub returns : goal.returns
returns c = record { unique = one_tree }
