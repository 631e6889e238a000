use Rattle.ang_parse_expr.proofs.Views.{view_items_made}
use Rattle.ang_parse_expr.proofs.build.with_argument.Goals as goal

pub returns : goal.returns
returns c = record { exact = rw c.in_ok-push.ensures.items (view_items_made _ _ _) }
