use Rattle.std.proofs.Common.{◌≡◌, ◌+◌, ◌-◌, ◌*◌}
use Rattle.ang_tree.specs.View.{view_expr, view_items}
use Rattle.ang_parse_read.specs.Read.{repeat}
use Rattle.ang_parse_expr.specs.ReadExpr as read
use Rattle.ang_parse_expr.proofs.expr.+expression.Given as goal

abbrev pub decreases-expression : goal.decreases-expression
decreases-expression l = 10 * l.depth

abbrev pub decreases-other_expression : goal.decreases-other_expression
decreases-other_expression l = 10 * l.depth + 2

abbrev pub decreases-other_expressions : goal.decreases-other_expressions
decreases-other_expressions l = 10 * l.depth + 3

abbrev pub decreases-expressions : goal.decreases-expressions
decreases-expressions l = 10 * l.depth + 4

abbrev pub decreases-arguments : goal.decreases-arguments
decreases-arguments l = 10 * l.depth + 5

abbrev pub decreases-scoped : goal.decreases-scoped
decreases-scoped l = 10 * l.depth + 6

abbrev pub decreases-named : goal.decreases-named
decreases-named l = 10 * l.depth + 7

abbrev pub decreases-inside : goal.decreases-inside
decreases-inside l = 10 * l.depth + 1

abbrev pub decreases-converted : goal.decreases-converted
decreases-converted l = 10 * l.depth + 2

abbrev pub decreases-casted : goal.decreases-casted
decreases-casted l = 10 * l.depth + 2

abbrev pub decreases-grouped : goal.decreases-grouped
decreases-grouped l = 10 * l.depth + 2

abbrev pub decreases-primary : goal.decreases-primary
decreases-primary l = 10 * l.depth + 8

abbrev pub decreases-membered : goal.decreases-membered
decreases-membered l = 10 * l.depth + 6

abbrev pub decreases-suffix : goal.decreases-suffix
decreases-suffix l = 10 * l.depth + 7

abbrev pub decreases-suffixes : goal.decreases-suffixes
decreases-suffixes l = 10 * l.depth + 8

abbrev pub decreases-unary : goal.decreases-unary
decreases-unary l = 10 * l.depth + 9

abbrev pub decreases-another : goal.decreases-another
decreases-another l = 10 * l.depth + 1

abbrev pub decreases-operated : goal.decreases-operated
decreases-operated l = 10 * l.depth + 1

abbrev pub decreases-conditioned : goal.decreases-conditioned
decreases-conditioned l = 10 * l.depth + 2

abbrev pub decreases-branches : goal.decreases-branches
decreases-branches l = 10 * l.depth + 1

abbrev pub decreases-assigned : goal.decreases-assigned
decreases-assigned l = 10 * l.depth + 1

abbrev pub decreases-operation : goal.decreases-operation
decreases-operation l = 10 * l.depth + 2

abbrev pub decreases-operations : goal.decreases-operations
decreases-operations l = 10 * l.depth + 3

abbrev pub decreases-tail : goal.decreases-tail
decreases-tail l = 10 * l.depth + 3

abbrev pub invariant-operations-loop : goal.invariant-operations-loop
invariant-operations-loop l = repeat (read.operation (read.expr l.depth) l.depth l.least) (l.depth - l.counter) (view_expr l.left) l.rest ≡ repeat (read.operation (read.expr l.depth) l.depth l.least) l.depth (view_expr l.fn.first) l.tokens

abbrev pub invariant-suffixes-loop : goal.invariant-suffixes-loop
invariant-suffixes-loop l = repeat (read.suffix (read.expr l.depth) l.depth) (l.depth - l.counter) (view_expr l.found) l.rest ≡ repeat (read.suffix (read.expr l.depth) l.depth) l.depth (view_expr l.fn.first) l.tokens

abbrev pub invariant-other_expressions-loop : goal.invariant-other_expressions-loop
invariant-other_expressions-loop l = repeat (read.other_expression (read.expr l.depth) l.depth) (l.depth - l.counter) (view_items l.found.items) l.rest ≡ repeat (read.other_expression (read.expr l.depth) l.depth) l.depth (view_items l.fn.first.items) l.tokens
