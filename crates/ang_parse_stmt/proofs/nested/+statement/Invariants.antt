use Rattle.std.proofs.Common.{◌≡◌, ◌+◌, ◌-◌, ◌*◌}
use Rattle.ang_parse_read.specs.Read.{repeat}
use Rattle.ang_tree.specs.View.{view_stmts}
use Rattle.ang_tree.specs.Stmt.{end}
use Rattle.ang_parse_stmt.specs.ReadStmt as read
use Rattle.ang_parse_stmt.proofs.nested.+statement.Given as goal

abbrev pub decreases-statement : goal.decreases-statement
decreases-statement l = 8 * l.depth

abbrev pub decreases-other_statement : goal.decreases-other_statement
decreases-other_statement l = 8 * l.depth + 1

abbrev pub decreases-statements : goal.decreases-statements
decreases-statements l = 8 * l.depth + 2

abbrev pub decreases-block : goal.decreases-block
decreases-block l = 8 * l.depth + 3

abbrev pub decreases-braced : goal.decreases-braced
decreases-braced l = 8 * l.depth + 4

abbrev pub decreases-chosen : goal.decreases-chosen
decreases-chosen l = 8 * l.depth + 5

abbrev pub decreases-inner_statement : goal.decreases-inner_statement
decreases-inner_statement l = 8 * l.depth + 1

abbrev pub decreases-guarded : goal.decreases-guarded
decreases-guarded l = 8 * l.depth + 2

abbrev pub decreases-otherwise : goal.decreases-otherwise
decreases-otherwise l = 8 * l.depth + 2

abbrev pub decreases-conditional : goal.decreases-conditional
decreases-conditional l = 8 * l.depth + 3

abbrev pub decreases-while_loop : goal.decreases-while_loop
decreases-while_loop l = 8 * l.depth + 3

abbrev pub decreases-do_loop : goal.decreases-do_loop
decreases-do_loop l = 8 * l.depth + 2

abbrev pub decreases-for_loop : goal.decreases-for_loop
decreases-for_loop l = 8 * l.depth + 2

abbrev pub invariant-statements-loop : goal.invariant-statements-loop
invariant-statements-loop l = repeat (read.other_statement (read.stmt l.depth l.limit) l.limit) (l.limit - l.counter) (view_stmts l.found.items) l.rest ≡ repeat (read.other_statement (read.stmt l.depth l.limit) l.limit) l.limit end l.tokens
