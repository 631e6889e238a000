use Rattle.std.proofs.Common.{◌≡◌, ◌-◌, map}
use Rattle.ang_tree.specs.View.{view_var}
use Rattle.ang_parse_read.specs.Read.{repeat}
use Rattle.ang_parse_stmt.specs.ReadVars as read
use Rattle.ang_parse_stmt.proofs.variables.other_variables.Given as goal

abbrev pub invariant-loop : goal.invariant-loop
invariant-loop l = repeat (read.other_variable l.limit) (l.limit - l.counter) (map view_var l.found.items) l.rest ≡ repeat (read.other_variable l.limit) l.limit (map view_var l.fn.first.items) l.tokens
