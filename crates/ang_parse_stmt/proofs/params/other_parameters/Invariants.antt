use Rattle.std.proofs.Common.{◌≡◌, ◌-◌}
use Rattle.ang_parse_read.specs.Read.{repeat}
use Rattle.ang_parse_stmt.specs.ReadParams as read
use Rattle.ang_parse_stmt.proofs.params.other_parameters.Given as goal

abbrev pub invariant-loop : goal.invariant-loop
invariant-loop l = repeat read.other_param (l.limit - l.counter) l.found.items l.rest ≡ repeat read.other_param l.limit l.fn.first.items l.tokens
