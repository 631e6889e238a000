use Rattle.std.proofs.Common.{◌≡◌, ◌-◌, [], map}
use Rattle.ang_parse_read.specs.Read.{repeat}
use Rattle.ang_tree.specs.View.{view_method}
use Rattle.ang_parse.specs.ReadClass as read
use Rattle.ang_parse.proofs.interfaces.methods.Given as goal

abbrev pub invariant-loop : goal.invariant-loop
invariant-loop l = repeat (read.other_method l.limit) (l.limit - l.counter) (map view_method l.found.items) l.rest ≡ repeat (read.other_method l.limit) l.limit [] l.tokens
