use Rattle.std.proofs.Common.{◌≡◌, ◌-◌, [], map}
use Rattle.ang_tree.specs.View.{view_decl}
use Rattle.ang_parse_read.specs.Read.{repeat}
use Rattle.ang_parse.specs.ReadScript as read
use Rattle.ang_parse.proofs.script.script.Given as goal

abbrev pub invariant-loop : goal.invariant-loop
invariant-loop l = repeat (read.other_declaration l.limit) (l.limit - l.counter) (map view_decl l.found.items) l.rest ≡ repeat (read.other_declaration l.limit) l.limit [] l.tokens
