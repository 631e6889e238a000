use Rattle.std.proofs.Common.{◌≡◌, ◌-◌, []}
use Rattle.ang_parse_read.specs.Read.{repeat}
use Rattle.ang_parse.specs.ReadClass as read
use Rattle.ang_parse.proofs.members.attributes.Given as goal

abbrev pub invariant-loop : goal.invariant-loop
invariant-loop l = repeat read.attribute (l.limit - l.counter) l.found.items l.rest ≡ repeat read.attribute l.limit [] l.tokens
