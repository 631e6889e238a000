use Rattle.std.proofs.Common.{◌≤◌}
use Rattle.asremote.specs.Commands.{ReadsLines}
use Rattle.asremote.specs.declared.commands.Next.TheVariants as next
use Rattle.asremote.proofs.commands.read_section.Given as goal

abbrev pub invariant-loop : goal.invariant-loop
invariant-loop g l =
    (l.counter ≤ l.lines) × ReadsLines l.counter l.initial.text.items l.text.items (g.S.Read.remaining l.initial.input) (g.S.Read.remaining l.input) next.Command
