use Rattle.ang_remote.specs.Lines.{HasRead}
use Rattle.ang_remote.proofs.lines.read_line.Given as goal

abbrev pub invariant-loop : goal.invariant-loop
invariant-loop g l = HasRead l.most l.initial.text.items l.text.items (g.R.Read.remaining l.initial.reader) (g.R.Read.remaining l.reader) l.kept l.begun
