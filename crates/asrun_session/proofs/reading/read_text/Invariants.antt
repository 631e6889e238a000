use Rattle.std.proofs.Common.{◌≤◌, length}
use Rattle.std.specs.Io.KnownBytes.{Consumes}
use Rattle.asrun_session.proofs.reading.read_text.Given as goal

abbrev pub invariant-loop : goal.invariant-loop
invariant-loop g l = (length l.text.items ≤ l.limit) × Consumes (g.R.Read.remaining l.initial.reader) (g.R.Read.remaining l.reader) l.text.items
