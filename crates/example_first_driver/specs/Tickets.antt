-- What the tickets mean: that host calls are counted, and no more.
use Rattle.std.specs.Prelude.{ℕ, []}
use Rattle.std.specs.FinMap as map
use Rattle.ang_host.specs.State.{State}
use Rattle.ang_host.specs.Laws.{Fits}

-- no objects, and `asked` host calls
abbrev pub tickets : ℕ → State
tickets asked = record {
  counts = map.empty;
  core = [];
  tally = record { asked = asked; made = 0; added = 0; released = 0 };
}

-- any answer
abbrev pub TicketsFits : Fits
TicketsFits c a r d = Unit {0}
