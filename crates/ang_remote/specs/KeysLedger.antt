-- What the keys of a driver mean.
use Rattle.std.specs.Prelude.{true}
use Rattle.ang_drivers.specs.Objects.{by_key}
use Rattle.ang_remote.specs.declared.keys.Keys.{Keys}
use Rattle.ang_remote.specs.Ledger.{Ledger}

-- the references, the live keys and the tallies
abbrev pub ledger : Keys → Ledger
ledger k = record {
  counts = by_key (λ n. n) k.live.entries;
  live = by_key (λ n. true) k.live.entries;
  tally = record { asked = k.asked; made = k.made; added = k.added; released = k.released };
}
