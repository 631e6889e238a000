-- What objects mean.
use Rattle.ang_drivers.specs.declared.objects.Objects.{Objects}
use Rattle.ang_drivers.specs.Objects.{Ledger, by_key}
use Rattle.ang_drivers.specs.PagesHeld.{entries_of}

-- the references, the values and the tallies; the next key is the number of objects made so far
abbrev pub ledger : {T : Type 0} → Objects T → Ledger T
ledger o = record {
  counts = by_key (λ c. c.count) (entries_of o.live);
  table = record { next = o.live.next; values = by_key (λ c. c.value) (entries_of o.live) };
  tally = record { asked = o.asked; made = o.live.next; added = o.added; released = o.released };
}
