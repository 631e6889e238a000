-- Live keys with their references, and the tallies of a driver that does not choose its keys.
use Rattle.std.specs.Prelude.{ℕ, ◌+◌, ◌≡◌, Bool, true, false, Some, None}
use Rattle.std.specs.Ordering.{nat_cmp}
use Rattle.std.specs.FinMap as map
use Rattle.ang_host.specs.State.{Tally, limit}
use Rattle.ang_host.specs.Laws.{one_asked}

-- which keys are live
abbrev pub Live : Type 0
Live = map.FinMap nat_cmp Bool

-- the references to each live key, the live keys themselves, and the tallies
pub record Ledger : Type 0 where
  pub counts : map.FinMap nat_cmp ℕ
  pub live : Live
  pub tally : Tally

-- no key was made yet
abbrev pub none_held : Ledger
none_held = record {
  counts = map.empty;
  live = map.empty;
  tally = record { asked = 0; made = 0; added = 0; released = 0 };
}

-- a key with a count
abbrev pub IsHeld : Ledger → ℕ → Type 0
IsHeld s k = (n : ℕ) × (map.get s.counts k ≡ Some n)

-- a key becomes live
abbrev pub with_key : Live → ℕ → Live
with_key live k = map.insert live k true

-- a host call is counted; false where the tally of host calls is full
abbrev pub Asks : Ledger → Bool → Ledger → Type 0
Asks s true t = t ≡ record s { tally = one_asked s.tally }
Asks s false t = (t ≡ s) × (s.tally.asked ≡ limit)

-- the key k is made, with one reference
pub record Inserts (s : Ledger) (k : ℕ) (t : Ledger) : Type 0 where
  pub counts : t.counts ≡ map.insert s.counts k 1
  pub live : t.live ≡ with_key s.live k
  pub tally : t.tally ≡ record s.tally { made = s.tally.made + 1 }

-- a reference to the key k is added; false where the tally of these is full
abbrev pub AddsOne : Ledger → ℕ → Bool → Ledger → Type 0
AddsOne s k true t =
    (n : ℕ) × (map.get s.counts k ≡ Some n) × (t.counts ≡ map.insert s.counts k (n + 1)) × (t.live ≡ s.live)
    × (t.tally ≡ record s.tally { added = s.tally.added + 1 })
AddsOne s k false t = (t ≡ s) × (s.tally.added ≡ limit)

-- a reference to the key k is released; true where it was the last, and then the key is no longer live
abbrev pub ReleasesOne : Ledger → ℕ → Bool → Ledger → Type 0
ReleasesOne s k true t =
    (map.get s.counts k ≡ Some 1) × (t.counts ≡ map.remove s.counts k) × (t.live ≡ map.remove s.live k)
    × (t.tally ≡ record s.tally { released = s.tally.released + 1 })
ReleasesOne s k false t =
    (n : ℕ) × (map.get s.counts k ≡ Some (n + 2)) × (t.counts ≡ map.insert s.counts k (n + 1)) × (t.live ≡ s.live)
    × (t.tally ≡ record s.tally { released = s.tally.released + 1 })
