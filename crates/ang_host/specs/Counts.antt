-- Counts of keys against the list of the places that hold them
-- (the AngelScript manual, "Memory management"; docs/CLAIMS.md).
use Rattle.std.specs.Prelude.{ℕ, ◌+◌, ◌≡◌, ◌<◌, Bool, ◌&&◌, nat_eq, List, All, count_by, length}
use Rattle.ang_host.specs.State.{State, count_at}
use Rattle.ang_host.specs.Laws.{IsSound}
use Rattle.ang_host.specs.Members.{state_at}

-- whether a place holds the key k of the driver i, where d and key tell its driver and key
abbrev pub holds : {P : Type 0} → (P → ℕ) → (P → ℕ) → ℕ → ℕ → P → Bool
holds d key i k p = nat_eq (d p) i && nat_eq (key p) k

-- each driver is sound, its counts are the numbers of places that hold its keys, and no place holds
-- a key of a driver that is not there
pub record Agrees {P : Type 0} (d key : P → ℕ) (places : List P) (ss : List State) : Type 0 where
  pub within : All (λ p. d p < length ss) places
  pub counts : (i k : ℕ) → i < length ss
      → count_at (state_at ss i).counts k ≡ count_by (holds d key i k) places
  pub sound : (i : ℕ) → i < length ss → IsSound (state_at ss i)

-- nothing of the driver is alive
pub record IsBalanced (s : State) : Type 0 where
  pub none : (k : ℕ) → count_at s.counts k ≡ 0
  pub sums : s.tally.made + s.tally.added ≡ s.tally.released
