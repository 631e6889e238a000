-- Drivers whose objects hold at most so many elements each (docs/RATTLE_HOST.md).
use Rattle.std.specs.Prelude.{ℕ, ◌≡◌, List, ◌∷◌, Some}
use Rattle.std.specs.FinMap as map
use Rattle.ang_host.specs.State.{State}
use Rattle.ang_host.specs.Laws.{Fits}
use Rattle.ang_drivers.specs.Objects.{Ledger, IsRevalued}

-- the bound comes first in the core, and then what the objects are
abbrev pub bounded_over : ℕ → State → State
bounded_over bound s = record { counts = s.counts; core = bound ∷ s.core; tally = s.tally }

-- the bound stays, and the rest moves as is said for that bound
abbrev pub BoundedFits : (ℕ → Fits) → Fits
BoundedFits fits c a r d = (bound : ℕ) × (x : List ℕ) × (y : List ℕ) × (c ≡ bound ∷ x) × (d ≡ bound ∷ y) × fits bound x a r y

-- the value of the object of the key k moves by R, and all else stays
abbrev pub ChangesOne : {T : Type 0} → Ledger T → ℕ → (T → T → Type 0) → Ledger T → Type 0
ChangesOne {T} s k R t = (v : T) × (w : T) × (map.get s.table.values k ≡ Some v) × R v w × IsRevalued s k w t
