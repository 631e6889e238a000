-- Where a key stands among pairs whose keys rise, or would come. What is said of the pairs before the place, and of the one
-- there, says the rest, since the keys rise.
use Rattle.std.specs.Prelude.{ℕ, zero, suc, ℤ, ◌≡◌, [], ◌∷◌}
use Rattle.std.specs.Ordering.{int_cmp}
use Rattle.std.specs.declared.cmp.Ordering.TheVariants.{Less, Equal, Greater}
use Rattle.ang_drivers.specs.IntMap.{Pairs}

-- the key stands at the place i, behind smaller ones
abbrev pub IsAt : Pairs → ℤ → ℕ → Type 0
IsAt [] k i = ⊥
IsAt (e ∷ es) k zero = int_cmp k e.0 ≡ Equal
IsAt (e ∷ es) k (suc i) = (int_cmp k e.0 ≡ Greater) × IsAt es k i

-- the key would come at the place i, between smaller ones and greater ones
abbrev pub IsGap : Pairs → ℤ → ℕ → Type 0
IsGap [] k zero = Unit {0}
IsGap [] k (suc i) = ⊥
IsGap (e ∷ es) k zero = int_cmp k e.0 ≡ Less
IsGap (e ∷ es) k (suc i) = (int_cmp k e.0 ≡ Greater) × IsGap es k i
