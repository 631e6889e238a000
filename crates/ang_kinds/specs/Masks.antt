use Rattle.std.specs.Prelude.{ℕ, ◌≡◌, ◌<◌, ◌==◌, Bool, ◌&&◌}
use Rattle.std.specs.Int.{bit_at}
use Rattle.std.specs.List.{list_any, range_with_len}

-- Two masks meet where some bit position from 0 to 31 is 1 in both
-- (the AngelScript manual, "Access masks and exposing different interfaces").
abbrev pub Meets : ℕ → ℕ → Type 0
Meets e m = (i : ℕ) × (i < 32) × (bit_at e i ≡ 1) × (bit_at m i ≡ 1)

-- The same as a test, for definitions that choose by it. It stays folded: `meets_says` tells what it says.
unfoldable pub meets : ℕ → ℕ → Bool
meets e m = list_any (λ i. (bit_at e i == 1) && (bit_at m i == 1)) (range_with_len 0 32)
