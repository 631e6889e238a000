-- Numbers that are looked at in turn.
use Rattle.std.proofs.Common.{◌≡◌, refl, ap, sym, ◌∙◌, arith, ℕ, suc, ◌+◌, ◌-◌, ◌<◌, Bool, false, ◌||◌}
use Rattle.std.specs.List.{list_any, range_with_len}

-- the first one is left behind, where it does not pass
pub goes_on : (f : ℕ → Bool) (a b : ℕ) (r : Bool) → a < b → f a ≡ false → list_any f (range_with_len a (b - a)) ≡ r → list_any f (range_with_len (a + 1) (b - (a + 1))) ≡ r
goes_on f a b r less none all =
    let count : b - a ≡ suc (b - (a + 1)) = omega (arith, less) in
    sym (ap (λ x. x || list_any f (range_with_len (a + 1) (b - (a + 1)))) none) ∙ sym (ap (λ n. list_any f (range_with_len a n)) count) ∙ all
