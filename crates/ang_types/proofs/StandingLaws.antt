-- How two candidates stand to each other, place by place.
use Rattle.std.specs.Prelude.{ℕ, Bool, true, false, ◌≡◌, ◌<◌, ◌+◌, ◌||◌, ◌↔◌, Option, Some, None, IsSome, is_none}
use Rattle.std.proofs.Common.{arith, refl, sym, subst, inl, inr, ◌∙◌}
use Rattle.std.proofs.Math.Bool.{false-or}
use Rattle.ang_types.proofs.RivalLaws.{split_last}

-- some number below n + 1, from what is known of those below n and of n
pub some_more : (b x : Bool) (P : ℕ → Type 0) (n : ℕ) → ((b ≡ true) ↔ ((k : ℕ) × (k < n) × P k)) → ((x ≡ true) ↔ P n)
    → ((b || x) ≡ true) ↔ ((k : ℕ) × (k < n + 1) × P k)
some_more true x P n h d = (λ e. let w = h.0 refl in (w.0, omega (arith, w.1), w.2), λ w. refl)
some_more false x P n h d = (
  λ e. (n, omega arith, d.0 (sym (false-or x) ∙ e)),
  λ w. elim (split_last w.0 n w.1) [
    | inl less ↦ let t : false ≡ true = h.1 (w.0, less, w.2) in cc
    | inr same ↦ false-or x ∙ d.1 (subst P same w.2)
  ],
)

pub ranked_by_test : (o : Option ℕ) → is_none o ≡ false → IsSome o
ranked_by_test None e = cc
ranked_by_test (Some x) e = refl

-- what is said of two ranks
pub at_ranks : (P : Option ℕ → Option ℕ → Type 0) (q r a b : Option ℕ) → q ≡ a → r ≡ b → P q r → P a b
at_ranks P q r a b e f h = subst (λ x. P x b) e (subst (P q) f h)
