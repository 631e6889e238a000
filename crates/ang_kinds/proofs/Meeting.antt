-- A number that is not 0 has a bit that is 1.
use Rattle.std.specs.Prelude.{ℕ, ◌≡◌, ◌<◌, ◌≤◌, ◌+◌, ◌^◌, ◌≢◌, ◌==◌, Bool, true, false, ◌&&◌, ◌||◌, bit_and, min, Decides}
use Rattle.std.proofs.Common.{arith, ap, refl, ◌∙◌, suc, zero}
use Rattle.std.specs.Int.{bit_at, trailing_zeros, w32}
use Rattle.std.specs.List.{list_any, range_with_len}
use Rattle.std.proofs.lemmas.Nat.Bits.{bit_at_and, bit_at-lt, bit_at-zero, bit_at-trailing_zeros}
use Rattle.std.proofs.lemmas.Nat.{and_le_l}
use Rattle.std.proofs.lemmas.List.Folds.{list_any_at}
use Rattle.std.proofs.lemmas.List.FromFn.{length-range_with_len, get_or-range_with_len}
use Rattle.std.proofs.lemmas.Bool.Decides.{Decides-and, Decides-eqb}
use Rattle.ang_kinds.specs.Masks.{Meets, meets}

both : (x y n : ℕ) → x < 2 → y < 2 → n ≡ min x y → n ≡ 1 → (x ≡ 1) × (y ≡ 1)
both x y n p q e h = (omega arith, omega arith)

both_back : (x y n : ℕ) → n ≡ min x y → x ≡ 1 → y ≡ 1 → n ≡ 1
both_back x y n e p q = omega arith

pub Meets-from_and : (a b : ℕ) → a < 2 ^ 32 → bit_and a b ≢ 0 → Meets a b
Meets-from_and a b fits h =
    let le : bit_and a b ≤ a = and_le_l a b in
    let t = bit_at-trailing_zeros w32 (bit_and a b) (omega arith) (omega arith) in
    let i = trailing_zeros w32 (bit_and a b) in
    let r = both (bit_at a i) (bit_at b i) (bit_at (bit_and a b) i) (bit_at-lt a i) (bit_at-lt b i) (bit_at_and a b i) t.1 in
    (i, t.0, r.0, r.1)

pub and-from_Meets : (a b : ℕ) → Meets a b → bit_and a b ≢ 0
and-from_Meets a b m e =
    let one : bit_at (bit_and a b) m.0 ≡ 1 = both_back _ _ _ (bit_at_and a b m.0) m.2 m.3 in
    let none : bit_at (bit_and a b) m.0 ≡ 0 = ap (λ n. bit_at n m.0) e ∙ bit_at-zero m.0 in
    omega arith

-- whether bit i is 1 in both
abbrev both_set : ℕ → ℕ → ℕ → Bool
both_set e m i = (bit_at e i == 1) && (bit_at m i == 1)

both_set-Decides : (e m i : ℕ) → Decides (both_set e m i) ((bit_at e i ≡ 1) × (bit_at m i ≡ 1))
both_set-Decides e m i =
    Decides-and (bit_at e i == 1) (bit_at m i == 1) (Decides-eqb (bit_at e i) 1) (Decides-eqb (bit_at m i) 1)

-- a test that passes somewhere in a range passes at a number of the range
pick : (b c : Bool) (A B : Type 0) → (b ≡ true → A) → (c ≡ true → B) → (A → B) → (b || c) ≡ true → B
pick true c A B f g h e = h (f refl)
pick false c A B f g h e = g e

in_range : (p : ℕ → Bool) (a n : ℕ) → list_any p (range_with_len a n) ≡ true → (i : ℕ) × (a ≤ i) × (i < a + n) × (p i ≡ true)
in_range p a zero h = cc
in_range p a (suc n) h =
    pick (p a) (list_any p (range_with_len (a + 1) n)) (p a ≡ true) ((i : ℕ) × (a ≤ i) × (i < a + suc n) × (p i ≡ true))
    (λ e. e)
    (λ e. let r = in_range p (a + 1) n e in (r.0, omega arith, omega arith, r.3))
    (λ e. (a, omega arith, omega arith, e))
    h

-- the test of two masks and the relation say the same
pub meets_says : (e m : ℕ) → Decides (meets e m) (Meets e m)
unfolding meets
meets_says e m = (
  λ h. let r = in_range (both_set e m) 0 32 h in
      let s = (both_set-Decides e m r.0).0 r.3 in
      (r.0, omega arith, s.0, s.1),
  λ w. list_any_at (both_set e m) (range_with_len 0 32) w.0 0
      (omega (arith, length-range_with_len 0 32))
      (ap (both_set e m) (get_or-range_with_len 0 32 w.0 0 w.1 ∙ omega arith) ∙ (both_set-Decides e m w.0).1 (w.2, w.3)),
)
