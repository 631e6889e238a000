-- Bits of words, and the numbers that they stand for.
use Rattle.std.specs.Prelude.{IfSome, slice_get}
use Rattle.std.proofs.Common.{zero, suc, [], ◌∷◌, ◌++◌, ◌≡◌, ◌≢◌, ℕ, true, false, cond, ◌||◌, ◌+◌, ◌-◌, ◌*◌, ◌/◌, ◌%◌, ◌^◌, ◌<◌, ◌≤◌, eqb, List, length, get_or, set, take, bit_or, w64, sym, ap, ◌∙◌, inl, inr, arith, get_or-set_same, get_or-set_other, eq-eqb, ne_eqb}
use Rattle.std.specs.Int.{bit_at}
use Rattle.std.proofs.Math.Bool.{or-false, or-true, false-or}
use Rattle.std.proofs.lemmas.Bool.{cases_eq, cases_lt, lt-ltb, le-ltb}
use Rattle.std.proofs.lemmas.List.Folds.{list_any_more}
use Rattle.std.proofs.lemmas.Nat.Bits.{bit_at-zero, bit_at_set_same, bit_at_set_other}
use Rattle.ang_types.specs.Marks.{bit_of, is_marked_in, has}

-- the words with one bit more
abbrev with_bit : List ℕ → ℕ → List ℕ
with_bit words at = set words (at / 64) (bit_or (get_or words (at / 64) 0) (1 * 2 ^ (at % 64) % 2 ^ 64))

module _ (words : List ℕ) (at : ℕ) (within : at / 64 < length words) where
  low : at % 64 < 64
  low = omega arith

  set_same : bit_of (with_bit words at) at ≡ true
  set_same =
      ap (λ w. eqb (bit_at w (at % 64)) 1) (get_or-set_same words (at / 64) _ 0 within)
      ∙ eq-eqb _ 1 (bit_at_set_same w64 (get_or words (at / 64) 0) (at % 64) low)

  set_other : (n : ℕ) → n ≢ at → bit_of (with_bit words at) n ≡ bit_of words n
  set_other n other =
      elim (cases_eq (n / 64) (at / 64)) [
        | inl row ↦
            ap (λ x. eqb (bit_at (get_or (with_bit words at) x 0) (n % 64)) 1) row
            ∙ ap (λ w. eqb (bit_at w (n % 64)) 1) (get_or-set_same words (at / 64) _ 0 within)
            ∙ ap (λ x. eqb x 1) (bit_at_set_other w64 (get_or words (at / 64) 0) (at % 64) low (n % 64) (omega arith))
            ∙ ap (λ x. eqb (bit_at (get_or words x 0) (n % 64)) 1) (sym row)
        | inr apart ↦ ap (λ w. eqb (bit_at w (n % 64)) 1) (get_or-set_other words (at / 64) (n / 64) _ 0 apart)
      ]

  pub bit_of-set : (n : ℕ) → bit_of (with_bit words at) n ≡ (bit_of words n || eqb at n)
  bit_of-set n =
      elim (cases_eq n at) [
        | inl same ↦
            ap (bit_of (with_bit words at)) same ∙ set_same
            ∙ sym (ap (λ b. bit_of words n || b) (eq-eqb at n (sym same)) ∙ or-true (bit_of words n))
        | inr other ↦
            set_other n other
            ∙ sym (ap (λ b. bit_of words n || b) (ne_eqb at n (λ e. other (sym e))) ∙ or-false (bit_of words n))
      ]

-- a number below the least one has no bit
below_least : (least : ℕ) (words : List ℕ) (n : ℕ) → n < least → is_marked_in least words n ≡ false
below_least least words n lt = ap (λ t. cond t false (bit_of words (n - least))) (lt-ltb n least lt)

from_least : (least : ℕ) (words : List ℕ) (n : ℕ) → least ≤ n → is_marked_in least words n ≡ bit_of words (n - least)
from_least least words n le = ap (λ t. cond t false (bit_of words (n - least))) (le-ltb n least le)

same_place : (least x n : ℕ) → least ≤ x → least ≤ n → eqb (x - least) (n - least) ≡ eqb x n
same_place least x n lx ln =
    elim (cases_eq x n) [
      | inl same ↦ eq-eqb (x - least) (n - least) (ap (λ k. k - least) same) ∙ sym (eq-eqb x n same)
      | inr other ↦ ne_eqb (x - least) (n - least) (λ e. other (omega arith)) ∙ sym (ne_eqb x n other)
    ]

-- one number more
marked_one : (least x : ℕ) (old new : List ℕ) → least ≤ x → ((k : ℕ) → bit_of new k ≡ (bit_of old k || eqb (x - least) k))
    → (n : ℕ) → is_marked_in least new n ≡ (is_marked_in least old n || eqb x n)
marked_one least x old new lx bit n =
    elim (cases_lt n least) [
      | inl lt ↦
          below_least least new n lt
          ∙ sym (ap (λ b. b || eqb x n) (below_least least old n lt) ∙ false-or (eqb x n) ∙ ne_eqb x n (λ e. absurd (omega arith)))
      | inr le ↦
          from_least least new n le ∙ bit (n - least)
          ∙ ap (λ b. bit_of old (n - least) || b) (same_place least x n lx le)
          ∙ sym (ap (λ b. b || eqb x n) (from_least least old n le))
    ]

pub marked_more : (least : ℕ) (old new xs : List ℕ) (i : ℕ) → i < length xs → least ≤ get_or xs i 0
    → ((k : ℕ) → bit_of new k ≡ (bit_of old k || eqb (get_or xs i 0 - least) k))
    → ((n : ℕ) → is_marked_in least old n ≡ has (take i xs) n) → (n : ℕ) → is_marked_in least new n ≡ has (take (i + 1) xs) n
marked_more least old new xs i lt low bit so_far n =
    marked_one least (get_or xs i 0) old new low bit n
    ∙ ap (λ b. b || eqb (get_or xs i 0) n) (so_far n)
    ∙ sym (list_any_more (λ k. eqb k n) xs i 0 lt)

-- no bit is set in words of 0
pub none_marked : (least : ℕ) (words : List ℕ) → ((k : ℕ) → get_or words k 0 ≡ 0) → (n : ℕ) → is_marked_in least words n ≡ false
none_marked least words none n =
    elim (cases_lt n least) [
      | inl lt ↦ below_least least words n lt
      | inr le ↦
          from_least least words n le
          ∙ ap (λ w. eqb (bit_at w ((n - least) % 64)) 1) (none ((n - least) / 64))
          ∙ ap (λ b. eqb b 1) (bit_at-zero ((n - least) % 64))
    ]

-- what holds of each item and of one more
pub each_push : {A : Type 0} (P : ℕ → A → Type 0) (xs : List A) (x : A) → ((i : ℕ) → IfSome (slice_get xs i) (P i)) → P (length xs) x
    → (i : ℕ) → IfSome (slice_get (xs ++ x ∷ []) i) (P i)
each_push P [] x each here zero = here
each_push P [] x each here (suc i) = tt
each_push P (y ∷ ys) x each here zero = each 0
each_push P (y ∷ ys) x each here (suc i) = each_push (λ k. P (suc k)) ys x (λ k. each (suc k)) here i
