-- The parts of a text between two separators.
use Rattle.std.proofs.Common.{◌≡◌, ℕ, ◌+◌, ◌<◌, ◌≤◌, Bool, List, [], ◌∷◌, length, take, drop, Some, None, refl, ◌-◌, suc, inl, inr, arith}
use Rattle.std.specs.List.{slice_split, position, position_or_len}
use Rattle.std.proofs.lemmas.List.{take_rest}
use Rattle.std.proofs.lemmas.Bool.{cases_Bool}
use Rattle.std.proofs.lemmas.List.Splits.{slice_split_first}
use Rattle.std.proofs.lemmas.Bool.Decides.{nat_tests}
use Rattle.std.proofs.lemmas.Option.{cond_some}

place_is : (p : ℕ → Bool) (xs : List ℕ) (i : ℕ) → position p xs ≡ Some i → (i ≡ position_or_len p xs) × (i < length xs)
place_is p xs i e = grind (arith, nat_tests, cond_some)

-- where the separator stands, the text splits there
pub split_at_place : (p : ℕ → Bool) (xs : List ℕ) (i : ℕ) → position p xs ≡ Some i
    → slice_split p xs ≡ take i xs ∷ slice_split p (take (length xs - (i + 1)) (drop (i + 1) xs))
split_at_place p xs i e =
    let at = place_is p xs i e in
    let within : position_or_len p xs < length xs = rw (← at.0) at.1 in
    rw (take_rest xs (i + 1), at.0) (slice_split_first p xs 0 within)

whole : (p : ℕ → Bool) (xs : List ℕ) → length xs ≤ position_or_len p xs → slice_split p xs ≡ xs ∷ []
whole p [] h = refl
whole p (x ∷ xs) h = elim (cases_Bool (p x)) [
  | inl e ↦ absurd (let k : suc (length xs) ≤ 0 = rw e at h in omega arith)
  | inr e ↦ let k : suc (length xs) ≤ 1 + position_or_len p xs = rw e at h in rw (e, whole p xs (omega arith)) refl
]

-- where it doesn't stand, the text is the one part
pub split_without_place : (p : ℕ → Bool) (xs : List ℕ) → position p xs ≡ None → slice_split p xs ≡ xs ∷ []
split_without_place p xs e = whole p xs (grind (arith, nat_tests))
