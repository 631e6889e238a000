-- The first line of a text, and the first lines.
use Rattle.std.proofs.Common.{◌≡◌, ℕ, suc, ◌+◌, ◌<◌, ◌≤◌, Bool, eqb, List, [], ◌∷◌, ◌++◌, length, take, drop, Some, None, refl, sym, ap, ◌∙◌, inl, inr, arith, add-one, get_or, length-drop, append_assoc, drop-cons}
use Rattle.std.proofs.Math.Seq.{take-length, drop-length}
use Rattle.std.proofs.lemmas.List.{take_more, append-nil}
use Rattle.std.proofs.lemmas.List.Folds.{concat-append}
use Rattle.std.specs.List.{position, position_or_len, concat}
use Rattle.std.proofs.lemmas.Bool.{cases_Bool}
use Rattle.std.proofs.lemmas.Bool.Decides.{nat_tests}
use Rattle.std.proofs.lemmas.Option.{cond_some}
use Rattle.asrun_lines.specs.Lines.{lines_of}

abbrev is_newline : ℕ → Bool
is_newline b = eqb b 10

place_is : (xs : List ℕ) (i : ℕ) → position is_newline xs ≡ Some i → (i ≡ position_or_len is_newline xs) × (i < length xs)
place_is xs i e = grind (arith, nat_tests, cond_some)

ended : (xs : List ℕ) → position_or_len is_newline xs < length xs
    → lines_of xs ≡ take (suc (position_or_len is_newline xs)) xs ∷ lines_of (drop (suc (position_or_len is_newline xs)) xs)
unfolding lines_of
ended [] h = absurd (omega arith)
ended (b ∷ bs) h = elim (cases_Bool (is_newline b)) [
  | inl e ↦ rw e refl
  | inr e ↦
      let one : 1 + position_or_len is_newline bs ≡ suc (position_or_len is_newline bs) = omega arith in
      let more : 1 + position_or_len is_newline bs < suc (length bs) = rw e at h in
      rw (e, one, ended bs (omega arith)) refl
]

open_ended : (xs : List ℕ) → 0 < length xs → length xs ≤ position_or_len is_newline xs → lines_of xs ≡ xs ∷ []
unfolding lines_of
open_ended [] h k = absurd (omega arith)
open_ended (b ∷ []) h k = elim (cases_Bool (is_newline b)) [ inl e ↦ rw e refl | inr e ↦ rw e refl ]
open_ended (b ∷ c ∷ bs) h k = elim (cases_Bool (is_newline b)) [
  | inl e ↦ absurd (let none : suc (suc (length bs)) ≤ 0 = rw e at k in omega arith)
  | inr e ↦
      let more : suc (suc (length bs)) ≤ 1 + position_or_len is_newline (c ∷ bs) = rw e at k in
      rw (e, open_ended (c ∷ bs) (omega arith) (omega arith)) refl
]

pub lines_of-nil : (xs : List ℕ) → length xs ≡ 0 → lines_of xs ≡ []
unfolding lines_of
lines_of-nil [] e = refl
lines_of-nil (b ∷ bs) e = absurd (omega arith)

-- a line ends at the first LF
pub line_at_place : (xs : List ℕ) (i : ℕ) → position is_newline xs ≡ Some i → lines_of xs ≡ take (i + 1) xs ∷ lines_of (drop (i + 1) xs)
line_at_place xs i e = let at = place_is xs i e in let within : position_or_len is_newline xs < length xs = rw (← at.0) at.1 in rw (at.0, add-one) (ended xs within)

-- where there is no LF, the text is one line
pub line_without_place : (xs : List ℕ) → position is_newline xs ≡ None → 0 < length xs → lines_of xs ≡ take (length xs) xs ∷ lines_of (drop (length xs) xs)
unfolding lines_of
line_without_place xs e h = rw (take-length xs, drop-length xs) (open_ended xs h (grind (arith, nat_tests)))

-- what has been taken, and what is left, after i lines
pub record HasTaken (text rest : List ℕ) (i : ℕ) : Type 0 where
  pub within : i ≤ length (lines_of text)
  pub left : lines_of rest ≡ drop i (lines_of text)
  pub front : concat (take i (lines_of text)) ++ rest ≡ text
  pub room : i + length rest ≤ length text

pub takes_none : (text : List ℕ) → HasTaken text text 0
takes_none text = record { within = omega arith; left = refl; front = refl; room = omega arith }

-- one line more
pub takes_more : (text rest line after : List ℕ) (i : ℕ) → HasTaken text rest i → lines_of rest ≡ line ∷ lines_of after → line ++ after ≡ rest → length after < length rest
    → HasTaken text after (i + 1)
takes_more text rest line after i h e w s =
    let here : drop i (lines_of text) ≡ line ∷ lines_of after = sym h.left ∙ e in
    let within : i < length (lines_of text) = omega (arith, ap length here, length-drop i (lines_of text)) in
    let parts : get_or (lines_of text) i [] ∷ drop (suc i) (lines_of text) ≡ line ∷ lines_of after = sym (drop-cons (lines_of text) i [] within) ∙ here in
    let first : get_or (lines_of text) i [] ≡ line = cc in
    let others : lines_of after ≡ drop (suc i) (lines_of text) = cc in
    let taken : take (i + 1) (lines_of text) ≡ take i (lines_of text) ++ line ∷ [] = take_more (lines_of text) i [] within ∙ ap (λ x. take i (lines_of text) ++ x ∷ []) first in
    record {
      within = omega arith;
      left = rw add-one others;
      front = rw (taken, concat-append (take i (lines_of text)) (line ∷ []), append-nil, append_assoc, w) h.front;
      room = omega (arith, h.room);
    }

-- no line more
pub takes_short : (text rest : List ℕ) (i : ℕ) → HasTaken text rest i → lines_of rest ≡ [] → length (lines_of text) ≤ i
takes_short text rest i h e =
    let here : drop i (lines_of text) ≡ [] = sym h.left ∙ e in
    omega (arith, ap length here, length-drop i (lines_of text))
