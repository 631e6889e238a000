-- Reading values piece by piece.
use Rattle.std.proofs.Common.{◌≡◌, ℕ, List, [], ◌∷◌, ◌++◌, Option, Some, None, refl, sym, ap, ◌∙◌, append_assoc}
use Rattle.std.specs.Option.{option_map}
use Rattle.ang_kinds.specs.declared.value.Value.{Value}
use Rattle.asrun_lines.specs.Values.{value_of, values_of}

onto : (xs : List Value) (v : Value) (o : Option (List Value))
    → option_map (λ vs. xs ++ vs) (option_map (λ vs. v ∷ vs) o) ≡ option_map (λ vs. (xs ++ v ∷ []) ++ vs) o
onto xs v None = refl
onto xs v (Some vs) = simp append_assoc

first : (piece : List ℕ) (pieces : List (List ℕ)) (v : Value) → value_of piece ≡ Some v
    → values_of (piece ∷ pieces) ≡ option_map (λ vs. v ∷ vs) (values_of pieces)
unfolding values_of
first piece pieces v e = rw e refl

-- a value goes onto those before it
pub values_more : (xs ys : List Value) (all : List (List ℕ)) (piece : List ℕ) (pieces : List (List ℕ)) (v : Value) (whole : Option (List Value))
    → all ≡ piece ∷ pieces → value_of piece ≡ Some v → ys ≡ xs ++ v ∷ [] → option_map (λ vs. xs ++ vs) (values_of all) ≡ whole
    → option_map (λ vs. ys ++ vs) (values_of pieces) ≡ whole
values_more xs ys all piece pieces v whole a e k h =
    rw k (sym (onto xs v (values_of pieces)) ∙ ap (option_map (λ vs. xs ++ vs)) (sym (first piece pieces v e)) ∙ (rw a at h))

-- where a piece is no value, the whole is none
pub values_broken : (xs : List Value) (all : List (List ℕ)) (piece : List ℕ) (pieces : List (List ℕ)) (whole : Option (List Value))
    → all ≡ piece ∷ pieces → value_of piece ≡ None → option_map (λ vs. xs ++ vs) (values_of all) ≡ whole → None ≡ whole
unfolding values_of
values_broken xs all piece pieces whole a e h = rw (a, e) at h

-- with the last value, the whole is there
pub values_whole : (xs ys : List Value) (all : List (List ℕ)) (piece : List ℕ) (v : Value) (whole : Option (List Value))
    → all ≡ piece ∷ [] → value_of piece ≡ Some v → option_map (λ vs. xs ++ vs) (values_of all) ≡ whole
    → ys ≡ xs ++ v ∷ [] → Some ys ≡ whole
unfolding values_of
values_whole xs ys all piece v whole a e h k = rw k (rw (a, e) at h)
