-- What a loop gathers, turn by turn.
use Rattle.std.proofs.Common.{◌≡◌, ap, sym, ◌∙◌, ℕ, ◌+◌, ◌<◌, suc, List, ◌∷◌, ◌++◌, append_assoc, length, get_or, drop, drop-cons, add-one, map as list_map}
use Rattle.std.specs.List.{flat_map}

-- the item of an index stands in front of what is after it
drop_item : {A : Type 0} (xs : List A) (i : ℕ) (x : A) → i < length xs → x ≡ get_or xs i x → drop i xs ≡ x ∷ drop (i + 1) xs
drop_item xs i x lt e = drop-cons xs i x lt ∙ ap (λ y. y ∷ drop (suc i) xs) (sym e) ∙ ap (λ n. x ∷ drop n xs) (sym (add-one i))

-- what one more item gives, seen by v, joins what the items before it gave
pub flat_map_turn : {S A B : Type 0} (f : A → List B) (v : S → A) (ss : List S) (i : ℕ) (s : S) (was now : List B)
    → flat_map f (list_map v ss) ≡ was ++ flat_map f (list_map v (drop i ss)) → i < length ss → s ≡ get_or ss i s → now ≡ was ++ f (v s)
    → flat_map f (list_map v ss) ≡ now ++ flat_map f (list_map v (drop (i + 1) ss))
flat_map_turn f v ss i s was now h lt is e =
    h ∙ ap (λ xs. was ++ flat_map f (list_map v xs)) (drop_item ss i s lt is)
    ∙ sym (append_assoc was (f (v s)) (flat_map f (list_map v (drop (i + 1) ss))))
    ∙ ap (λ xs. xs ++ flat_map f (list_map v (drop (i + 1) ss))) (sym e)
