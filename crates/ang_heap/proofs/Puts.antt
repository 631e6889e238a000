-- A value put into a list of lists.
use Rattle.std.proofs.Common.{◌≡◌, ℕ, ◌<◌, ◌≤◌, List, [], length, map, set, get_or, sym, ap, ◌∙◌, subst}
use Rattle.std.proofs.lemmas.List.{map-set, get_or-map, set_past, length-map}
use Rattle.ang_meaning.specs.declared.slot.Slot.{Slot}

pub put_there : {A : Type 0} (f : A → List Slot) (xs : List A) (home number : ℕ) (x y d : A) (v : Slot) → home < length xs → x ≡ get_or xs home d → f y ≡ set (f x) number v
    → map f (set xs home y) ≡ set (map f xs) home (set (get_or (map f xs) home []) number v)
put_there f xs home number x y d v k e h =
    map-set f xs home y ∙ ap (λ z. set (map f xs) home z) (h ∙ ap (λ z. set z number v) (ap f e ∙ sym (get_or-map f xs home d [] k)))

pub put_nowhere : {A : Type 0} (f : A → List Slot) (xs : List A) (home : ℕ) (z : List Slot) → length xs ≤ home → map f xs ≡ set (map f xs) home z
put_nowhere f xs home z k = sym (set_past (map f xs) home z (subst (λ n. n ≤ home) (sym (length-map xs f)) k))
