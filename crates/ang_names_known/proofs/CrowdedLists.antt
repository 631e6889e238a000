-- Lists of the methods of a name, by number.
use Rattle.std.specs.Prelude.{ℕ, zero, suc, Bool, true, false, ◌≡◌, ◌==◌, ◌⊎◌, if◌then◌else◌, List, [], ◌∷◌, ◌++◌, length, Some, bytes_eq, slice_get}
use Rattle.std.proofs.Common.{refl, sym, ap, subst, inl, inr, ◌∙◌}
use Rattle.std.proofs.lemmas.Bool.Decides.{Decides-and, Decides-eqb}
use Rattle.std.proofs.lemmas.Slice.Eq.{bytes_eq-Decides}
use Rattle.ang_index.specs.Rows.{Puts, is_under, items_at}
use Rattle.ang_names_known.specs.declared.crowded.CrowdedMethods.{CrowdedMethods}
use Rattle.ang_names_known.specs.declared.methods.MethodPlace.{MethodPlace}
use Rattle.ang_names_known.specs.declared.names.Family.{Family}
use Rattle.ang_names_known.specs.Crowded.{AreRight, HasList, IsList, lists_of}

-- a list that is there stays where one more is put in
has_more : (fs : List Family) (c : ℕ) (name : List ℕ) (lists : List (List MethodPlace)) (n : ℕ) (more : List MethodPlace)
    → HasList fs c name (slice_get lists n) → HasList fs c name (slice_get (lists ++ more ∷ []) n)
has_more fs c name [] n more has = absurd (none n has)
  where
    none : (n : ℕ) → HasList fs c name (slice_get [] n) → ⊥
    none zero h = h
    none (suc n) h = h
has_more fs c name (list ∷ lists) zero more has = has
has_more fs c name (list ∷ lists) (suc n) more has = has_more fs c name lists n more has

last_list : (lists : List (List MethodPlace)) (more : List MethodPlace) → slice_get (lists ++ more ∷ []) (length lists) ≡ Some more
last_list [] more = refl
last_list (list ∷ lists) more = last_list lists more

front_or_last : (xs : List ℕ) (y i n : ℕ) → slice_get (xs ++ y ∷ []) i ≡ Some n → (slice_get xs i ≡ Some n) ⊎ (n ≡ y)
front_or_last [] y zero n e = let same : n ≡ y = cc in inr same
front_or_last [] y (suc i) n e = cc
front_or_last (x ∷ xs) y zero n e = inl e
front_or_last (x ∷ xs) y (suc i) n e = front_or_last xs y i n e

same_place : (family c : ℕ) (name other : List ℕ) → is_under c other (family, name) ≡ true → (family ≡ c) × (name ≡ other)
same_place family c name other e = (Decides-and (family == c) (bytes_eq name other) (Decides-eqb family c) (bytes_eq-Decides name other)).0 e

-- the list of a family and a name is put in
pub right_more : (fs : List Family) (old new : CrowdedMethods) (family number : ℕ) (name : List ℕ) (list : List MethodPlace)
    → AreRight fs old → IsList fs family name list → lists_of new ≡ lists_of old ++ list ∷ [] → number ≡ length (lists_of old) → Puts old.numbers new.numbers family name number
    → AreRight fs new
right_more fs old new family number name list right is pushed counted puts = λ c n i other at.
    subst (λ ls. HasList fs c other (slice_get ls n)) (sym pushed) (by c n i other (is_under c other (family, name)) refl at)
  where
    stays : (c n i : ℕ) (other : List ℕ) → slice_get (items_at c other old.numbers) i ≡ Some n → HasList fs c other (slice_get (lists_of old ++ list ∷ []) n)
    stays c n i other at = has_more fs c other (lists_of old) n list (right c n i other at)

    here : (c n : ℕ) (other : List ℕ) → n ≡ number → (family ≡ c) × (name ≡ other) → HasList fs c other (slice_get (lists_of old ++ list ∷ []) n)
    here c n other same place =
        let there : slice_get (lists_of old ++ list ∷ []) n ≡ Some list = ap (slice_get (lists_of old ++ list ∷ [])) (same ∙ counted) ∙ last_list (lists_of old) list in
        let is_here : IsList fs c other list = subst (λ x. IsList fs x other list) place.0 (subst (λ x. IsList fs family x list) place.1 is) in
        subst (λ o. HasList fs c other o) (sym there) is_here

    by : (c n i : ℕ) (other : List ℕ) (b : Bool) → is_under c other (family, name) ≡ b → slice_get (items_at c other new.numbers) i ≡ Some n
        → HasList fs c other (slice_get (lists_of old ++ list ∷ []) n)
    by c n i other false is_b at =
        let items : items_at c other new.numbers ≡ items_at c other old.numbers
        = puts c other ∙ ap (λ b. if b then items_at c other old.numbers ++ number ∷ [] else items_at c other old.numbers) is_b in
        stays c n i other (ap (λ xs. slice_get xs i) (sym items) ∙ at)
    by c n i other true is_b at =
        let items : items_at c other new.numbers ≡ items_at c other old.numbers ++ number ∷ []
        = puts c other ∙ ap (λ b. if b then items_at c other old.numbers ++ number ∷ [] else items_at c other old.numbers) is_b in
        elim (front_or_last (items_at c other old.numbers) number i n (ap (λ xs. slice_get xs i) (sym items) ∙ at)) [
          | inl before ↦ stays c n i other before
          | inr same ↦ here c n other same (same_place family c name other is_b)
        ]

-- no list is there yet
pub right_none : (fs : List Family) (m : CrowdedMethods) → m.numbers ≡ [] → AreRight fs m
right_none fs m none = λ c n i name at.
    let e : slice_get (items_at c name []) i ≡ Some n = ap (λ rows. slice_get (items_at c name rows) i) (sym none) ∙ at in
    absurd (by i n e)
  where
    by : (i n : ℕ) → slice_get [] i ≡ Some n → ⊥
    by zero n e = cc
    by (suc i) n e = cc

-- the list at a number that stands there
pub list_is : (fs : List Family) (m : CrowdedMethods) (c n i : ℕ) (name : List ℕ) (list : List MethodPlace) → AreRight fs m
    → slice_get (items_at c name m.numbers) i ≡ Some n → slice_get (lists_of m) n ≡ Some list → IsList fs c name list
list_is fs m c n i name list right at is = subst (λ o. HasList fs c name o) is (right c n i name at)
