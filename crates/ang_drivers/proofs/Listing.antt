-- Lists of numbers in which one number is put or removed.
use Rattle.std.specs.Prelude.{ℕ, ℤ, pos, negsuc, ◌+◌, ◌≡◌, ◌<◌, Bool, true, false, cond, nat_lt, List, ◌∷◌, ◌++◌, length, take, drop, slice_set, Some, None}
use Rattle.std.proofs.Common.{refl, sym, ◌∙◌, ap, subst}
use Rattle.std.proofs.lemmas.Bool.{ltb-true}
use Rattle.std.proofs.lemmas.List.{take-append-drop, take-set, drop-set}
use Rattle.ang_host.specs.declared.answer.Answer.TheVariants.{Void}
use Rattle.ang_drivers.specs.IntList.{place, Sets}

put_at : (xs : List ℤ) (i : ℕ) (z : ℤ) → i < length xs → slice_set xs i z ≡ take i xs ++ z ∷ drop (i + 1) xs
put_at xs i z lt = sym (take-append-drop i (slice_set xs i z)) ∙ (λ j. take-set xs i z j ++ drop-set xs i z lt j)

placed : (b : Bool) (n i : ℕ) → cond b (Some n) None ≡ Some i → (b ≡ true) × (n ≡ i)
placed true n i e = (refl, (let x : n ≡ i = cc in x))
placed false n i e = absurd (let x : ⊥ = cc in x)

-- the place of an index is one of the list's
in_list : (xs : List ℤ) (z : ℤ) (i : ℕ) → place xs z ≡ Some i → i < length xs
in_list xs (pos n) i e =
    let p = placed (nat_lt n (length xs)) n i e in
    subst (λ k. k < length xs) p.1 (ltb-true n (length xs) p.0)
in_list xs (negsuc n) i e = absurd (let x : ⊥ = cc in x)

-- the numbers xs are those that stand in the list ws
pub put_is : (xs ys ws : List ℤ) (i : ℤ) (k : ℕ) (z w : ℤ) → xs ≡ ws → Some k ≡ place ws i → w ≡ z → ys ≡ slice_set xs k w → Sets ws (place ws i) z Void ys
put_is xs ys ws i k z w e at f g =
    let s : Some k ≡ place xs i = at ∙ ap (λ l. place l i) (sym e) in
    subst (λ l. Sets l (place l i) z Void ys) e
    (subst (λ o. Sets xs o z Void ys) s (refl, g ∙ ap (slice_set xs k) f ∙ put_at xs k z (in_list xs i k (sym s))))
