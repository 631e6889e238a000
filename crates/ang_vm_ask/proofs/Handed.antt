-- The operands as a driver is handed them.
use Rattle.std.proofs.Common.{◌≡◌, ◌⊎◌, ℕ, suc, ◌+◌, ◌<◌, ◌≤◌, List, [], ◌∷◌, inl, inr, refl, sym, ap, ◌∙◌, length, get_or, drop, drop-cons, add-one, min, arith}
use Rattle.std.proofs.lemmas.Bool.{cases_lt}
use Rattle.std.proofs.lemmas.List.{drop_all}
use Rattle.std.proofs.Math.Nat.{min-eq_left, min-eq_right, le_of_lt}
use Rattle.ang_meaning.specs.declared.slot.Slot.{Slot}
use Rattle.ang_meaning.specs.declared.host.HostValueType.{HostValueType}
use Rattle.ang_meaning.specs.Hosts.{value_of, values_of}

drop_item : {A : Type 0} (xs : List A) (i : ℕ) (x : A) → i < length xs → x ≡ get_or xs i x → drop i xs ≡ x ∷ drop (i + 1) xs
drop_item xs i x lt e = drop-cons xs i x lt ∙ ap (λ y. y ∷ drop (suc i) xs) (sym e) ∙ ap (λ n. x ∷ drop n xs) (sym (add-one i))

-- the next operand
pub values_next : (d : ℕ) (ts : List HostValueType) (vs : List Slot) (i : ℕ) (t : HostValueType) (v : Slot) → i < length ts → i < length vs → t ≡ get_or ts i t → v ≡ get_or vs i v
    → values_of d (drop i ts) (drop i vs) ≡ value_of d t v ∷ values_of d (drop (i + 1) ts) (drop (i + 1) vs)
values_next d ts vs i t v it iv t_is v_is =
    ap (λ xs. values_of d xs (drop i vs)) (drop_item ts i t it t_is) ∙ ap (λ ys. values_of d (t ∷ drop (i + 1) ts) ys) (drop_item vs i v iv v_is)

of_nothing : (d : ℕ) (ts : List HostValueType) → values_of d ts [] ≡ []
of_nothing d [] = refl
of_nothing d (t ∷ ts) = refl

-- none is left
pub values_end : (d : ℕ) (ts : List HostValueType) (vs : List Slot) (i : ℕ) → (length ts ≤ i) ⊎ (length vs ≤ i) → values_of d (drop i ts) (drop i vs) ≡ []
values_end d ts vs i (inl h) = ap (λ xs. values_of d xs (drop i vs)) (drop_all i ts h)
values_end d ts vs i (inr h) = ap (λ ys. values_of d (drop i ts) ys) (drop_all i vs h) ∙ of_nothing d (drop i ts)

-- past the shorter one of two lists
pub min_past : (a b n i : ℕ) → n ≡ min a b → n ≤ i → (a ≤ i) ⊎ (b ≤ i)
min_past a b n i e h =
    elim (cases_lt a b) [
      | inl lt ↦ let m : min a b ≡ a = min-eq_left (le_of_lt lt) in inl (omega arith)
      | inr le ↦ let m : min a b ≡ b = min-eq_right le in inr (omega arith)
    ]
