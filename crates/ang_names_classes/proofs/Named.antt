-- The first method of a signature stands among those of its key.
use Rattle.std.specs.Prelude.{ℕ, suc, ◌≡◌, ◌≤◌, ◌+◌, Bool, true, false, not, cond, List, [], ◌∷◌, length, map, find, Some, None, nat_lt, slice_get, unwrap_or, bytes_eq}
use Rattle.std.specs.List.{position_or_len}
use Rattle.std.proofs.Common.{arith, refl, sym, ap, ◌∙◌}
use Rattle.ang_names_known.specs.declared.names.ScriptFunction.{ScriptFunction}
use Rattle.ang_names_known.specs.NameIndex.{places_from}
use Rattle.ang_names_classes.specs.Headings.{same_signature, slot_of}
use Rattle.ang_names_classes.specs.Keys.{method_key}
use Rattle.ang_names_classes.specs.Slots.{is_same_at, is_same_in, methods_keyed}
use Rattle.ang_names_classes.proofs.Alike.{same_key}

module _ (all : List (ScriptFunction × Bool)) (s : ScriptFunction × Bool) where
  one : (b q : Bool) (i past at : ℕ) (row : List ℕ) → (q ≡ true → b ≡ true) → is_same_at all s i ≡ q
      → unwrap_or (find (is_same_at all s) row) past ≡ (i + 1) + at
      → unwrap_or (find (is_same_at all s) (cond b (i ∷ row) row)) past ≡ i + cond (not q) (1 + at) 0
  one true true i past at row h here rest = ap (λ c. unwrap_or (cond c (Some i) (find (is_same_at all s) row)) past) here ∙ omega arith
  one true false i past at row h here rest = ap (λ c. unwrap_or (cond c (Some i) (find (is_same_at all s) row)) past) here ∙ rest ∙ omega arith
  one false true i past at row h here rest = cc (h refl)
  one false false i past at row h here rest = rest ∙ omega arith

  from_here : (xs : List (ScriptFunction × Bool)) (i past : ℕ) → ((k : ℕ) → slice_get all (i + k) ≡ slice_get xs k) → past ≡ i + length xs
      → unwrap_or (find (is_same_at all s) (places_from i (map method_key xs) (method_key s))) past ≡ i + position_or_len (same_signature s) xs
  from_here [] i past stands e = e
  from_here (x ∷ xs) i past stands e =
      let first : i + 0 ≡ i = omega arith in
      let here : is_same_at all s i ≡ same_signature s x = ap (is_same_at all s) (sym first) ∙ ap (is_same_in s) (stands 0) in
      one (bytes_eq (method_key x) (method_key s)) (same_signature s x) i past (position_or_len (same_signature s) xs) (places_from (i + 1) (map method_key xs) (method_key s))
      (same_key s x) here
      (from_here xs (i + 1) past (λ k. let up : (i + 1) + k ≡ i + suc k = omega arith in ap (slice_get all) up ∙ stands (suc k)) (omega (arith, e)))

  within : (at n : ℕ) → (b : Bool) → nat_lt at n ≡ b → (b ≡ false → n ≡ at) → unwrap_or (cond b (Some at) None) n ≡ at
  within at n true e h = refl
  within at n false e h = h refl

  at_most : (xs : List (ScriptFunction × Bool)) → position_or_len (same_signature s) xs ≤ length xs
  at_most [] = omega arith
  at_most (x ∷ xs) = by (same_signature s x) (at_most xs)
    where
      by : (q : Bool) → position_or_len (same_signature s) xs ≤ length xs → cond (not q) (1 + position_or_len (same_signature s) xs) 0 ≤ suc (length xs)
      by true h = omega arith
      by false h = omega (arith, h)

  not_below : (at n : ℕ) → nat_lt at n ≡ false → n ≤ at
  not_below at n h = search arith

  short : (xs : List (ScriptFunction × Bool)) → nat_lt (position_or_len (same_signature s) xs) (length xs) ≡ false → length xs ≡ position_or_len (same_signature s) xs
  short xs e =
      let most = at_most xs in
      let least = not_below (position_or_len (same_signature s) xs) (length xs) e in
      omega (arith, most, least)

  pub first_keyed : unwrap_or (find (is_same_at all s) (methods_keyed all (method_key s))) (length all) ≡ slot_of all s
  first_keyed =
      from_here all 0 (length all) (λ k. let first : 0 + k ≡ k = omega arith in ap (slice_get all) first) (omega arith)
      ∙ omega arith ∙ sym (within (position_or_len (same_signature s) all) (length all) (nat_lt (position_or_len (same_signature s) all) (length all)) refl (short all))
