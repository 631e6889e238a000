-- A group that goes: what is left names nothing of it.
use Rattle.std.proofs.lemmas.Bool.Decides.{eqb_tells}
use Rattle.std.proofs.Common.{inl, inr, ◌≡◌, ℕ, zero, suc, ◌+◌, ◌<◌, ◌≤◌, Bool, true, false, cond, not, ◌&&◌, ◌||◌, ◌∷◌, length, filter, Option, Some, None, refl, sym, ap, ◌∙◌, arith}
use Rattle.std.specs.List.{list_any, range_with_len}
use Rattle.ang_view.specs.declared.entry.Entry.{Entry}
use Rattle.ang_view.specs.declared.group.Group.{Group}
use Rattle.ang_view.specs.Groups.{is_in, is_named_outside, left_outside, names_into}
use Rattle.ang_view.specs.Only.{NamesKept}
use Rattle.ang_view.specs.Registration.{RegistrationList, entry_at, is_named_by, named}
use Rattle.ang_view.proofs.Entries.{entry_at-lt}

-- ---- no number of a range passes

or_false : (b c : Bool) → (b || c) ≡ false → (b ≡ false) × (c ≡ false)
or_false true c e = cc
or_false false c e = (refl, e)

module _ (f : ℕ → Bool) where
  pub none_at : (a n k : ℕ) → a ≤ k → k < a + n → list_any f (range_with_len a n) ≡ false → f k ≡ false
  none_at a zero k low high e = absurd (omega (arith, low, high))
  none_at a (suc n) k low high e =
      let r = or_false (f a) (list_any f (range_with_len (a + 1) n)) e in
      elim (eqb_tells k a) [ inl s ↦ ap f s.1 ∙ r.0 | inr s ↦ none_at (a + 1) n k (omega (arith, low, s.1)) (omega (arith, high)) r.1 ]

  -- nor of those that another test keeps
  pub none_kept_at : (p : ℕ → Bool) (a n k : ℕ) → a ≤ k → k < a + n → p k ≡ true → list_any f (filter p (range_with_len a n)) ≡ false → f k ≡ false
  none_kept_at p a zero k low high pass e = absurd (omega (arith, low, high))
  none_kept_at p a (suc n) k low high pass e =
      elim (eqb_tells k a) [ inl s ↦ head (p a) (sym (ap p s.1) ∙ pass) (ap f s.1) e | inr s ↦ none_kept_at p (a + 1) n k (omega (arith, low, s.1)) (omega (arith, high)) pass (rest (p a) e) ]
    where
      head : (b : Bool) → b ≡ true → f k ≡ f a → list_any f (cond b (a ∷ filter p (range_with_len (a + 1) n)) (filter p (range_with_len (a + 1) n))) ≡ false → f k ≡ false
      head true t same h = same ∙ (or_false (f a) _ h).0
      head false t same h = cc

      rest : (b : Bool) → list_any f (cond b (a ∷ filter p (range_with_len (a + 1) n)) (filter p (range_with_len (a + 1) n))) ≡ false → list_any f (filter p (range_with_len (a + 1) n)) ≡ false
      rest true h = (or_false (f a) _ h).1
      rest false h = h

-- ---- what is left names nothing that goes

and_false : (b c : Bool) → (b && c) ≡ false → b ≡ true → c ≡ false
and_false true c e t = e
and_false false c e t = cc

not_in : (b : Bool) → b ≡ false → not b ≡ true
not_in true e = cc
not_in false e = refl

-- such a number is within the list
pub named_within : (R : RegistrationList) (x : Entry) (k : ℕ) (o : Option Entry) → entry_at R k ≡ o → is_named_by x k o ≡ true → k < length R
named_within R x k None at e = cc
named_within R x k (Some t) at e = entry_at-lt R k t at

pub names_left : (R : RegistrationList) (g : Group) → is_named_outside R g ≡ false → NamesKept (left_outside g) R
unfolding is_named_outside named
names_left R g none n k x at kept names =
    let lt : n < length R = entry_at-lt R n x at in
    let here = none_at (λ i. not (is_in g i) && names_into R g (entry_at R i)) 0 (length R) n (omega arith) (omega (arith, lt)) none in
    let into : names_into R g (entry_at R n) ≡ false = and_false (not (is_in g n)) (names_into R g (entry_at R n)) here kept in
    let mine : list_any (is_in g) (named R x) ≡ false = sym (ap (names_into R g) at) ∙ into in
    let inside : k < length R = named_within R x k (entry_at R k) refl names in
    not_in (is_in g k) (none_kept_at (is_in g) (λ i. is_named_by x i (entry_at R i)) 0 (length R) k (omega arith) (omega (arith, inside)) names mine)
