-- The tests of Best say what the relations of Overloads say, and so does what they pick.
use Rattle.std.specs.Prelude.{ℕ, if◌then◌else◌, ◌≡◌, ◌≢◌, ◌<◌, ◌⊎◌, ◌↔◌, Bool, true, false, ◌==◌, List, length, Option, Some, None, IsSome, is_some, Decides}
use Rattle.std.proofs.Common.{arith, refl, ap, sym, subst, inl, inr, zero, suc, below_more}
use Rattle.std.proofs.lemmas.Bool.Decides.{Decides-eqb, Decides-ltb, Decides-and, Decides-or, Decides-not, Decides-like, Decides-below_and, Decides-below_or, not_from_Decides}
use Rattle.std.proofs.lemmas.Option.{same_Some}
use Rattle.ang_types.specs.declared.arg_type.ArgType.{ArgType}
use Rattle.ang_types.specs.declared.candidate.Candidate.{Candidate}
use Rattle.ang_types.specs.declared.candidate.Pick.{Pick}
use Rattle.ang_types.specs.declared.candidate.Pick.TheVariants.{One, NoViable, Ambiguous}
use Rattle.ang_types.specs.Ranks.{Ancestors}
use Rattle.ang_types.specs.Overloads.{Params, params_at, rank_at, IsViable, IsLess, HasLess, IsBetter, IsViableAt, IsBest}
use Rattle.ang_types.specs.Best.{all_below, any_below, one_below, is_less, is_viable, has_less, is_better, is_viable_at, yields, is_best, pick_of, best_of}

is_less-Decides : (q r : Option ℕ) → Decides (is_less q r) (IsLess q r)
is_less-Decides None r = (λ e. cc, λ h. absurd h)
is_less-Decides (Some q) None = (λ e. cc, λ h. absurd h)
is_less-Decides (Some q) (Some r) = Decides-ltb q r

is_some-Decides : (o : Option ℕ) → Decides (is_some o) (IsSome o)
is_some-Decides o = (λ e. e, λ e. e)

is_viable-Decides : (l : Ancestors) (ps : Params) (args : List ArgType) → Decides (is_viable l ps args) (IsViable l ps args)
is_viable-Decides l ps args =
    Decides-like _
    (λ h. record { equal_number = h.0; ranked = h.1 })
    (λ v. (v.equal_number, v.ranked))
    (Decides-and _ _ (Decides-eqb (length ps) (length args))
    (Decides-below_and (λ k. is_some (rank_at l ps args k)) (λ k. IsSome (rank_at l ps args k)) (all_below (λ k. is_some (rank_at l ps args k)))
    (λ k. is_some-Decides (rank_at l ps args k)) refl (λ _. refl) (length args)))

has_less-Decides : (l : Ancestors) (ps qs : Params) (args : List ArgType) → Decides (has_less l ps qs args) (HasLess l ps qs args)
has_less-Decides l ps qs args =
    let p = λ (k : ℕ). is_less (rank_at l ps args k) (rank_at l qs args k) in
    let P = λ (k : ℕ). IsLess (rank_at l ps args k) (rank_at l qs args k) in
    Decides-below_or p P (any_below p) (λ k. is_less-Decides (rank_at l ps args k) (rank_at l qs args k)) refl (λ _. refl) (length args)

is_better-Decides : (l : Ancestors) (ps qs : Params) (args : List ArgType) → Decides (is_better l ps qs args) (IsBetter l ps qs args)
is_better-Decides l ps qs args =
    Decides-like _
    (λ h. record { none_greater = h.0; one_less = h.1 })
    (λ b. (b.none_greater, b.one_less))
    (Decides-and _ _ (Decides-not _ (has_less-Decides l qs ps args)) (has_less-Decides l ps qs args))

pub is_viable_at-Decides : (l : Ancestors) (cs : List Candidate) (args : List ArgType) (i : ℕ) → Decides (is_viable_at l cs args i) (IsViableAt l cs args i)
is_viable_at-Decides l cs args i =
    Decides-like _
    (λ h. record { there = h.0; viable = h.1 })
    (λ v. (v.there, v.viable))
    (Decides-and _ _ (Decides-ltb i (length cs)) (is_viable-Decides l (params_at cs i) args))

-- what one other candidate must be, for i to be the best
abbrev Yields : Ancestors → List Candidate → List ArgType → ℕ → ℕ → Type 0
Yields l cs args i j = (j ≡ i) ⊎ ((¬ IsViableAt l cs args j) ⊎ IsBetter l (params_at cs i) (params_at cs j) args)

yields-Decides : (l : Ancestors) (cs : List Candidate) (args : List ArgType) (i j : ℕ) → Decides (yields l cs args i j) (Yields l cs args i j)
yields-Decides l cs args i j =
    Decides-or _ _ (Decides-eqb j i)
    (Decides-or _ _ (Decides-not _ (is_viable_at-Decides l cs args j)) (is_better-Decides l (params_at cs i) (params_at cs j) args))

better_from : (A B C : Type 0) → A ⊎ ((¬ B) ⊎ C) → ¬ A → B → C
better_from A B C h n b = elim h [ inl a ↦ absurd (n a) | inr h' ↦ elim h' [ inl m ↦ absurd (m b) | inr c ↦ c ] ]

-- from an implication back to the choice, where both premises are tested
choice_from : (x y : Bool) (A B C : Type 0) → Decides x A → Decides y B → (¬ A → B → C) → A ⊎ ((¬ B) ⊎ C)
choice_from true y A B C dx dy h = inl (dx.0 refl)
choice_from false true A B C dx dy h = inr (inr (h (not_from_Decides false dx refl) (dy.0 refl)))
choice_from false false A B C dx dy h = inr (inl (not_from_Decides false dy refl))

pub is_best-Decides : (l : Ancestors) (cs : List Candidate) (args : List ArgType) (i : ℕ) → Decides (is_best l cs args i) (IsBest l cs args i)
is_best-Decides l cs args i =
    Decides-like _
    (λ h. record {
      viable = h.0;
      better = λ j ne v. better_from _ _ _ (h.1 j v.there) ne v;
    })
    (λ b. (
      b.viable,
      λ j lt. choice_from (j == i) (is_viable_at l cs args j) (j ≡ i) (IsViableAt l cs args j) _ (Decides-eqb j i) (is_viable_at-Decides l cs args j) (b.better j),
    ))
    (Decides-and _ _ (is_viable_at-Decides l cs args i)
    (Decides-below_and (yields l cs args i) (Yields l cs args i) (all_below (yields l cs args i)) (yields-Decides l cs args i) refl (λ _. refl) (length cs)))

-- what a search below n found
step_found : (b : Bool) (n i : ℕ) (o : Option ℕ) (P : ℕ → Type 0) → (b ≡ true → P n) → (o ≡ Some i → P i) → (if b then Some n else o) ≡ Some i → P i
step_found true n i o P here there e = subst P (same_Some n i e) (here refl)
step_found false n i o P here there e = there e

one_below-Some : (p : ℕ → Bool) (n i : ℕ) → one_below p n ≡ Some i → p i ≡ true
one_below-Some p zero i e = cc
one_below-Some p (suc n) i e = step_found (p n) n i (one_below p n) (λ k. p k ≡ true) (λ h. h) (one_below-Some p n i) e

step_none : (b : Bool) (n : ℕ) (o : Option ℕ) → (if b then Some n else o) ≡ None → (b ≡ false) × (o ≡ None)
step_none true n o e = cc
step_none false n o e = (refl, e)

one_below-None : (p : ℕ → Bool) (n : ℕ) → one_below p n ≡ None → (k : ℕ) → k < n → p k ≡ false
one_below-None p zero e k lt = absurd (omega arith)
one_below-None p (suc n) e k lt =
    let s = step_none (p n) n (one_below p n) e in
    below_more (λ k. p k ≡ false) n (one_below-None p n s.1) s.0 k (omega arith)

best_apart : (l : Ancestors) (cs : List Candidate) (args : List ArgType) (i j : ℕ) → i ≢ j → IsBest l cs args i → ¬ IsBest l cs args j
best_apart l cs args i j ne a b =
    (a.better j (λ e. ne (sym e)) b.viable).none_greater (b.better i ne a.viable).one_less

same_unless : (t : Bool) (i j : ℕ) → Decides t (i ≡ j) → ¬ (i ≢ j) → i ≡ j
same_unless true i j d h = d.0 refl
same_unless false i j d h = absurd (h (not_from_Decides false d refl))

pub one_best-unique : (l : Ancestors) (cs : List Candidate) (args : List ArgType) (i j : ℕ) → IsBest l cs args i → IsBest l cs args j → i ≡ j
one_best-unique l cs args i j a b = same_unless (i == j) i j (Decides-eqb i j) (λ ne. best_apart l cs args i j ne a b)

best_from_search : (l : Ancestors) (cs : List Candidate) (args : List ArgType) (i : ℕ) → one_below (is_best l cs args) (length cs) ≡ Some i → IsBest l cs args i
best_from_search l cs args i e = (is_best-Decides l cs args i).0 (one_below-Some (is_best l cs args) (length cs) i e)

none_from_search : (l : Ancestors) (cs : List Candidate) (args : List ArgType) → one_below (is_best l cs args) (length cs) ≡ None → (i : ℕ) → ¬ IsBest l cs args i
none_from_search l cs args e i b =
    not_from_Decides _ (is_best-Decides l cs args i) (one_below-None (is_best l cs args) (length cs) e i b.viable.there) b

any_viable-Decides : (l : Ancestors) (cs : List Candidate) (args : List ArgType) → Decides (any_below (is_viable_at l cs args) (length cs)) ((i : ℕ) × (i < length cs) × IsViableAt l cs args i)
any_viable-Decides l cs args =
    Decides-below_or (is_viable_at l cs args) (IsViableAt l cs args) (any_below (is_viable_at l cs args)) (is_viable_at-Decides l cs args) refl (λ _. refl) (length cs)

-- a pick says what the relations say: which candidate is the best, that none is viable, or that some are and none is the best
pub record Says (l : Ancestors) (cs : List Candidate) (args : List ArgType) (p : Pick) : Type 0 where
  pub one : (i : ℕ) → (p ≡ One i) ↔ IsBest l cs args i
  pub no_viable : (p ≡ NoViable) ↔ ((i : ℕ) → ¬ IsViableAt l cs args i)
  pub ambiguous : (p ≡ Ambiguous) ↔ (((i : ℕ) × IsViableAt l cs args i) × ((i : ℕ) → ¬ IsBest l cs args i))

-- by what the two searches gave
says_by : (l : Ancestors) (cs : List Candidate) (args : List ArgType) (o : Option ℕ) (b : Bool)
    → ((i : ℕ) → o ≡ Some i → IsBest l cs args i) → (o ≡ None → (i : ℕ) → ¬ IsBest l cs args i)
    → Decides b ((i : ℕ) × (i < length cs) × IsViableAt l cs args i) → Says l cs args (pick_of o b)
says_by l cs args (Some n) b found none d =
    let best : IsBest l cs args n = found n refl in
    record {
      one = λ i. (λ e. found i (cc), λ w. ap One (one_best-unique l cs args n i best w));
      no_viable = (λ e. cc, λ h. absurd (h n best.viable));
      ambiguous = (λ e. cc, λ h. absurd (h.1 n best));
    }
says_by l cs args None true found none d =
    let w = d.0 refl in
    record {
      one = λ i. (λ e. cc, λ b. absurd (none refl i b));
      no_viable = (λ e. cc, λ h. absurd (h w.0 w.2));
      ambiguous = (λ e. ((w.0, w.2), none refl), λ h. refl);
    }
says_by l cs args None false found none d =
    record {
      one = λ i. (λ e. cc, λ b. absurd (none refl i b));
      no_viable = (λ e i v. not_from_Decides false d refl (i, v.there, v), λ h. refl);
      ambiguous = (λ e. cc, λ h. absurd (not_from_Decides false d refl (h.0.0, h.0.1.there, h.0.1)));
    }

pub best_of-says : (l : Ancestors) (cs : List Candidate) (args : List ArgType) → Says l cs args (best_of l cs args)
unfolding best_of
best_of-says l cs args =
    says_by l cs args _ _ (best_from_search l cs args) (none_from_search l cs args) (any_viable-Decides l cs args)

-- and what says it is that pick
pub best_of-same : (l : Ancestors) (cs : List Candidate) (args : List ArgType) (p : Pick) → Says l cs args p → p ≡ best_of l cs args
best_of-same l cs args (One i) s = sym (((best_of-says l cs args).one i).1 ((s.one i).0 refl))
best_of-same l cs args NoViable s = sym ((best_of-says l cs args).no_viable.1 (s.no_viable.0 refl))
best_of-same l cs args Ambiguous s = sym ((best_of-says l cs args).ambiguous.1 (s.ambiguous.0 refl))
