-- Whether one candidate more is the best, by the least ranks of the others.
use Rattle.std.specs.Prelude.{ℕ, Bool, true, false, ◌≡◌, ◌≢◌, ◌<◌, ◌≤◌, ◌+◌, ◌⊎◌, ◌↔◌, List, ◌∷◌, length, Option, Some, None, IsSome, IfSome, Decides}
use Rattle.std.proofs.Common.{arith, refl, ap, sym, subst, inl, inr, zero, suc, below_more, ◌∙◌}
use Rattle.ang_types.specs.declared.arg_type.ArgType.{ArgType}
use Rattle.ang_types.specs.declared.candidate.Candidate.{Candidate}
use Rattle.ang_types.specs.Ranks.{Ancestors}
use Rattle.ang_types.specs.Overloads.{Params, params_at, rank_at, IsLess, IsBetter, IsViableAt, IsBest}
use Rattle.ang_types.specs.Best.{is_best}
use Rattle.ang_types.specs.Rivals.{IsAtMost, least_at, AreRivals, IsAbreast}
use Rattle.ang_types.proofs.BestLaws.{is_best-Decides}

-- on ranks alone
less_through : (m d c : Option ℕ) → IsAtMost m d → IsLess d c → IsLess m c
less_through None d c a l = absurd a
less_through (Some q) None c a l = absurd a
less_through (Some q) (Some r) None a l = absurd l
less_through (Some q) (Some r) (Some s) a l = omega arith

-- where c is not above m, and m is not d, c is below d
less_below : (c m d : Option ℕ) → IsSome c → ¬ IsLess m c → IsAtMost m d → d ≢ m → IsLess c d
less_below None m d there above a ne = cc
less_below (Some s) None d there above a ne = absurd a
less_below (Some s) (Some q) None there above a ne = absurd a
less_below (Some s) (Some q) (Some r) there above a ne =
    let differs : r ≢ q = λ e. ne (ap Some e) in
    let le : s ≤ q = grind (arith, above) in
    omega (arith, a, differs)

split_option : (o q : Option ℕ) → (o ≡ q) ⊎ (o ≢ q)
split_option None None = inl refl
split_option None (Some q) = inr (λ e. cc)
split_option (Some o) None = inr (λ e. cc)
split_option (Some o) (Some q) = elim (split_number o q) [ inl e ↦ inl (ap Some e) | inr ne ↦ inr (λ e. ne (cc)) ]
  where
    split_number : (o q : ℕ) → (o ≡ q) ⊎ (o ≢ q)
    split_number o q = grind arith

-- all equal, or one that is not
all_or_one : (f g : ℕ → Option ℕ) (n : ℕ) → ((k : ℕ) → k < n → f k ≡ g k) ⊎ ((k : ℕ) × (k < n) × (f k ≢ g k))
all_or_one f g zero = inl (λ k lt. absurd (omega arith))
all_or_one f g (suc n) =
    elim (all_or_one f g n) [
      | inr w ↦ inr (w.0, omega arith, w.2)
      | inl same ↦ elim (split_option (f n) (g n)) [
        | inl e ↦ inl (λ k lt. below_more (λ k. f k ≡ g k) n same e k (omega arith))
        | inr ne ↦ inr (n, omega arith, ne)
      ]
    ]

viable_up : (l : Ancestors) (c : Candidate) (cs : List Candidate) (args : List ArgType) (i : ℕ) → IsViableAt l cs args i → IsViableAt l (c ∷ cs) args (suc i)
viable_up l c cs args i v = record { there = omega (arith, v.there); viable = v.viable }

viable_down : (l : Ancestors) (c : Candidate) (cs : List Candidate) (args : List ArgType) (i : ℕ) → IsViableAt l (c ∷ cs) args (suc i) → IsViableAt l cs args i
viable_down l c cs args i v = record { there = omega (arith, v.there); viable = v.viable }

better_by : (l : Ancestors) (c : Candidate) (cs : List Candidate) (args : List ArgType) (r : List (Option ℕ) × Bool) → AreRivals r l cs args → IsAbreast l c.params args r
    → (i : ℕ) → IsViableAt l cs args i → IsBetter l c.params (params_at cs i) args
better_by l c cs args r rs b i v =
    let ds = params_at cs i in
    let most : (k : ℕ) → k < length args → IsAtMost (least_at r.0 k) (rank_at l ds args k) = rs.least.none_below i v.there v in
    record {
      none_greater = λ h. b.none_above (h.0, h.1, less_through (least_at r.0 h.0) (rank_at l ds args h.0) (rank_at l c.params args h.0) (most h.0 h.1) h.2);
      one_less = elim (all_or_one (rank_at l ds args) (least_at r.0) (length args)) [
        | inl same ↦
            let w = b.one_below (rs.tied.1 (i, (v, same))) in
            (w.0, w.1, subst (IsLess (rank_at l c.params args w.0)) (sym (same w.0 w.1)) w.2)
        | inr w ↦ (
          w.0,
          w.1,
          less_below (rank_at l c.params args w.0) (least_at r.0 w.0) (rank_at l ds args w.0) (b.viable.ranked w.0 w.1)
              (λ less. b.none_above (w.0, w.1, less)) (most w.0 w.1) w.2,
        )
      ];
    }

best_by : (l : Ancestors) (c : Candidate) (cs : List Candidate) (args : List ArgType) (r : List (Option ℕ) × Bool) → AreRivals r l cs args → IsAbreast l c.params args r
    → IsBest l (c ∷ cs) args 0
best_by l c cs args r rs b = record { viable = record { there = omega arith; viable = b.viable }; better = better }
  where
    better : (j : ℕ) → j ≢ 0 → IsViableAt l (c ∷ cs) args j → IsBetter l c.params (params_at (c ∷ cs) j) args
    better zero ne v = absurd (ne refl)
    better (suc j) ne v = better_by l c cs args r rs b j (viable_down l c cs args j v)

-- a least rank that is below another one is some candidate's
above_some : (m c : Option ℕ) (P : ℕ → Type 0) → IfSome m P → IsLess m c → (q : ℕ) × (m ≡ Some q) × P q
above_some None c P h l = absurd l
above_some (Some q) c P h l = (q, refl, h)

abreast_from : (l : Ancestors) (c : Candidate) (cs : List Candidate) (args : List ArgType) (r : List (Option ℕ) × Bool) → AreRivals r l cs args → IsBest l (c ∷ cs) args 0
    → IsAbreast l c.params args r
abreast_from l c cs args r rs b =
    let better : (i : ℕ) → IsViableAt l cs args i → IsBetter l c.params (params_at cs i) args = λ i v. b.better (suc i) (λ e. absurd (omega (arith, e))) (viable_up l c cs args i v) in
    record {
      viable = b.viable.viable;
      none_above = λ h.
          let w = above_some (least_at r.0 h.0) (rank_at l c.params args h.0) (λ q. (i : ℕ) × IsViableAt l cs args i × (rank_at l (params_at cs i) args h.0 ≡ Some q)) (rs.least.attained h.0 h.1) h.2 in
          (better w.2.0 w.2.1).none_greater (h.0, h.1, subst (λ m. IsLess m (rank_at l c.params args h.0)) (w.1 ∙ sym w.2.2) h.2);
      one_below = λ t.
          let w = rs.tied.0 t in
          let one = (better w.0 w.1.0).one_less in
          (one.0, one.1, subst (IsLess (rank_at l c.params args one.0)) (w.1.1 one.0 one.1) one.2);
    }

pub abreast-IsBest : (l : Ancestors) (c : Candidate) (cs : List Candidate) (args : List ArgType) (r : List (Option ℕ) × Bool) → AreRivals r l cs args
    → IsAbreast l c.params args r ↔ IsBest l (c ∷ cs) args 0
abreast-IsBest l c cs args r rs = (best_by l c cs args r rs, abreast_from l c cs args r rs)

-- two tests of the same thing are the same
pub same_test : (x y : Bool) (A B : Type 0) → Decides x A → Decides y B → A ↔ B → x ≡ y
same_test true true A B d e h = refl
same_test true false A B d e h = let f : false ≡ true = e.1 (h.0 (d.0 refl)) in cc
same_test false true A B d e h = let f : false ≡ true = d.1 (h.1 (e.0 refl)) in cc
same_test false false A B d e h = refl

pub tested : (x : Bool) (l : Ancestors) (ps : Params) (cs : List Candidate) (args : List ArgType) (r : List (Option ℕ) × Bool)
    → Decides x (IsAbreast l ps args r) → AreRivals r l cs args → (c : Candidate) → c.params ≡ ps → x ≡ is_best l (c ∷ cs) args 0
tested x l ps cs args r d rs c e =
    same_test x (is_best l (c ∷ cs) args 0) (IsAbreast l c.params args r) _ (subst (λ p. Decides x (IsAbreast l p args r)) (sym e) d) (is_best-Decides l (c ∷ cs) args 0) (abreast-IsBest l c cs args r rs)

pub split_last : (i n : ℕ) → i < n + 1 → (i < n) ⊎ (i ≡ n)
split_last i n lt = grind arith
