-- Whether a candidate is the best does not go by where it stands.
use Rattle.std.specs.Prelude.{ℕ, ◌≡◌, ◌≢◌, ◌<◌, ◌≤◌, ◌+◌, ◌⊎◌, List, [], ◌∷◌, ◌++◌, length}
use Rattle.std.proofs.Common.{arith, refl, sym, subst, inl, inr, zero, suc, length-append}
use Rattle.ang_types.specs.declared.arg_type.ArgType.{ArgType}
use Rattle.ang_types.specs.declared.candidate.Candidate.{Candidate}
use Rattle.ang_types.specs.Ranks.{Ancestors}
use Rattle.ang_types.specs.Overloads.{Params, params_at, IsViable, IsBetter, IsViableAt, IsBest}
use Rattle.ang_types.specs.Best.{is_best}
use Rattle.ang_types.proofs.BestLaws.{is_best-Decides}
use Rattle.ang_types.proofs.RivalLaws.{same_test}

at_here : (before after : List Candidate) (c : Candidate) → params_at (before ++ c ∷ after) (length before) ≡ c.params
at_here [] after c = refl
at_here (b ∷ bs) after c = at_here bs after c

at_earlier : (before after : List Candidate) (c : Candidate) (j : ℕ) → j < length before → params_at (before ++ c ∷ after) j ≡ params_at (before ++ after) j
at_earlier [] after c j lt = absurd (omega arith)
at_earlier (b ∷ bs) after c zero lt = refl
at_earlier (b ∷ bs) after c (suc j) lt = at_earlier bs after c j (omega arith)

at_later : (before after : List Candidate) (c : Candidate) (j : ℕ) → length before ≤ j → params_at (before ++ c ∷ after) (suc j) ≡ params_at (before ++ after) j
at_later [] after c j le = refl
at_later (b ∷ bs) after c zero le = absurd (omega arith)
at_later (b ∷ bs) after c (suc j) le = at_later bs after c j (omega arith)

range : (j n : ℕ) → (j < n) ⊎ (n ≤ j)
range j n = grind arith

order : (j n : ℕ) → (j < n) ⊎ ((j ≡ n) ⊎ (n < j))
order j n = grind arith

module _ (l : Ancestors) (before after : List Candidate) (c : Candidate) (args : List ArgType) where
  abbrev pub Placed : List Candidate
  Placed = before ++ c ∷ after

  abbrev pub Others : List Candidate
  Others = before ++ after

  placed_length : length Placed ≡ length before + suc (length after)
  placed_length = length-append before (c ∷ after)

  others_length : length Others ≡ length before + length after
  others_length = length-append before after

  viable : (i : ℕ) → i < length Placed → (ps : Params) → params_at Placed i ≡ ps → IsViable l ps args → IsViableAt l Placed args i
  viable i lt ps e v = record { there = lt; viable = subst (λ p. IsViable l p args) (sym e) v }

  pub first_best : IsBest l Placed args (length before) → IsBest l (c ∷ Others) args 0
  first_best b = record { viable = record { there = omega arith; viable = subst (λ p. IsViable l p args) (at_here before after c) b.viable.viable }; better = better }
    where
      by : (i j : ℕ) → i ≢ length before → i < length Placed → params_at Placed i ≡ params_at Others j → IsViable l (params_at Others j) args → IsBetter l c.params (params_at Others j) args
      by i j ne lt e v =
          subst (λ p. IsBetter l p (params_at Others j) args) (at_here before after c)
          (subst (λ p. IsBetter l (params_at Placed (length before)) p args) e (b.better i ne (viable i lt (params_at Others j) e v)))

      better : (j : ℕ) → j ≢ 0 → IsViableAt l (c ∷ Others) args j → IsBetter l c.params (params_at (c ∷ Others) j) args
      better zero ne v = absurd (ne refl)
      better (suc j) ne v =
          elim (range j (length before)) [
            | inl lt ↦ by j j (omega arith) (omega (arith, placed_length)) (at_earlier before after c j lt) v.viable
            | inr le ↦ by (suc j) j (omega arith) (omega (arith, v.there, placed_length, others_length)) (at_later before after c j le) v.viable
          ]

  pub placed_best : IsBest l (c ∷ Others) args 0 → IsBest l Placed args (length before)
  placed_best b = record { viable = viable (length before) (omega (arith, placed_length)) c.params (at_here before after c) b.viable.viable; better = better }
    where
      by : (i j : ℕ) → j < length Others → params_at Placed i ≡ params_at Others j → IsViable l (params_at Placed i) args → IsBetter l (params_at Placed (length before)) (params_at Placed i) args
      by i j lt e v =
          subst (λ p. IsBetter l p (params_at Placed i) args) (sym (at_here before after c))
          (subst (λ p. IsBetter l c.params p args) (sym e)
          (b.better (suc j) (omega arith) (record { there = omega arith; viable = subst (λ p. IsViable l p args) e v })))

      better : (i : ℕ) → i ≢ length before → IsViableAt l Placed args i → IsBetter l (params_at Placed (length before)) (params_at Placed i) args
      better i ne v =
          elim (order i (length before)) [
            | inl lt ↦ by i i (omega (arith, others_length)) (at_earlier before after c i lt) v.viable
            | inr more ↦ elim more [
              | inl is ↦ absurd (ne is)
              | inr gt ↦ later i gt v.there v.viable
            ]
          ]
        where
          later : (i : ℕ) → length before < i → i < length Placed → IsViable l (params_at Placed i) args → IsBetter l (params_at Placed (length before)) (params_at Placed i) args
          later zero gt lt v = absurd (omega arith)
          later (suc j) gt lt v = by (suc j) j (omega (arith, placed_length, others_length)) (at_later before after c j (omega arith)) v

  pub same_at_its_place : is_best l Placed args (length before) ≡ is_best l (c ∷ Others) args 0
  same_at_its_place = same_test _ _ _ _ (is_best-Decides l Placed args (length before)) (is_best-Decides l (c ∷ Others) args 0) (first_best, placed_best)
