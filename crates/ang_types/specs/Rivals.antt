-- What is kept of the candidates of a use, so that one more can be told to be the best or not.
use Rattle.std.specs.Prelude.{ℕ, Bool, true, ◌≡◌, ◌<◌, ◌≤◌, ◌↔◌, List, length, Option, Some, None, IfSome, slice_index_or}
use Rattle.ang_types.specs.declared.arg_type.ArgType.{ArgType}
use Rattle.ang_types.specs.declared.candidate.Candidate.{Candidate}
use Rattle.ang_types.specs.Ranks.{Ancestors}
use Rattle.ang_types.specs.Overloads.{Params, params_at, rank_at, IsLess, IsViable, IsViableAt}

-- both are ranks, and the first is not above the second
abbrev pub IsAtMost : Option ℕ → Option ℕ → Type 0
IsAtMost None r = ⊥
IsAtMost (Some q) None = ⊥
IsAtMost (Some q) (Some r) = q ≤ r

-- the least rank kept for argument k
abbrev pub least_at : List (Option ℕ) → ℕ → Option ℕ
least_at least k = slice_index_or least k None

-- For each argument the least rank of it among the viable ones of the first n candidates, or none where none is viable.
pub record AreLeast (ancestors : Ancestors) (candidates : List Candidate) (args : List ArgType) (n : ℕ) (least : List (Option ℕ)) : Type 0 where
  pub size : length least ≡ length args
  pub none_below : (i : ℕ) → i < n → IsViableAt ancestors candidates args i → (k : ℕ) → k < length args →
      IsAtMost (least_at least k) (rank_at ancestors (params_at candidates i) args k)
  pub attained : (k : ℕ) → k < length args → IfSome (least_at least k) (λ r.
      (i : ℕ) × IsViableAt ancestors candidates args i × (rank_at ancestors (params_at candidates i) args k ≡ Some r))

-- A viable candidate has the least rank of each argument.
abbrev pub HasAll : Ancestors → List Candidate → List ArgType → List (Option ℕ) → ℕ → Type 0
HasAll ancestors candidates args least i =
    IsViableAt ancestors candidates args i
    × ((k : ℕ) → k < length args → rank_at ancestors (params_at candidates i) args k ≡ least_at least k)

-- The least ranks, and whether one viable candidate has all of them.
pub record AreRivals (rivals : List (Option ℕ) × Bool) (ancestors : Ancestors) (candidates : List Candidate) (args : List ArgType) : Type 0 where
  pub least : AreLeast ancestors candidates args (length candidates) rivals.0
  pub tied : (rivals.1 ≡ true) ↔ ((i : ℕ) × HasAll ancestors candidates args rivals.0 i)

-- A candidate is viable, nowhere above the least ranks, and somewhere below them where one other has all of them.
pub record IsAbreast (ancestors : Ancestors) (params : Params) (args : List ArgType) (rivals : List (Option ℕ) × Bool) : Type 0 where
  pub viable : IsViable ancestors params args
  pub none_above : ¬ ((k : ℕ) × (k < length args) × IsLess (least_at rivals.0 k) (rank_at ancestors params args k))
  pub one_below : rivals.1 ≡ true → (k : ℕ) × (k < length args) × IsLess (rank_at ancestors params args k) (least_at rivals.0 k)
