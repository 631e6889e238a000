-- Which of several candidates a call means (the AngelScript manual, "Function overloading"; what is better is this profile's own).
use Rattle.std.specs.Prelude.{ℕ, ◌≡◌, ◌≢◌, ◌<◌, List, [], length, Option, Some, None, IsSome, IfSome, IfNone, slice_get}
use Rattle.std.specs.Option.{option_map_or}
use Rattle.ang_kinds.specs.declared.types.Pass.{Pass}
use Rattle.ang_types.specs.declared.arg_type.ArgType.{ArgType}
use Rattle.ang_types.specs.declared.candidate.Candidate.{Candidate}
use Rattle.ang_types.specs.Ranks.{Ancestors, argument_rank}

-- the types and passings of a candidate's parameters
abbrev pub Params : Type 0
Params = List (ArgType × Pass)

abbrev pub rank_between : Ancestors → Option (ArgType × Pass) → Option ArgType → Option ℕ
rank_between ancestors None argument = None
rank_between ancestors (Some param) None = None
rank_between ancestors (Some param) (Some argument) = argument_rank ancestors param.0 param.1 argument

-- the rank of argument k, from 0, for the parameter at its place
abbrev pub rank_at : Ancestors → Params → List ArgType → ℕ → Option ℕ
rank_at ancestors params args k = rank_between ancestors (slice_get params k) (slice_get args k)

-- There is a parameter for each argument, and each argument has a rank.
pub record IsViable (ancestors : Ancestors) (params : Params) (args : List ArgType) : Type 0 where
  pub equal_number : length params ≡ length args
  pub ranked : (k : ℕ) → k < length args → IsSome (rank_at ancestors params args k)

abbrev pub IsLess : Option ℕ → Option ℕ → Type 0
IsLess (Some q) (Some r) = q < r
IsLess _ _ = ⊥

-- Some argument's rank is less for the one candidate than for the other.
abbrev pub HasLess : Ancestors → Params → Params → List ArgType → Type 0
HasLess ancestors ps qs args = (k : ℕ) × (k < length args) × IsLess (rank_at ancestors ps args k) (rank_at ancestors qs args k)

-- One candidate is better than another: no argument's rank is greater, and one is less.
pub record IsBetter (ancestors : Ancestors) (ps qs : Params) (args : List ArgType) : Type 0 where
  pub none_greater : ¬ HasLess ancestors qs ps args
  pub one_less : HasLess ancestors ps qs args

-- the parameters of candidate i, from 0
abbrev pub params_at : List Candidate → ℕ → Params
params_at candidates i = option_map_or (λ (c : Candidate). c.params) (slice_get candidates i) []

-- There is a candidate i, and it is viable.
pub record IsViableAt (ancestors : Ancestors) (candidates : List Candidate) (args : List ArgType) (i : ℕ) : Type 0 where
  pub there : i < length candidates
  pub viable : IsViable ancestors (params_at candidates i) args

-- Candidate i is the best: it is viable, and better than each other viable one.
pub record IsBest (ancestors : Ancestors) (candidates : List Candidate) (args : List ArgType) (i : ℕ) : Type 0 where
  pub viable : IsViableAt ancestors candidates args i
  pub better : (j : ℕ) → j ≢ i → IsViableAt ancestors candidates args j → IsBetter ancestors (params_at candidates i) (params_at candidates j) args

-- Of the first n candidates one leads: it is viable, and the best of all if the best is among them; none leads where none is viable.
pub record Leads (ancestors : Ancestors) (candidates : List Candidate) (args : List ArgType) (n : ℕ) (leader : Option ℕ) : Type 0 where
  pub viable : IfSome leader (IsViableAt ancestors candidates args)
  pub none : IfNone leader ((i : ℕ) → i < n → ¬ IsViableAt ancestors candidates args i)
  pub best : (i : ℕ) → i < n → IsBest ancestors candidates args i → leader ≡ Some i
