-- The ranks of the arguments of a call for all kinds of parameters.
use Rattle.std.specs.Prelude.{ℕ, ◌≡◌, List, [], ◌∷◌, map, option_map, slice_get, Option, Some, None, IfSome, Vec}
use Rattle.std.specs.declared.alloc.Global.{Global}
use Rattle.ang_types.specs.declared.arg_type.ArgType.{ArgType}
use Rattle.ang_types.specs.Overloads.{Params}
use Rattle.ang_types.specs.Ranks.{Ancestors, argument_rank}
use Rattle.ang_names_known.specs.Kinds.{Kind}
use Rattle.ang_check_contest.specs.Contest.{ranks_of, with_rank}

-- of what the ranks are: of these arguments for these kinds
pub record Telling : Type 0 where
  pub ancestors : Ancestors
  pub kinds : List Kind
  pub args : List ArgType

-- the rank of an argument for each kind
abbrev pub told_row : Ancestors → List Kind → ArgType → List (Option ℕ)
told_row ancestors kinds argument = map (λ (k : Kind). argument_rank ancestors k.0 k.1 argument) kinds

abbrev pub told_ranks : Ancestors → List Kind → List ArgType → List (List (Option ℕ))
told_ranks ancestors kinds args = map (told_row ancestors kinds) args

abbrev pub rows_of : List (Vec (Option ℕ) Global) → List (List (Option ℕ))
rows_of rows = map (λ (v : Vec (Option ℕ) Global). v.items) rows

abbrev pub in_place : Option (Option ℕ) → Option ℕ
in_place None = None
in_place (Some rank) = rank

-- the rank of an argument for the kind of a number
abbrev pub rank_in : List (Option ℕ) → ℕ → Option ℕ
rank_in row n = in_place (slice_get row n)

-- the rank of each argument for the kind of its number, where there is a number for each argument, and each has a rank
abbrev pub ranks_at : List (List (Option ℕ)) → List ℕ → Option (List ℕ)
ranks_at [] [] = Some []
ranks_at [] (n ∷ ns) = None
ranks_at (row ∷ rows) [] = None
ranks_at (row ∷ rows) (n ∷ ns) = with_rank (rank_in row n) (ranks_at rows ns)

-- ---- ranks that are told where it is worth it

abbrev pub table_of : Option (Vec (Vec (Option ℕ) Global) Global) → Option (List (List (Option ℕ)))
table_of rows = option_map (λ (v : Vec (Vec (Option ℕ) Global) Global). rows_of v.items) rows

-- the rows of a use, where they were found out
abbrev pub IsTable : Ancestors → List Kind → List ArgType → Option (List (List (Option ℕ))) → Type 0
IsTable ancestors kinds args table = IfSome table (λ rows. rows ≡ told_ranks ancestors kinds args)

-- what is told of parameters by the rows and the numbers of their kinds, where there are both: the ranks of all arguments
abbrev pub TellsRanks : Ancestors → Params → List ArgType → Option (List (List (Option ℕ))) → Option (List ℕ) → Type 0
TellsRanks ancestors ps args table numbers = IfSome table (λ rows. IfSome numbers (λ ns. ranks_at rows ns ≡ ranks_of ancestors ps args))
