-- The ranks of one argument for many kinds of parameters.
use Rattle.std.specs.Prelude.{ℕ, ◌==◌, if◌then◌else◌, List, map, Option, Some, None}
use Rattle.ang_kinds.specs.declared.types.Pass.{Pass}
use Rattle.ang_types.specs.declared.arg_type.ArgType.{ArgType}
use Rattle.ang_types.specs.Marks.{has}
use Rattle.ang_types.specs.Ranks.{Ancestors, argument_rank}

-- the rank of a conversion from objects of a type, above which these stand, to those of another
abbrev pub class_rank_in : List ℕ → ℕ → ℕ → Option ℕ
class_rank_in above from to = if from == to then Some 0 else (if has above to then Some 4 else None)

-- the rank of an argument for a parameter of a kind
abbrev pub kind_rank : Ancestors → ArgType → ArgType × Pass → Option ℕ
kind_rank ancestors argument k = argument_rank ancestors k.0 k.1 argument

-- its rank for each kind
abbrev pub ranks_for : Ancestors → ArgType → List (ArgType × Pass) → List (Option ℕ)
ranks_for ancestors argument kinds = map (λ (k : ArgType × Pass). argument_rank ancestors k.0 k.1 argument) kinds
