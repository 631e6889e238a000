-- What a score says of the candidates that it has seen.
use Rattle.std.specs.Prelude.{ℕ, Bool, true, false, List, [], ◌∷◌, ◌++◌, Option, Some, None}
use Rattle.ang_kinds.specs.declared.types.Param.{Param}
use Rattle.ang_kinds.specs.declared.types.Pass.{Pass}
use Rattle.ang_kinds.specs.declared.types.Pass.TheVariants.{RefInOut}
use Rattle.ang_types.specs.declared.arg_type.ArgType.{ArgType}
use Rattle.ang_types.specs.Ranks.{Ancestors, argument_rank}
use Rattle.ang_view.specs.Registration.{RegistrationList}
use Rattle.ang_check_contest.specs.Host.{host_type}
use Rattle.ang_check_contest.specs.declared.score.Score.{Score}
use Rattle.ang_check_contest.specs.Contest.{Standing, with_rank}

abbrev pub ranks_if : Bool → List ℕ → Option (List ℕ)
ranks_if false ranks = None
ranks_if true ranks = Some ranks

abbrev pub standing : Score → Standing
standing s = record { least = ranks_if s.is_viable s.least.items; front = s.front; tied = s.is_tied; empty = s.is_empty }

-- ranks in front of those that follow, if each argument there has one
abbrev pub in_front : List ℕ → Option (List ℕ) → Option (List ℕ)
in_front ranks None = None
in_front ranks (Some others) = Some (ranks ++ others)

-- the rank of an argument for a parameter of the host, if its type is seen
abbrev pub host_rank : Ancestors → Option ArgType → Pass → ArgType → Option ℕ
host_rank ancestors None pass argument = None
host_rank ancestors (Some ty) pass argument = argument_rank ancestors ty pass argument

-- the rank of each argument, where there is a parameter of the host for each argument, its type is seen, and each argument has a rank
abbrev pub host_ranks : Ancestors → RegistrationList → List Param → List ArgType → Option (List ℕ)
host_ranks ancestors V [] [] = Some []
host_ranks ancestors V [] (a ∷ args) = None
host_ranks ancestors V (p ∷ ps) [] = None
host_ranks ancestors V (p ∷ ps) (a ∷ args) = with_rank (host_rank ancestors (host_type V p.ty) p.pass a) (host_ranks ancestors V ps args)

-- the same with a receiver in front
abbrev pub host_method_ranks : Ancestors → RegistrationList → ArgType → List Param → List ArgType → Option (List ℕ)
host_method_ranks ancestors V receiver ps [] = None
host_method_ranks ancestors V receiver ps (a ∷ args) = with_rank (argument_rank ancestors receiver RefInOut a) (host_ranks ancestors V ps args)
