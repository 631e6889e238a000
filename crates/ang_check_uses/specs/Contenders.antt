-- Contenders that name functions that a call can mean.
use Rattle.std.specs.Prelude.{List, [], ◌∷◌, ◌++◌, option_to_list, Option, Some, None}
use Rattle.ang_kinds.specs.declared.error.ErrorKind.{ErrorKind}
use Rattle.ang_kinds.specs.declared.error.ErrorKind.TheVariants as kind
use Rattle.ang_check_contest.specs.declared.score.Contender.{Contender}
use Rattle.ang_check_contest.specs.declared.score.Outcome.{Outcome}
use Rattle.ang_check_contest.specs.declared.score.Outcome.TheVariants as outcome
use Rattle.ang_check_contest.specs.Contest.{Entry}
use Rattle.ang_check_uses.specs.declared.uses.Callable.{Callable}
use Rattle.ang_check_uses.specs.declared.uses.Resolution.{Resolution}
use Rattle.ang_check_uses.specs.declared.uses.Resolution.TheVariants as resolution
use Rattle.ang_check_uses.specs.Uses.{called_at}

abbrev pub entry_of : Contender → Callable → Entry
entry_of t c = record { contender = t; params = c.candidate.params }

abbrev pub entry_in : Contender → Option Callable → List Entry
entry_in t None = []
entry_in t (Some c) = entry_of t c ∷ []

-- the functions of these contenders, by what one of them names, as entries
abbrev pub entries_by : (Contender → Option Callable) → List Contender → List Entry
entries_by by [] = []
entries_by by (t ∷ ts) = entry_in t (by t) ++ entries_by by ts

-- and as functions
abbrev pub callables_by : (Contender → Option Callable) → List Contender → List Callable
callables_by by [] = []
callables_by by (t ∷ ts) = option_to_list (by t) ++ callables_by by ts

-- what an outcome means, by what a contender names
abbrev pub meant_by : (Contender → Option Callable) → ErrorKind → Outcome → Resolution
meant_by by unviable outcome.NoViable = resolution.Refused unviable
meant_by by unviable outcome.Ambiguous = resolution.Refused kind.Ambiguous
meant_by by unviable (outcome.Best t) = called_at (by t)
