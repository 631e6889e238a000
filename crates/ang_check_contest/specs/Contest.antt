-- The best of several candidates, each of which is looked at once, as it comes. Of those that came are kept the least rank of each argument
-- among the viable ones, and the one that has all of these. The best is the viable one that has the least rank of each argument, if no
-- other one has them all: it is what `best_of` picks (`Contest::outcome`).
use Rattle.std.specs.Prelude.{ℕ, ◌≡◌, Bool, true, false, if◌then◌else◌, nat_lt, List, [], ◌∷◌, ◌+◌, map, slice_get, Option, Some, None, min}
use Rattle.ang_types.specs.declared.arg_type.ArgType.{ArgType}
use Rattle.ang_types.specs.declared.candidate.Candidate.{Candidate}
use Rattle.ang_types.specs.declared.candidate.Pick.{Pick}
use Rattle.ang_types.specs.declared.candidate.Pick.TheVariants as pick
use Rattle.ang_types.specs.Overloads.{Params}
use Rattle.ang_types.specs.Ranks.{Ancestors, argument_rank}
use Rattle.ang_check_contest.specs.declared.score.Contender.{Contender}
use Rattle.ang_check_contest.specs.declared.score.Outcome.{Outcome}
use Rattle.ang_check_contest.specs.declared.score.Outcome.TheVariants as outcome

-- ---- ranks

abbrev pub with_rank : Option ℕ → Option (List ℕ) → Option (List ℕ)
with_rank None ranks = None
with_rank (Some r) None = None
with_rank (Some r) (Some ranks) = Some (r ∷ ranks)

-- the rank of each argument, where there is a parameter for each argument, and each argument has a rank
abbrev pub ranks_of : Ancestors → Params → List ArgType → Option (List ℕ)
ranks_of ancestors [] [] = Some []
ranks_of ancestors [] (a ∷ args) = None
ranks_of ancestors (p ∷ ps) [] = None
ranks_of ancestors (p ∷ ps) (a ∷ args) = with_rank (argument_rank ancestors p.0 p.1 a) (ranks_of ancestors ps args)

-- some rank is less than the other one of its argument
abbrev pub has_lower : List ℕ → List ℕ → Bool
has_lower [] others = false
has_lower (r ∷ ranks) [] = false
has_lower (r ∷ ranks) (o ∷ others) = if nat_lt r o then true else has_lower ranks others

-- the lesser rank of each argument
abbrev pub lesser_ranks : List ℕ → List ℕ → List ℕ
lesser_ranks [] others = []
lesser_ranks (r ∷ ranks) [] = []
lesser_ranks (r ∷ ranks) (o ∷ others) = min r o ∷ lesser_ranks ranks others

-- ---- what is kept

-- The least rank of each argument among the viable ones, where one is viable; the first of those that have all of these; whether another one
-- has them too; and whether none was entered.
pub record Standing : Type 0 where
  pub least : Option (List ℕ)
  pub front : Option Contender
  pub tied : Bool
  pub empty : Bool

-- of no candidate
abbrev pub fresh : Standing
fresh = record { least = None; front = None; tied = false; empty = true }

-- a candidate that has just the least ranks
abbrev pub met : Standing → Contender → Option Contender → Standing
met s t None = record s { front = Some t; tied = false; empty = false }
met s t (Some first) = record s { tied = true; empty = false }

-- one that alone has the least ranks
abbrev pub led : Contender → List ℕ → Standing
led t ranks = record { least = Some ranks; front = Some t; tied = false; empty = false }

-- one that has some of the least ranks and not the others, so that none has all
abbrev pub crossed : List ℕ → List ℕ → Standing
crossed ranks least = record { least = Some (lesser_ranks ranks least); front = None; tied = false; empty = false }

-- a candidate with these ranks, of which some are lower than the least ones, and some are higher
abbrev pub compared : Standing → Contender → List ℕ → List ℕ → Bool → Bool → Standing
compared s t ranks least true true = crossed ranks least
compared s t ranks least true false = led t ranks
compared s t ranks least false true = record s { empty = false }
compared s t ranks least false false = met s t s.front

-- one that changes neither the least ranks nor who has them
abbrev pub passed : Standing → Standing
passed s = record s { empty = false }

abbrev pub entered_viable : Standing → Contender → List ℕ → Option (List ℕ) → Standing
entered_viable s t ranks None = led t ranks
entered_viable s t ranks (Some least) = compared s t ranks least (has_lower ranks least) (has_lower least ranks)

abbrev pub entered_with : Standing → Contender → Option (List ℕ) → Standing
entered_with s t None = record s { empty = false }
entered_with s t (Some ranks) = entered_viable s t ranks s.least

-- one candidate more, with these parameters, for these arguments
unfoldable pub entered : Ancestors → List ArgType → Standing → Contender → Params → Standing
entered ancestors args s t params = entered_with s t (ranks_of ancestors params args)

-- a candidate: what names it, and its parameters
pub record Entry : Type 0 where
  pub contender : Contender
  pub params : Params

-- these candidates more, in order
abbrev pub after : Ancestors → List ArgType → Standing → List Entry → Standing
after ancestors args s [] = s
after ancestors args s (e ∷ es) = after ancestors args (entered ancestors args s e.contender e.params) es

-- ---- what comes of it

abbrev pub outcome_with : Option Contender → Bool → Outcome
outcome_with None tied = outcome.Ambiguous
outcome_with (Some t) true = outcome.Ambiguous
outcome_with (Some t) false = outcome.Best t

abbrev pub outcome_by : Option (List ℕ) → Option Contender → Bool → Outcome
outcome_by None front tied = outcome.NoViable
outcome_by (Some least) front tied = outcome_with front tied

unfoldable pub outcome_of : Standing → Outcome
outcome_of s = outcome_by s.least s.front s.tied

abbrev pub candidate_of : Entry → Candidate
candidate_of e = record { params = e.params }

abbrev pub chosen_at : Option Entry → Outcome
chosen_at None = outcome.Ambiguous
chosen_at (Some e) = outcome.Best e.contender

-- the contender of a pick
abbrev pub chosen : List Entry → Pick → Outcome
chosen es pick.NoViable = outcome.NoViable
chosen es pick.Ambiguous = outcome.Ambiguous
chosen es (pick.One i) = chosen_at (slice_get es i)

abbrev pub is_none_viable : Outcome → Bool
is_none_viable outcome.NoViable = true
is_none_viable outcome.Ambiguous = false
is_none_viable (outcome.Best t) = false

-- contenders by the places of a list, from n on
abbrev pub placed : {A : Type 0} → (ℕ → Contender) → ℕ → List A → List Contender
placed make n [] = []
placed make n (x ∷ xs) = make n ∷ placed make (n + 1) xs

-- how the contest of these candidates stands, for these arguments
pub record IsContest (ancestors : Ancestors) (candidates : List Candidate) (args : List ArgType) (standing : Standing) : Type 0 where
  pub entries : List Entry
  pub taken_in : standing ≡ after ancestors args fresh entries
  pub are : map candidate_of entries ≡ candidates
