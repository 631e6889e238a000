-- How the ranks of arguments stand beside the least ones, as a number: 0 is the least rank, 1 a higher one, 2 a lower one, or one where there is
-- no least one, and 3 none.
use Rattle.std.specs.Prelude.{ℕ, ◌≡◌, ◌≢◌, List, [], ◌∷◌, nat_lt, if◌then◌else◌, drop, map, max, slice_get, Option, Some, None, Vec}
use Rattle.std.specs.declared.alloc.Global.{Global}
use Rattle.ang_check_contest.specs.Contest.{Standing}
use Rattle.ang_check_contest.specs.Told.{Telling, told_ranks}

abbrev pub level_of : Option ℕ → Option ℕ → ℕ
level_of None least = 3
level_of (Some r) None = 2
level_of (Some r) (Some m) = if nat_lt r m then 2 else (if nat_lt m r then 1 else 0)

-- those of one argument for all kinds
abbrev pub levels_of : List (Option ℕ) → Option ℕ → List ℕ
levels_of ranks least = map (λ (r : Option ℕ). level_of r least) ranks

-- those of each argument
abbrev pub levels_beside : List (List (Option ℕ)) → List ℕ → List (List ℕ)
levels_beside [] least = []
levels_beside (row ∷ rows) least = levels_of row (slice_get least 0) ∷ levels_beside rows (drop 1 least)

abbrev pub levels_in : List (Vec ℕ Global) → List (List ℕ)
levels_in rows = map (λ (v : Vec ℕ Global). v.items) rows

-- the greater one, if there are both
abbrev pub greater : Option ℕ → Option ℕ → Option ℕ
greater None other = None
greater (Some level) None = None
greater (Some level) (Some other) = Some (max level other)

-- the greatest of the levels for the kinds of these numbers, where there is one for each argument
abbrev pub worst : List (List ℕ) → List ℕ → Option ℕ
worst [] [] = Some 0
worst [] (n ∷ ns) = None
worst (levels ∷ rows) [] = None
worst (levels ∷ rows) (n ∷ ns) = greater (slice_get levels n) (worst rows ns)

-- ---- a contest with levels

-- the least ranks, and none where no candidate is viable
abbrev pub known_ranks : Option (List ℕ) → List ℕ
known_ranks None = []
known_ranks (Some ranks) = ranks

-- levels that are those of a contest's ranks, or left out
abbrev pub AreLevels : Telling → Standing → List (List ℕ) → Type 0
AreLevels t s levels = levels ≢ [] → levels ≡ levels_beside (told_ranks t.ancestors t.kinds t.args) (known_ranks s.least)

-- of what ranks are told, and how the contest stands
pub record ToldStanding : Type 0 where
  pub telling : Telling
  pub standing : Standing
