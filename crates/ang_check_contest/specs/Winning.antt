-- Whether one candidate more is the best of all, by the ranks of its arguments beside the least ones of the others.
use Rattle.std.specs.Prelude.{ℕ, Bool, false, not, ◌&&◌, ◌||◌, List, [], ◌∷◌, drop, Option, Some, None}
use Rattle.ang_types.specs.Best.{is_less}
use Rattle.ang_types.specs.Rivals.{least_at}
use Rattle.ang_check_contest.specs.Told.{ranks_at}

-- No rank is above the least one of its argument, and some rank is below it, or the candidate is ahead without that.
abbrev pub is_ahead : List ℕ → List (Option ℕ) → Bool → Bool
is_ahead [] least ahead = ahead
is_ahead (r ∷ ranks) least ahead =
    not (is_less (least_at least 0) (Some r)) && is_ahead ranks (drop 1 least) (ahead || is_less (Some r) (least_at least 0))

-- the same of ranks where each argument has one
abbrev pub wins_by : Option (List ℕ) → List (Option ℕ) → Bool → Bool
wins_by None least ahead = false
wins_by (Some ranks) least ahead = is_ahead ranks least ahead

-- the same by rows and numbers, where there are both
abbrev pub wins_if_told : Option (List (List (Option ℕ))) → Option (List ℕ) → List (Option ℕ) → Bool → Option Bool
wins_if_told None numbers least ahead = None
wins_if_told (Some rows) None least ahead = None
wins_if_told (Some rows) (Some ns) least ahead = Some (wins_by (ranks_at rows ns) least ahead)
