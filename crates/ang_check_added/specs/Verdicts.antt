-- Verdicts on the ranks of a candidate that is added, beside the least ones of its rivals: 0 is the least rank, or one where there is no least one, 1 a
-- lower rank, and 2 a higher one, or none.
use Rattle.std.specs.Prelude.{ℕ, ◌≡◌, ◌==◌, Bool, false, not, nat_lt, ◌&&◌, ◌||◌, if◌then◌else◌, List, [], ◌∷◌, drop, map, slice_index_or, Option, Some, None, Vec}
use Rattle.std.specs.declared.alloc.Global.{Global}
use Rattle.ang_types.specs.declared.arg_type.ArgType.{ArgType}
use Rattle.ang_types.specs.declared.candidate.Candidate.{Candidate}
use Rattle.ang_types.specs.Best.{is_best}
use Rattle.ang_types.specs.Ranks.{Ancestors}
use Rattle.ang_types.specs.Rivals.{least_at}
use Rattle.ang_names_known.specs.Kinds.{Kind, kinds_at}

abbrev pub verdict_of : Option ℕ → Option ℕ → ℕ
verdict_of None least = 2
verdict_of (Some r) None = 0
verdict_of (Some r) (Some m) = if nat_lt m r then 2 else (if nat_lt r m then 1 else 0)

-- those of one argument for all kinds
abbrev pub verdicts_of : List (Option ℕ) → Option ℕ → List ℕ
verdicts_of ranks least = map (λ (r : Option ℕ). verdict_of r least) ranks

-- those of each argument
abbrev pub verdicts_beside : List (List (Option ℕ)) → List (Option ℕ) → List (List ℕ)
verdicts_beside [] least = []
verdicts_beside (row ∷ rows) least = verdicts_of row (least_at least 0) ∷ verdicts_beside rows (drop 1 least)

abbrev pub verdicts_in : List (Vec ℕ Global) → List (List ℕ)
verdicts_in rows = map (λ (v : Vec ℕ Global). v.items) rows

-- the verdict on the kind of a number
abbrev pub verdict_at : List ℕ → ℕ → ℕ
verdict_at verdicts n = slice_index_or verdicts n 2

-- There is a number for each argument, no verdict on these kinds is 2, and some is 1, or the candidate is ahead without that.
abbrev pub wins_by : List (List ℕ) → List ℕ → Bool → Bool
wins_by [] [] ahead = ahead
wins_by [] (n ∷ ns) ahead = false
wins_by (row ∷ rows) [] ahead = false
wins_by (row ∷ rows) (n ∷ ns) ahead = not (verdict_at row n == 2) && wins_by rows ns (ahead || (verdict_at row n == 1))

-- They tell of each candidate, by numbers of its parameters' kinds, whether it is the best of all beside these others.
abbrev pub Judge : Ancestors → List Kind → List Candidate → List ArgType → List (List ℕ) → Bool → Type 0
Judge ancestors kinds candidates args rows ahead =
    (c : Candidate) (ns : List ℕ) → kinds_at kinds ns ≡ map Some c.params → wins_by rows ns ahead ≡ is_best ancestors (c ∷ candidates) args 0
