-- The best candidate as a value, for definitions that go on with it. `laws::best_says` says that it is the one of Overloads.
use Rattle.std.specs.Prelude.{ℕ, zero, suc, Bool, true, false, not, ◌==◌, ◌&&◌, ◌||◌, nat_lt, if◌then◌else◌, List, length, Option, Some, None, is_some}
use Rattle.ang_types.specs.declared.arg_type.ArgType.{ArgType}
use Rattle.ang_types.specs.declared.candidate.Candidate.{Candidate}
use Rattle.ang_types.specs.declared.candidate.Pick.{Pick}
use Rattle.ang_types.specs.declared.candidate.Pick.TheVariants.{One, NoViable, Ambiguous}
use Rattle.ang_types.specs.Ranks.{Ancestors}
use Rattle.ang_types.specs.Overloads.{Params, params_at, rank_at}

-- whether each number below n passes
abbrev pub all_below : (ℕ → Bool) → ℕ → Bool
all_below p zero = true
all_below p (suc n) = p n && all_below p n

-- whether some number below n passes
abbrev pub any_below : (ℕ → Bool) → ℕ → Bool
any_below p zero = false
any_below p (suc n) = p n || any_below p n

-- a number below n that passes
abbrev pub one_below : (ℕ → Bool) → ℕ → Option ℕ
one_below p zero = None
one_below p (suc n) = if p n then Some n else one_below p n

abbrev pub is_less : Option ℕ → Option ℕ → Bool
is_less (Some q) (Some r) = nat_lt q r
is_less _ _ = false

abbrev pub is_viable : Ancestors → Params → List ArgType → Bool
is_viable ancestors params args =
    (length params == length args) && all_below (λ k. is_some (rank_at ancestors params args k)) (length args)

abbrev pub has_less : Ancestors → Params → Params → List ArgType → Bool
has_less ancestors ps qs args =
    any_below (λ k. is_less (rank_at ancestors ps args k) (rank_at ancestors qs args k)) (length args)

abbrev pub is_better : Ancestors → Params → Params → List ArgType → Bool
is_better ancestors ps qs args = not (has_less ancestors qs ps args) && has_less ancestors ps qs args

abbrev pub is_viable_at : Ancestors → List Candidate → List ArgType → ℕ → Bool
is_viable_at ancestors candidates args i =
    nat_lt i (length candidates) && is_viable ancestors (params_at candidates i) args

-- not another viable candidate, or one that i is better than
abbrev pub yields : Ancestors → List Candidate → List ArgType → ℕ → ℕ → Bool
yields ancestors candidates args i j =
    (j == i) || (not (is_viable_at ancestors candidates args j)
    || is_better ancestors (params_at candidates i) (params_at candidates j) args)

abbrev pub is_best : Ancestors → List Candidate → List ArgType → ℕ → Bool
is_best ancestors candidates args i =
    is_viable_at ancestors candidates args i && all_below (yields ancestors candidates args i) (length candidates)

abbrev pub pick_of : Option ℕ → Bool → Pick
pick_of None viable = if viable then Ambiguous else NoViable
pick_of (Some i) viable = One i

-- What a call with these arguments means among these candidates.
unfoldable pub best_of : Ancestors → List Candidate → List ArgType → Pick
best_of ancestors candidates args =
    pick_of (one_below (is_best ancestors candidates args) (length candidates))
    (any_below (is_viable_at ancestors candidates args) (length candidates))
