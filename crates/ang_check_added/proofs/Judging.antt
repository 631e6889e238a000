-- What verdicts say of a candidate that is added: whether it is the best of all.
use Rattle.std.specs.Prelude.{ℕ, Bool, true, false, not, nat_lt, ◌≡◌, ◌≢◌, ◌<◌, ◌==◌, ◌&&◌, ◌||◌, if◌then◌else◌, List, [], ◌∷◌, drop, length, map, Option, Some, None, Vec}
use Rattle.std.specs.declared.alloc.Global.{Global}
use Rattle.std.proofs.Common.{arith, refl, ap, sym, zero, suc, drop-cons, get_or, add-one, ◌+◌, ◌∙◌}
use Rattle.ang_types.specs.declared.arg_type.ArgType.{ArgType}
use Rattle.ang_types.specs.declared.candidate.Candidate.{Candidate}
use Rattle.ang_types.specs.Best.{is_best, is_less}
use Rattle.ang_types.specs.Ranks.{Ancestors}
use Rattle.ang_types.specs.Rivals.{AreRivals, least_at}
use Rattle.ang_names_known.specs.Kinds.{Kind, kinds_at}
use Rattle.ang_check_contest.specs.Contest.{with_rank}
use Rattle.ang_check_contest.specs.Told.{rank_in, ranks_at, told_ranks}
use Rattle.ang_check_contest.specs.Winning.{wins_by as wins_by_ranks}
use Rattle.ang_check_contest.proofs.ToldLaws.{ranks_told}
use Rattle.ang_check_contest.proofs.WinLaws.{one_rank_more, wins_as}
use Rattle.ang_check_added.specs.Verdicts.{verdict_at, verdict_of, verdicts_beside, verdicts_in, verdicts_of, wins_by}

-- ---- verdicts and ranks

at_verdict : (row : List (Option ℕ)) (n : ℕ) (m : Option ℕ) → verdict_at (verdicts_of row m) n ≡ verdict_of (rank_in row n) m
at_verdict [] zero m = refl
at_verdict [] (suc n) m = refl
at_verdict (r ∷ row) zero m = refl
at_verdict (r ∷ row) (suc n) m = at_verdict row n m

-- `rest` is what comes of the arguments after this one
module _ (rest : Bool → Bool) (ahead : Bool) where
  both_ways : (above below : Bool) → (not above && rest (ahead || below))
      ≡ (not ((if above then 2 else (if below then 1 else 0)) == 2) && rest (ahead || ((if above then 2 else (if below then 1 else 0)) == 1)))
  both_ways true below = refl
  both_ways false true = refl
  both_ways false false = refl

  by_least : (r : ℕ) (m : Option ℕ) → (not (is_less m (Some r)) && rest (ahead || is_less (Some r) m))
      ≡ (not (verdict_of (Some r) m == 2) && rest (ahead || (verdict_of (Some r) m == 1)))
  by_least r None = refl
  by_least r (Some m) = both_ways (nat_lt m r) (nat_lt r m)

  by_rank : (q : Option ℕ) (o : Option (List ℕ)) (least : List (Option ℕ)) → ((b : Bool) → wins_by_ranks o (drop 1 least) b ≡ rest b)
      → wins_by_ranks (with_rank q o) least ahead ≡ (not (verdict_of q (least_at least 0) == 2) && rest (ahead || (verdict_of q (least_at least 0) == 1)))
  by_rank None o least h = refl
  by_rank (Some r) o least h =
      one_rank_more r o least ahead
      ∙ ap (λ b. not (is_less (least_at least 0) (Some r)) && b) (h (ahead || is_less (Some r) (least_at least 0)))
      ∙ by_least r (least_at least 0)

verdicts_say : (rows : List (List (Option ℕ))) (least : List (Option ℕ)) (ns : List ℕ) (ahead : Bool)
    → wins_by_ranks (ranks_at rows ns) least ahead ≡ wins_by (verdicts_beside rows least) ns ahead
verdicts_say [] least [] ahead = refl
verdicts_say [] least (n ∷ ns) ahead = refl
verdicts_say (row ∷ rows) least [] ahead = refl
verdicts_say (row ∷ rows) least (n ∷ ns) ahead =
    let rest : Bool → Bool = wins_by (verdicts_beside rows (drop 1 least)) ns in
    by_rank rest ahead (rank_in row n) (ranks_at rows ns) least (verdicts_say rows (drop 1 least) ns)
    ∙ ap (λ k. not (k == 2) && rest (ahead || (k == 1))) (sym (at_verdict row n (least_at least 0)))

pub judged : (l : Ancestors) (kinds : List Kind) (cs : List Candidate) (args : List ArgType) (least : List (Option ℕ)) (tied : Bool) (c : Candidate) (ns : List ℕ)
    → kinds_at kinds ns ≡ map Some c.params → AreRivals (least, tied) l cs args
    → wins_by (verdicts_beside (told_ranks l kinds args) least) ns (not tied) ≡ is_best l (c ∷ cs) args 0
judged l kinds cs args least tied c ns are rivals =
    wins_as (wins_by (verdicts_beside (told_ranks l kinds args) least) ns (not tied)) l c.params args cs least tied c
    (sym (verdicts_say (told_ranks l kinds args) least ns (not tied)) ∙ ap (λ o. wins_by_ranks o least (not tied)) (ranks_told l kinds args ns c.params are))
    rivals refl

-- ---- verdicts from place to place

nothing_after : (b : Bool) → (b && false) ≡ false
nothing_after true = refl
nothing_after false = refl

-- where there is not one number for each argument
pub other_number : (rows : List (Vec ℕ Global)) (ns : List ℕ) (ahead : Bool) → length ns ≢ length rows → wins_by (verdicts_in rows) ns ahead ≡ false
other_number [] [] ahead ne = absurd (ne refl)
other_number [] (n ∷ ns) ahead ne = refl
other_number (v ∷ rows) [] ahead ne = refl
other_number (v ∷ rows) (n ∷ ns) ahead ne =
    ap (λ b. not (verdict_at v.items n == 2) && b) (other_number rows ns (ahead || (verdict_at v.items n == 1)) (λ e. ne (ap suc e)))
    ∙ nothing_after (not (verdict_at v.items n == 2))

-- what is left from a place on
abbrev pub from_place : List (Vec ℕ Global) → List ℕ → ℕ → Bool → Bool
from_place rows ns p ahead = wins_by (verdicts_in (drop p rows)) (drop p ns) ahead

pub goes_on : (rows : List (Vec ℕ Global)) (ns : List ℕ) (p : ℕ) (v : Vec ℕ Global) (ahead : Bool) → p < length rows → length ns ≡ length rows → v ≡ get_or rows p v
    → from_place rows ns p ahead ≡ (not (verdict_at v.items (get_or ns p 0) == 2) && from_place rows ns (p + 1) (ahead || (verdict_at v.items (get_or ns p 0) == 1)))
goes_on rows ns p v ahead lt same is_v =
    let k = verdict_at v.items (get_or ns p 0) in
    let row : drop p rows ≡ v ∷ drop (suc p) rows = drop-cons rows p v lt ∙ ap (λ x. x ∷ drop (suc p) rows) (sym is_v) in
    let number : drop p ns ≡ get_or ns p 0 ∷ drop (suc p) ns = drop-cons ns p 0 (omega (arith, lt, same)) in
    (λ i. wins_by (verdicts_in (row i)) (number i) ahead)
    ∙ ap (λ q. not (k == 2) && from_place rows ns q (ahead || (k == 1))) (sym (add-one p))
