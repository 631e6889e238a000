-- What the ranks of one candidate more say beside the least ones of the others: whether it is the best of all.
use Rattle.std.specs.Prelude.{ℕ, Bool, true, false, not, ◌≡◌, ◌≢◌, ◌<◌, ◌&&◌, ◌||◌, ◌⊎◌, List, [], ◌∷◌, drop, length, slice_get, Option, Some, None, IsSome, Decides, Vec}
use Rattle.std.specs.declared.alloc.Global.{Global}
use Rattle.std.proofs.Common.{arith, refl, ap, sym, subst, inl, inr, zero, suc, drop-cons, get_or, add-one, ◌+◌, ◌∙◌}
use Rattle.std.proofs.lemmas.Bool.Decides.{Decides-and, Decides-like, Decides-ltb, Decides-not}
use Rattle.ang_types.specs.declared.arg_type.ArgType.{ArgType}
use Rattle.ang_types.specs.declared.candidate.Candidate.{Candidate}
use Rattle.ang_types.specs.Best.{is_best, is_less}
use Rattle.ang_types.specs.Overloads.{IsLess, Params}
use Rattle.ang_types.specs.Ranks.{Ancestors}
use Rattle.ang_types.specs.Rivals.{AreRivals, IsAbreast, least_at}
use Rattle.ang_types.proofs.RivalLaws.{tested}
use Rattle.ang_check_contest.specs.Contest.{ranks_of, with_rank}
use Rattle.ang_check_contest.specs.Told.{TellsRanks, rank_in, ranks_at, rows_of}
use Rattle.ang_check_contest.specs.Winning.{is_ahead, wins_by, wins_if_told}
use Rattle.ang_check_contest.proofs.ContestLaws.{RanksSay, ranks_say, there}

-- ---- one rank more in front

nothing_after : (b : Bool) → false ≡ (b && false)
nothing_after true = refl
nothing_after false = refl

pub one_rank_more : (r : ℕ) (o : Option (List ℕ)) (least : List (Option ℕ)) (ahead : Bool)
    → wins_by (with_rank (Some r) o) least ahead ≡ (not (is_less (least_at least 0) (Some r)) && wins_by o (drop 1 least) (ahead || is_less (Some r) (least_at least 0)))
one_rank_more r None least ahead = nothing_after (not (is_less (least_at least 0) (Some r)))
one_rank_more r (Some ranks) least ahead = refl

-- ---- ranks from place to place

-- where there is not one number for each argument
pub other_number : (rows : List (Vec (Option ℕ) Global)) (ns : List ℕ) (least : List (Option ℕ)) (ahead : Bool) → length ns ≢ length rows
    → wins_by (ranks_at (rows_of rows) ns) least ahead ≡ false
other_number rows ns least ahead ne = ap (λ o. wins_by o least ahead) (lacking rows ns ne)
  where
    none_left : (o : Option ℕ) → with_rank o None ≡ None
    none_left None = refl
    none_left (Some r) = refl

    lacking : (rows : List (Vec (Option ℕ) Global)) (ns : List ℕ) → length ns ≢ length rows → ranks_at (rows_of rows) ns ≡ None
    lacking [] [] ne = absurd (ne refl)
    lacking [] (n ∷ ns) ne = refl
    lacking (v ∷ rows) [] ne = refl
    lacking (v ∷ rows) (n ∷ ns) ne = ap (with_rank (rank_in v.items n)) (lacking rows ns (λ e. ne (ap suc e))) ∙ none_left (rank_in v.items n)

first_left : (least : List (Option ℕ)) (p : ℕ) → least_at (drop p least) 0 ≡ least_at least p
first_left least zero = refl
first_left [] (suc p) = refl
first_left (m ∷ least) (suc p) = first_left least p

rest_left : (least : List (Option ℕ)) (p : ℕ) → drop 1 (drop p least) ≡ drop (suc p) least
rest_left [] zero = refl
rest_left [] (suc p) = refl
rest_left (m ∷ least) zero = refl
rest_left (m ∷ least) (suc p) = rest_left least p

-- what is left from a place on
abbrev pub from_place : List (Vec (Option ℕ) Global) → List ℕ → List (Option ℕ) → ℕ → Bool → Bool
from_place rows ns least p ahead = wins_by (ranks_at (rows_of (drop p rows)) (drop p ns)) (drop p least) ahead

module _ (rows : List (Vec (Option ℕ) Global)) (ns : List ℕ) (least : List (Option ℕ)) (p : ℕ) (v : Vec (Option ℕ) Global) (lt : p < length rows)
    (same : length ns ≡ length rows) (is_v : v ≡ get_or rows p v) where
  abbrev ranks_after : Option (List ℕ)
  ranks_after = ranks_at (rows_of (drop (suc p) rows)) (drop (suc p) ns)

  begins : (ahead : Bool) → from_place rows ns least p ahead ≡ wins_by (with_rank (rank_in v.items (get_or ns p 0)) ranks_after) (drop p least) ahead
  begins ahead =
      let row : drop p rows ≡ v ∷ drop (suc p) rows = drop-cons rows p v lt ∙ ap (λ x. x ∷ drop (suc p) rows) (sym is_v) in
      let number : drop p ns ≡ get_or ns p 0 ∷ drop (suc p) ns = drop-cons ns p 0 (omega (arith, lt, same)) in
      λ i. wins_by (ranks_at (rows_of (row i)) (number i)) (drop p least) ahead

  pub rank_missing : (ahead : Bool) → rank_in v.items (get_or ns p 0) ≡ None → from_place rows ns least p ahead ≡ false
  rank_missing ahead e = begins ahead ∙ ap (λ q. wins_by (with_rank q ranks_after) (drop p least) ahead) e

  pub rank_there : (ahead : Bool) (r : ℕ) → rank_in v.items (get_or ns p 0) ≡ Some r
      → from_place rows ns least p ahead
      ≡ (not (is_less (least_at least p) (Some r)) && from_place rows ns least (p + 1) (ahead || is_less (Some r) (least_at least p)))
  rank_there ahead r e =
      begins ahead
      ∙ ap (λ q. wins_by (with_rank q ranks_after) (drop p least) ahead) e
      ∙ one_rank_more r ranks_after (drop p least) ahead
      ∙ (λ i. not (is_less (first_left least p i) (Some r)) && wins_by ranks_after (rest_left least p i) (ahead || is_less (Some r) (first_left least p i)))
      ∙ ap (λ q. not (is_less (least_at least p) (Some r)) && from_place rows ns least q (ahead || is_less (Some r) (least_at least p))) (sym (add-one p))

-- where arguments are lacking
pub lacking_wins_not : (l : Ancestors) (ps : Params) (args : List ArgType) (least : List (Option ℕ)) (ahead : Bool) → length args ≡ 0 → 0 < length ps → wins_by (ranks_of l ps args) least ahead ≡ false
lacking_wins_not l [] args least ahead e lt = absurd (omega (arith, lt))
lacking_wins_not l (p ∷ ps) [] least ahead e lt = refl
lacking_wins_not l (p ∷ ps) (a ∷ args) least ahead e lt = absurd (omega (arith, e))

-- ---- what the test says

less-Decides : (q r : Option ℕ) → Decides (is_less q r) (IsLess q r)
less-Decides None r = (λ e. cc, λ h. absurd h)
less-Decides (Some q) None = (λ e. cc, λ h. absurd h)
less-Decides (Some q) (Some r) = Decides-ltb q r

at_next : (least : List (Option ℕ)) (k : ℕ) → least_at least (suc k) ≡ least_at (drop 1 least) k
at_next [] zero = refl
at_next [] (suc k) = refl
at_next (m ∷ least) k = refl

record Abreast (ranks : List ℕ) (least : List (Option ℕ)) (ahead : Bool) : Type 0 where
  none_above : (k : ℕ) → k < length ranks → ¬ IsLess (least_at least k) (slice_get ranks k)
  one_below : (ahead ≡ true) ⊎ ((k : ℕ) × (k < length ranks) × IsLess (slice_get ranks k) (least_at least k))

or_first : (b c : Bool) (A : Type 0) → (c ≡ true → A) → (b || c) ≡ true → (b ≡ true) ⊎ A
or_first true c A h e = inl refl
or_first false c A h e = inr (h e)

or_second : (b c : Bool) → c ≡ true → (b || c) ≡ true
or_second true c e = refl
or_second false c e = e

ahead-Decides : (ranks : List ℕ) (least : List (Option ℕ)) (ahead : Bool) → Decides (is_ahead ranks least ahead) (Abreast ranks least ahead)
ahead-Decides [] least ahead = (
  λ e. record { none_above = λ k lt. absurd (omega (arith, lt)); one_below = inl e },
  λ a. elim a.one_below [ inl e ↦ e | inr w ↦ absurd (omega (arith, w.1)) ],
)
ahead-Decides (r ∷ ranks) least ahead =
    Decides-like _ to from
    (Decides-and _ _ (Decides-not _ (less-Decides (least_at least 0) (Some r)))
    (ahead-Decides ranks (drop 1 least) (ahead || is_less (Some r) (least_at least 0))))
  where
    below : Bool
    below = is_less (Some r) (least_at least 0)

    -- some rank from the second on is below
    Later : Type 0
    Later = (k : ℕ) × (k < length ranks) × IsLess (slice_get ranks k) (least_at (drop 1 least) k)

    One : Type 0
    One = (k : ℕ) × (k < length (r ∷ ranks)) × IsLess (slice_get (r ∷ ranks) k) (least_at least k)

    later : Later → One
    later w = (suc w.0, omega (arith, w.1), subst (IsLess (slice_get ranks w.0)) (sym (at_next least w.0)) w.2)

    sooner : (k : ℕ) → k < length (r ∷ ranks) → IsLess (slice_get (r ∷ ranks) k) (least_at least k) → ((ahead || below) ≡ true) ⊎ Later
    sooner zero lt less = inl (or_second ahead below ((less-Decides (Some r) (least_at least 0)).1 less))
    sooner (suc k) lt less = inr (k, omega (arith, lt), subst (IsLess (slice_get ranks k)) (at_next least k) less)

    to : ((¬ IsLess (least_at least 0) (Some r)) × Abreast ranks (drop 1 least) (ahead || below)) → Abreast (r ∷ ranks) least ahead
    to h = record {
      none_above = each;
      one_below = elim h.1.one_below [
        | inl e ↦ or_first ahead below One (λ is. (0, omega arith, (less-Decides (Some r) (least_at least 0)).0 is)) e
        | inr w ↦ inr (later w)
      ];
    }
      where
        each : (k : ℕ) → k < length (r ∷ ranks) → ¬ IsLess (least_at least k) (slice_get (r ∷ ranks) k)
        each zero lt = h.0
        each (suc k) lt = λ less. h.1.none_above k (omega (arith, lt)) (subst (λ m. IsLess m (slice_get ranks k)) (at_next least k) less)

    from : Abreast (r ∷ ranks) least ahead → (¬ IsLess (least_at least 0) (Some r)) × Abreast ranks (drop 1 least) (ahead || below)
    from a = (
      a.none_above 0 (omega arith),
      record {
        none_above = λ k lt less. a.none_above (suc k) (omega (arith, lt)) (subst (λ m. IsLess m (slice_get ranks k)) (sym (at_next least k)) less);
        one_below = elim a.one_below [ inl e ↦ inl (ap (λ b. b || below) e) | inr w ↦ sooner w.0 w.1 w.2 ];
      },
    )

-- ---- and that is what the best of all is

module _ (l : Ancestors) (ps : Params) (args : List ArgType) (least : List (Option ℕ)) (tied : Bool) where
  module _ (ranks : List ℕ) (says : RanksSay l ps args (Some ranks)) where
    abreast : Abreast ranks least (not tied) → IsAbreast l ps args (least, tied)
    abreast a = record {
      viable = record {
        equal_number = says.0;
        ranked = λ k lt. subst IsSome (sym (says.2 k)) (there ranks k (omega (arith, lt, says.1)));
      };
      none_above = λ h. a.none_above h.0 (omega (arith, h.1, says.1)) (subst (IsLess (least_at least h.0)) (says.2 h.0) h.2);
      one_below = λ t. elim a.one_below [
        | inl e ↦ let differs : not tied ≡ false = ap not t in cc
        | inr w ↦ (w.0, omega (arith, w.1, says.1), subst (λ x. IsLess x (least_at least w.0)) (sym (says.2 w.0)) w.2)
      ];
    }

    from_abreast : IsAbreast l ps args (least, tied) → Abreast ranks least (not tied)
    from_abreast a = record {
      none_above = λ k lt less. a.none_above (k, omega (arith, lt, says.1), subst (IsLess (least_at least k)) (sym (says.2 k)) less);
      one_below = by tied refl;
    }
      where
        by : (t : Bool) → tied ≡ t → (not tied ≡ true) ⊎ ((k : ℕ) × (k < length ranks) × IsLess (slice_get ranks k) (least_at least k))
        by true e = let w = a.one_below e in inr (w.0, omega (arith, w.1, says.1), subst (λ x. IsLess x (least_at least w.0)) (says.2 w.0) w.2)
        by false e = inl (ap not e)

  wins-Decides : (o : Option (List ℕ)) → RanksSay l ps args o → Decides (wins_by o least (not tied)) (IsAbreast l ps args (least, tied))
  wins-Decides None says = (λ e. cc, λ a. absurd (says a.viable))
  wins-Decides (Some ranks) says = Decides-like _ (abreast ranks says) (from_abreast ranks says) (ahead-Decides ranks least (not tied))

pub wins_as : (b : Bool) (l : Ancestors) (ps : Params) (args : List ArgType) (cs : List Candidate) (least : List (Option ℕ)) (tied : Bool) (c : Candidate)
    → b ≡ wins_by (ranks_of l ps args) least (not tied) → AreRivals (least, tied) l cs args → c.params ≡ ps → b ≡ is_best l (c ∷ cs) args 0
wins_as b l ps args cs least tied c e rivals is =
    e ∙ tested (wins_by (ranks_of l ps args) least (not tied)) l ps cs args (least, tied) (wins-Decides l ps args least tied (ranks_of l ps args) (ranks_say l ps args)) rivals c is

-- what is told by rows and numbers
pub told_wins : (l : Ancestors) (ps : Params) (args : List ArgType) (table : Option (List (List (Option ℕ)))) (numbers : Option (List ℕ)) (least : List (Option ℕ)) (ahead won : Bool)
    → TellsRanks l ps args table numbers → wins_if_told table numbers least ahead ≡ Some won → won ≡ wins_by (ranks_of l ps args) least ahead
told_wins l ps args None numbers least ahead won told e = cc
told_wins l ps args (Some rows) None least ahead won told e = cc
told_wins l ps args (Some rows) (Some ns) least ahead won told e =
    let same : wins_by (ranks_at rows ns) least ahead ≡ won = cc in sym same ∙ ap (λ o. wins_by o least ahead) told
