-- What the greatest of a candidate's levels says of its ranks, and so of what comes of it.
use Rattle.std.proofs.Common.{◌≡◌, ◌≢◌, ◌⊎◌, inl, inr, ℕ, Bool, true, false, List, [], ◌∷◌, map, length, Option, Some, None, refl, ap, sym, subst, suc, drop, drop-cons, get_or, add-one, ◌+◌, ◌∙◌, arith}
use Rattle.std.specs.Prelude.{◌<◌, slice_get, option_map, nat_lt, if◌then◌else◌, max, Vec}
use Rattle.std.specs.declared.alloc.Global.{Global}
use Rattle.std.proofs.lemmas.Option.{same_Some, slice_get-map}
use Rattle.ang_types.specs.declared.arg_type.ArgType.{ArgType}
use Rattle.ang_types.specs.Overloads.{Params}
use Rattle.ang_types.specs.Ranks.{Ancestors, argument_rank}
use Rattle.ang_names_known.specs.Kinds.{Kind, kinds_at}
use Rattle.ang_check_contest.specs.declared.score.Contender.{Contender}
use Rattle.ang_check_contest.specs.Contest.{Standing, compared, entered, entered_viable, entered_with, has_lower, met, passed, ranks_of, with_rank}
use Rattle.ang_check_contest.specs.Told.{Telling, in_place, rank_in, ranks_at, told_ranks}
use Rattle.ang_check_contest.specs.Levels.{AreLevels, greater, known_ranks, level_of, levels_beside, levels_in, levels_of, worst}
use Rattle.ang_check_contest.proofs.ToldLaws.{ranks_told}

-- ---- ranks

-- no rank is lower, and some is higher or none is
abbrev Compares : Option (List ℕ) → List ℕ → Bool → Type 0
Compares None least higher = ⊥
Compares (Some ranks) least higher = (has_lower ranks least ≡ false) × (has_lower least ranks ≡ higher)

-- what the greatest level says of the ranks
record LevelSays (k : ℕ) (o : Option (List ℕ)) (least : List ℕ) : Type 0 where
  if_none : 2 < k → o ≡ None
  if_higher : k ≡ 1 → Compares o least true
  if_least : k ≡ 0 → Compares o least false

abbrev Says : Option ℕ → Option (List ℕ) → List ℕ → Type 0
Says None o least = o ≡ None
Says (Some k) o least = LevelSays k o least

low : (j k : ℕ) → max j k ≡ 1 → (k ≡ 0) ⊎ (k ≡ 1)
low j k e = grind (arith, e)

-- one argument more in front, which has no rank
no_rank : (k : ℕ) (o : Option (List ℕ)) (least : List ℕ) → LevelSays (max 3 k) (with_rank None o) least
no_rank k o least = record { if_none = λ e. refl; if_higher = λ e. absurd (omega (arith, e)); if_least = λ e. absurd (omega (arith, e)) }

-- one for which there is no least rank
no_least : (r k : ℕ) (o : Option (List ℕ)) (least : List ℕ) → LevelSays k o least → LevelSays (max 2 k) (with_rank (Some r) o) []
no_least r k o least says = record {
  if_none = λ e. let over : 2 < k = omega (arith, e) in ap (with_rank (Some r)) (says.if_none over);
  if_higher = λ e. absurd (omega (arith, e));
  if_least = λ e. absurd (omega (arith, e));
}

not_viable : (j k : ℕ) (least : List ℕ) → LevelSays k None least → max j k ≡ 1 → ⊥
not_viable j k least says e = elim (low j k e) [ inl z ↦ says.if_least z | inr h ↦ says.if_higher h ]

-- one that has a rank and a least one
one_more : (r m k : ℕ) (o : Option (List ℕ)) (least : List ℕ) → LevelSays k o least → LevelSays (max (level_of (Some r) (Some m)) k) (with_rank (Some r) o) (m ∷ least)
one_more r m k None least says = record {
  if_none = λ e. refl;
  if_higher = λ e. absurd (not_viable (level_of (Some r) (Some m)) k least says e);
  if_least = λ e. let least_too : k ≡ 0 = omega (arith, e) in absurd (says.if_least least_too);
}
one_more r m k (Some ranks) least says =
    let all = by (nat_lt r m) (nat_lt m r) in
    record { if_none = all.0; if_higher = all.1; if_least = all.2 }
  where
    neither : 2 < k → ⊥
    neither e = let no : Some ranks ≡ None = says.if_none e in cc

    -- whether the first is lower and whether it is higher
    Both : Bool → Bool → Bool → Type 0
    Both b c higher = ((if b then true else has_lower ranks least) ≡ false) × ((if c then true else has_lower least ranks) ≡ higher)

    either : (k ≡ 0) ⊎ (k ≡ 1) → has_lower ranks least ≡ false
    either (inl e) = (says.if_least e).0
    either (inr e) = (says.if_higher e).0

    by : (b c : Bool) → (2 < max (if b then 2 else (if c then 1 else 0)) k → Some (r ∷ ranks) ≡ None)
        × (max (if b then 2 else (if c then 1 else 0)) k ≡ 1 → Both b c true) × (max (if b then 2 else (if c then 1 else 0)) k ≡ 0 → Both b c false)
    by true c = (λ e. absurd (neither (omega (arith, e))), λ e. absurd (omega (arith, e)), λ e. absurd (omega (arith, e)))
    by false true = (λ e. absurd (neither (omega (arith, e))), λ e. (either (low 1 k e), refl), λ e. absurd (omega (arith, e)))
    by false false = (λ e. absurd (neither (omega (arith, e))), λ e. says.if_higher (omega (arith, e)), λ e. says.if_least (omega (arith, e)))

-- one whose least rank is the first of these
with_level : (q : Option ℕ) (k : ℕ) (o : Option (List ℕ)) (least : List ℕ) → LevelSays k o (drop 1 least) → LevelSays (max (level_of q (slice_get least 0)) k) (with_rank q o) least
with_level None k o least says = no_rank k o least
with_level (Some r) k o [] says = no_least r k o [] says
with_level (Some r) k o (m ∷ least) says = one_more r m k o least says

rankless : (q : Option ℕ) (o : Option (List ℕ)) → o ≡ None → with_rank q o ≡ None
rankless None o e = refl
rankless (Some r) o e = ap (with_rank (Some r)) e

argument_more : (row : List (Option ℕ)) (n : ℕ) (w : Option ℕ) (o : Option (List ℕ)) (least : List ℕ) → Says w o (drop 1 least)
    → Says (greater (slice_get (levels_of row (slice_get least 0)) n) w) (with_rank (rank_in row n) o) least
argument_more row n w o least says =
    subst (λ level. Says (greater level w) (with_rank (rank_in row n) o) least) (sym (slice_get-map (λ (r : Option ℕ). level_of r (slice_get least 0)) row n)) (by (slice_get row n) w says)
  where
    by : (q : Option (Option ℕ)) (w : Option ℕ) → Says w o (drop 1 least)
        → Says (greater (option_map (λ (r : Option ℕ). level_of r (slice_get least 0)) q) w) (with_rank (in_place q) o) least
    by None w says = refl
    by (Some q) None says = rankless q o says
    by (Some q) (Some k) says = with_level q k o least says

lower_than_none : (least : List ℕ) → has_lower least [] ≡ false
lower_than_none [] = refl
lower_than_none (m ∷ least) = refl

-- the levels say it of the ranks for the kinds of the numbers
worst_says : (rows : List (List (Option ℕ))) (least ns : List ℕ) → Says (worst (levels_beside rows least) ns) (ranks_at rows ns) least
worst_says [] least [] = record { if_none = λ e. absurd (omega (arith, e)); if_higher = λ e. absurd (omega (arith, e)); if_least = λ e. (refl, lower_than_none least) }
worst_says [] least (n ∷ ns) = refl
worst_says (row ∷ rows) least [] = refl
worst_says (row ∷ rows) least (n ∷ ns) = argument_more row n (worst (levels_beside rows (drop 1 least)) ns) (ranks_at rows ns) least (worst_says rows (drop 1 least) ns)

-- ---- the greatest level, found from place to place

pub levels_long : (rows : List (Vec ℕ Global)) → length (levels_in rows) ≡ length rows
levels_long [] = refl
levels_long (v ∷ rows) = ap suc (levels_long rows)

max_of_three : (a b c : ℕ) → max (max a b) c ≡ max a (max b c)
max_of_three a b c = omega arith

further : (k level : ℕ) (w : Option ℕ) → greater (Some (max k level)) w ≡ greater (Some k) (greater (Some level) w)
further k level None = refl
further k level (Some j) = ap Some (max_of_three k level j)

module _ (rows : List (Vec ℕ Global)) (ns : List ℕ) (p : ℕ) (v : Vec ℕ Global) (lt : p < length rows) (same : length ns ≡ length rows) (is_v : v ≡ get_or rows p v) where
  abbrev from_here : Option ℕ
  from_here = worst (levels_in (drop p rows)) (drop p ns)

  abbrev after_it : ℕ → Option ℕ
  after_it q = worst (levels_in (drop q rows)) (drop q ns)

  begins : from_here ≡ greater (slice_get v.items (get_or ns p 0)) (after_it (suc p))
  begins =
      let row : drop p rows ≡ v ∷ drop (suc p) rows = drop-cons rows p v lt ∙ ap (λ x. x ∷ drop (suc p) rows) (sym is_v) in
      let number : drop p ns ≡ get_or ns p 0 ∷ drop (suc p) ns = drop-cons ns p 0 (omega (arith, lt, same)) in
      λ i. worst (levels_in (row i)) (number i)

  pub worst_more : (k level : ℕ) → slice_get v.items (get_or ns p 0) ≡ Some level → greater (Some (max k level)) (after_it (p + 1)) ≡ greater (Some k) from_here
  worst_more k level e =
      ap (λ q. greater (Some (max k level)) (after_it q)) (add-one p)
      ∙ (further k level (after_it (suc p)) ∙ ap (greater (Some k)) (ap (λ l. greater l (after_it (suc p))) (sym e) ∙ sym begins))

  pub worst_missing : (k : ℕ) → slice_get v.items (get_or ns p 0) ≡ None → greater (Some k) from_here ≡ None
  worst_missing k e = ap (greater (Some k)) (begins ∙ ap (λ l. greater l (after_it (suc p))) e)

-- where there is an argument and no least rank, none is the least
two_at_least : (q : Option (Option ℕ)) (w : Option ℕ) → greater (option_map (λ (r : Option ℕ). level_of r None) q) w ≡ Some 0 → ⊥
two_at_least None w e = cc
two_at_least (Some q) None e = cc
two_at_least (Some None) (Some k) e = let no : max 3 k ≡ 0 = same_Some (max 3 k) 0 e in absurd (omega (arith, no))
two_at_least (Some (Some r)) (Some k) e = let no : max 2 k ≡ 0 = same_Some (max 2 k) 0 e in absurd (omega (arith, no))

some_least : (rows : List (List (Option ℕ))) (ns : List ℕ) → worst (levels_beside rows []) ns ≡ Some 0 → ns ≡ []
some_least [] [] e = refl
some_least [] (n ∷ ns) e = cc
some_least (row ∷ rows) [] e = cc
some_least (row ∷ rows) (n ∷ ns) e =
    let others = worst (levels_beside rows []) ns in
    absurd (two_at_least (slice_get row n) others (ap (λ level. greater level others) (sym (slice_get-map (λ (r : Option ℕ). level_of r None) row n)) ∙ e))

-- ---- what comes of a candidate

none_passed : (s : Standing) (t : Contender) (o : Option (List ℕ)) → o ≡ None → entered_with s t o ≡ passed s
none_passed s t None e = refl
none_passed s t (Some ranks) e = cc

higher_passed : (s : Standing) (t : Contender) (o : Option (List ℕ)) → Compares o (known_ranks s.least) true → entered_with s t o ≡ passed s
higher_passed s t None c = absurd c
higher_passed s t (Some ranks) c = by s.least c
  where
    by : (least : Option (List ℕ)) → Compares (Some ranks) (known_ranks least) true → entered_viable s t ranks least ≡ passed s
    by None c = let never : false ≡ true = c.1 in cc
    by (Some least) c = λ i. compared s t ranks least (c.0 i) (c.1 i)

same_met : (s : Standing) (t : Contender) (o : Option (List ℕ)) → known_ranks s.least ≢ [] → Compares o (known_ranks s.least) false → entered_with s t o ≡ met s t s.front
same_met s t None some c = absurd c
same_met s t (Some ranks) some c = by s.least some c
  where
    by : (least : Option (List ℕ)) → known_ranks least ≢ [] → Compares (Some ranks) (known_ranks least) false → entered_viable s t ranks least ≡ met s t s.front
    by None some c = absurd (some refl)
    by (Some least) some c = λ i. compared s t ranks least (c.0 i) (c.1 i)

-- ---- by levels that are those of a contest's ranks

as_long : (kinds : List Kind) (ns : List ℕ) (params : Params) → kinds_at kinds ns ≡ map Some params → length ns ≡ length params
as_long kinds [] [] e = refl
as_long kinds [] (p ∷ params) e = cc
as_long kinds (n ∷ ns) [] e = cc
as_long kinds (n ∷ ns) (p ∷ params) e = let there : kinds_at kinds ns ≡ map Some params = cc in ap suc (as_long kinds ns params there)

no_ranks : (l : Ancestors) (params : Params) (args : List ArgType) → length params ≢ length args → ranks_of l params args ≡ None
no_ranks l [] [] ne = absurd (ne refl)
no_ranks l [] (a ∷ args) ne = refl
no_ranks l (p ∷ params) [] ne = refl
no_ranks l (p ∷ params) (a ∷ args) ne = ap (with_rank (argument_rank l p.0 p.1 a)) (no_ranks l params args (λ e. ne (ap suc e))) ∙ none_left (argument_rank l p.0 p.1 a)
  where
    none_left : (o : Option ℕ) → with_rank o None ≡ None
    none_left None = refl
    none_left (Some r) = refl

module _ (t : Telling) (s : Standing) (params : Params) (named : Contender) (ns : List ℕ) (are : kinds_at t.kinds ns ≡ map Some params) where
  abbrev ranks : Option (List ℕ)
  ranks = ranks_of t.ancestors params t.args

  abbrev levels : List (List ℕ)
  levels = levels_beside (told_ranks t.ancestors t.kinds t.args) (known_ranks s.least)

  told_so : Says (worst levels ns) ranks (known_ranks s.least)
  told_so = subst (λ o. Says (worst levels ns) o (known_ranks s.least)) (ranks_told t.ancestors t.kinds t.args ns params are) (worst_says (told_ranks t.ancestors t.kinds t.args) (known_ranks s.least) ns)

  -- where there is not one number for each argument
  pub other_number : length ns ≢ length t.args → entered t.ancestors t.args s named params ≡ passed s
  unfolding entered
  other_number ne = none_passed s named ranks (no_ranks t.ancestors params t.args (λ e. ne (as_long t.kinds ns params are ∙ e)))

  -- which greatest levels say that a candidate changes nothing
  abbrev Passes : Option ℕ → Type 0
  Passes None = Unit {0}
  Passes (Some k) = (k ≢ 0) × (k ≢ 2)

  passed_here : (w : Option ℕ) → worst levels ns ≡ w → Passes w → entered t.ancestors t.args s named params ≡ passed s
  unfolding entered
  passed_here None e passes = none_passed s named ranks (subst (λ w. Says w ranks (known_ranks s.least)) e told_so)
  passed_here (Some k) e passes =
      let says : LevelSays k ranks (known_ranks s.least) = subst (λ w. Says w ranks (known_ranks s.least)) e told_so in
      elim (which k passes) [ inl one ↦ higher_passed s named ranks (says.if_higher one) | inr over ↦ none_passed s named ranks (says.if_none over) ]
    where
      which : (k : ℕ) → (k ≢ 0) × (k ≢ 2) → (k ≡ 1) ⊎ (2 < k)
      which k h = let a = h.0 in let b = h.1 in grind (arith, a, b)

  met_here : ns ≢ [] → worst levels ns ≡ Some 0 → entered t.ancestors t.args s named params ≡ met s named s.front
  unfolding entered
  met_here some e =
      let says : LevelSays 0 ranks (known_ranks s.least) = subst (λ w. Says w ranks (known_ranks s.least)) e told_so in
      same_met s named ranks
      (λ gone. some (some_least (told_ranks t.ancestors t.kinds t.args) ns (ap (λ least. worst (levels_beside (told_ranks t.ancestors t.kinds t.args) least) ns) (sym gone) ∙ e)))
      (says.if_least refl)

  -- the same by levels that may be left out
  by_levels : (known : List (List ℕ)) (w : Option ℕ) → AreLevels t s known → length ns ≡ length known → ns ≢ [] → worst known ns ≡ w → worst levels ns ≡ w
  by_levels [] w right same some e = absurd (some (no_number ns same))
    where
      no_number : (ns : List ℕ) → length ns ≡ 0 → ns ≡ []
      no_number [] same = refl
      no_number (n ∷ ns) same = absurd (omega (arith, same))
  by_levels (level ∷ known) w right same some e = ap (λ all. worst all ns) (sym (right (λ no. cc))) ∙ e

  -- where the greatest is none or above 0, there is a number
  some_number : (known : List (List ℕ)) (w : Option ℕ) → length ns ≡ length known → worst known ns ≡ w → Passes w → ns ≢ []
  some_number known w same e passes gone = none_here known (sym same ∙ ap (λ (xs : List ℕ). length xs) gone) (sym e ∙ ap (worst known) gone)
    where
      empty : (w : Option ℕ) → Passes w → w ≡ Some 0 → ⊥
      empty None passes e = cc
      empty (Some k) passes e = passes.0 (same_Some k 0 e)

      none_here : (known : List (List ℕ)) → length known ≡ 0 → w ≡ worst known [] → ⊥
      none_here [] short e = empty w passes e
      none_here (level ∷ known) short e = absurd (omega (arith, short))

  pub by_levels_passed : (known : List (List ℕ)) (w : Option ℕ) → AreLevels t s known → length ns ≡ length known → worst known ns ≡ w → Passes w
      → entered t.ancestors t.args s named params ≡ passed s
  by_levels_passed known w right same e passes = passed_here w (by_levels known w right same (some_number known w same e passes) e) passes

  pub by_levels_met : (known : List (List ℕ)) → AreLevels t s known → length ns ≡ length known → ns ≢ [] → worst known ns ≡ Some 0
      → entered t.ancestors t.args s named params ≡ met s named s.front
  by_levels_met known right same some e = met_here some (by_levels known (Some 0) right same some e)
