-- What comes of a contest is what `best_of` picks.
use Rattle.std.specs.Prelude.{ℕ, Bool, true, false, ◌≡◌, ◌≢◌, ◌<◌, ◌≤◌, ◌+◌, ◌⊎◌, List, [], ◌∷◌, nat_lt, if◌then◌else◌, length, map, slice_get, Option, Some, None, IsSome, IfSome, is_some, Decides, ◌↔◌, min}
use Rattle.std.proofs.Common.{arith, refl, ap, sym, subst, inl, inr, zero, suc, below_more, ◌∙◌}
use Rattle.std.proofs.lemmas.Bool.Decides.{Decides-ltb, not_from_Decides}
use Rattle.std.proofs.lemmas.Option.{same_Some}
use Rattle.ang_types.specs.declared.arg_type.ArgType.{ArgType}
use Rattle.ang_types.specs.declared.candidate.Candidate.{Candidate}
use Rattle.ang_types.specs.Best.{best_of}
use Rattle.ang_types.specs.Overloads.{Params, params_at, rank_at, IsViable, IsLess, IsBetter, IsViableAt, IsBest}
use Rattle.ang_types.specs.Ranks.{Ancestors, argument_rank}
use Rattle.ang_types.specs.Rivals.{AreRivals, HasAll, IsAtMost, least_at}
use Rattle.ang_types.proofs.BestLaws.{best_of-says}
use Rattle.ang_check_contest.specs.declared.score.Contender.{Contender}
use Rattle.ang_check_contest.specs.declared.score.Outcome.{Outcome}
use Rattle.ang_check_contest.specs.declared.score.Outcome.TheVariants as outcome
use Rattle.ang_check_contest.specs.Contest.{with_rank, ranks_of, has_lower, lesser_ranks, Standing, fresh, met, compared, entered_viable, entered_with, entered, Entry, after, outcome_by, outcome_of, candidate_of, chosen, chosen_at, IsContest}
use Rattle.ang_check_contest.specs.Levels.{known_ranks}

-- ---- ranks alone

most_refl : (a : Option ℕ) → IsSome a → IsAtMost a a
most_refl None s = cc
most_refl (Some q) s = omega arith

most_from : (a b : Option ℕ) → IsSome a → IsSome b → ¬ IsLess b a → IsAtMost a b
most_from None b s t h = cc
most_from (Some q) None s t h = cc
most_from (Some q) (Some r) s t h = grind (arith, h)

most_through : (a b c : Option ℕ) → IsAtMost a b → IsAtMost b c → IsAtMost a c
most_through None b c h k = absurd h
most_through (Some q) None c h k = absurd h
most_through (Some q) (Some r) None h k = absurd k
most_through (Some q) (Some r) (Some t) h k = omega (arith, h, k)

not_both : (a b : Option ℕ) → IsLess a b → IsAtMost b a → ⊥
not_both None b l m = l
not_both (Some q) None l m = l
not_both (Some q) (Some r) l m = absurd (omega (arith, l, m))

most_same : (a b : Option ℕ) → IsAtMost a b → IsAtMost b a → a ≡ b
most_same None b h k = absurd h
most_same (Some q) None h k = absurd h
most_same (Some q) (Some r) h k = let e : q ≡ r = omega (arith, h, k) in ap Some e

pub there : (xs : List ℕ) (k : ℕ) → k < length xs → IsSome (slice_get xs k)
there [] k lt = absurd (omega arith)
there (x ∷ xs) zero lt = refl
there (x ∷ xs) (suc k) lt = there xs k (omega arith)

less_from : (a b : Option ℕ) → IsAtMost a b → b ≢ a → IsLess a b
less_from None b h ne = absurd h
less_from (Some q) None h ne = absurd h
less_from (Some q) (Some r) h ne = let differs : r ≢ q = λ e. ne (ap Some e) in omega (arith, h, differs)

-- all equal, or one that is not
all_or_one : (f g : ℕ → Option ℕ) (n : ℕ) → ((k : ℕ) → k < n → f k ≡ g k) ⊎ ((k : ℕ) × (k < n) × (f k ≢ g k))
all_or_one f g zero = inl (λ k lt. absurd (omega (arith, lt)))
all_or_one f g (suc n) =
    elim (all_or_one f g n) [
      | inr w ↦ inr (w.0, omega (arith, w.1), w.2)
      | inl same ↦ elim (split_option (f n) (g n)) [
        | inl e ↦ inl (λ k lt. below_more (λ k. f k ≡ g k) n same e k (omega (arith, lt)))
        | inr ne ↦ inr (n, omega arith, ne)
      ]
    ]
  where
    split_option : (o q : Option ℕ) → (o ≡ q) ⊎ (o ≢ q)
    split_option None None = inl refl
    split_option None (Some q) = inr (λ e. cc)
    split_option (Some o) None = inr (λ e. cc)
    split_option (Some o) (Some q) = elim (split_number o q) [ inl e ↦ inl (ap Some e) | inr ne ↦ inr (λ e. ne (cc)) ]
      where
        split_number : (o q : ℕ) → (o ≡ q) ⊎ (o ≢ q)
        split_number o q = grind arith

-- ---- the ranks of one candidate

abbrev pub RanksSay : Ancestors → Params → List ArgType → Option (List ℕ) → Type 0
RanksSay l ps args None = ¬ IsViable l ps args
RanksSay l ps args (Some rs) = (length ps ≡ length args) × (length rs ≡ length args) × ((k : ℕ) → rank_at l ps args k ≡ slice_get rs k)

no_rank : (o : Option ℕ) → o ≡ None → IsSome o → ⊥
no_rank None e s = cc
no_rank (Some q) e s = cc

pub ranks_say : (l : Ancestors) (ps : Params) (args : List ArgType) → RanksSay l ps args (ranks_of l ps args)
ranks_say l [] [] = (refl, refl, λ k. refl)
ranks_say l [] (a ∷ args) = λ v. absurd (omega (arith, v.equal_number))
ranks_say l (p ∷ ps) [] = λ v. absurd (omega (arith, v.equal_number))
ranks_say l (p ∷ ps) (a ∷ args) = step (argument_rank l p.0 p.1 a) (ranks_of l ps args) refl (ranks_say l ps args)
  where
    step : (o : Option ℕ) (r : Option (List ℕ)) → argument_rank l p.0 p.1 a ≡ o → RanksSay l ps args r → RanksSay l (p ∷ ps) (a ∷ args) (with_rank o r)
    step None r e h = λ v. no_rank (argument_rank l p.0 p.1 a) e (v.ranked 0 (omega arith))
    step (Some q) None e h = λ v. h (record { equal_number = omega (arith, v.equal_number); ranked = λ k lt. v.ranked (suc k) (omega arith) })
    step (Some q) (Some rs) e h = (omega (arith, h.0), omega (arith, h.1), at)
      where
        at : (k : ℕ) → rank_at l (p ∷ ps) (a ∷ args) k ≡ slice_get (q ∷ rs) k
        at zero = e
        at (suc k) = h.2 k

-- ---- two lists of ranks

abbrev LowerSays : List ℕ → List ℕ → Bool → Type 0
LowerSays rs ls true = (k : ℕ) × (k < length ls) × IsLess (slice_get rs k) (slice_get ls k)
LowerSays rs ls false = (k : ℕ) → ¬ IsLess (slice_get rs k) (slice_get ls k)

lower_says : (rs ls : List ℕ) → length rs ≡ length ls → LowerSays rs ls (has_lower rs ls)
lower_says [] ls e = λ k h. h
lower_says (r ∷ rs) [] e = absurd (omega (arith, e))
lower_says (r ∷ rs) (o ∷ ls) e = step (nat_lt r o) (has_lower rs ls) (Decides-ltb r o) (lower_says rs ls (omega (arith, e)))
  where
    step : (b c : Bool) → Decides b (r < o) → LowerSays rs ls c → LowerSays (r ∷ rs) (o ∷ ls) (if b then true else c)
    step true c d h = (0, omega arith, d.0 refl)
    step false true d h = (suc h.0, omega (arith, h.1), h.2)
    step false false d h = at
      where
        at : (k : ℕ) → ¬ IsLess (slice_get (r ∷ rs) k) (slice_get (o ∷ ls) k)
        at zero = not_from_Decides false d refl
        at (suc k) = h k

lesser_long : (rs ls : List ℕ) → length rs ≡ length ls → length (lesser_ranks rs ls) ≡ length ls
lesser_long [] [] e = refl
lesser_long [] (o ∷ ls) e = absurd (omega (arith, e))
lesser_long (r ∷ rs) [] e = absurd (omega (arith, e))
lesser_long (r ∷ rs) (o ∷ ls) e = ap suc (lesser_long rs ls (omega (arith, e)))

lesser_first : (rs ls : List ℕ) (k : ℕ) → length rs ≡ length ls → k < length ls → IsAtMost (slice_get (lesser_ranks rs ls) k) (slice_get rs k)
lesser_first [] [] k e lt = absurd (omega arith)
lesser_first [] (o ∷ ls) k e lt = absurd (omega (arith, e))
lesser_first (r ∷ rs) [] k e lt = absurd (omega arith)
lesser_first (r ∷ rs) (o ∷ ls) zero e lt = omega arith
lesser_first (r ∷ rs) (o ∷ ls) (suc k) e lt = lesser_first rs ls k (omega (arith, e)) (omega arith)

lesser_second : (rs ls : List ℕ) (k : ℕ) → length rs ≡ length ls → k < length ls → IsAtMost (slice_get (lesser_ranks rs ls) k) (slice_get ls k)
lesser_second [] [] k e lt = absurd (omega arith)
lesser_second [] (o ∷ ls) k e lt = absurd (omega (arith, e))
lesser_second (r ∷ rs) [] k e lt = absurd (omega arith)
lesser_second (r ∷ rs) (o ∷ ls) zero e lt = omega arith
lesser_second (r ∷ rs) (o ∷ ls) (suc k) e lt = lesser_second rs ls k (omega (arith, e)) (omega arith)

lesser_either : (rs ls : List ℕ) (k : ℕ) → length rs ≡ length ls → k < length ls
    → (slice_get rs k ≡ slice_get (lesser_ranks rs ls) k) ⊎ (slice_get ls k ≡ slice_get (lesser_ranks rs ls) k)
lesser_either [] [] k e lt = absurd (omega arith)
lesser_either [] (o ∷ ls) k e lt = absurd (omega (arith, e))
lesser_either (r ∷ rs) [] k e lt = absurd (omega arith)
lesser_either (r ∷ rs) (o ∷ ls) zero e lt = elim (either r o) [ inl h ↦ inl (ap Some h) | inr h ↦ inr (ap Some h) ]
  where
    either : (r o : ℕ) → (r ≡ min r o) ⊎ (o ≡ min r o)
    either r o = grind arith
lesser_either (r ∷ rs) (o ∷ ls) (suc k) e lt = lesser_either rs ls k (omega (arith, e)) (omega arith)

-- ---- what is kept

abbrev named_at : Option Entry → Option Contender
named_at None = None
named_at (Some e) = Some e.contender

params_of : (es : List Entry) (n : ℕ) (e : Entry) → slice_get es n ≡ Some e → params_at (map candidate_of es) n ≡ e.params
params_of [] n e h = cc
params_of (x ∷ es) zero e h = let same : x ≡ e = same_Some x e h in ap (λ (y : Entry). y.params) same
params_of (x ∷ es) (suc n) e h = params_of es n e h

pub map_long : (es : List Entry) → length (map candidate_of es) ≡ length es
map_long [] = refl
map_long (e ∷ es) = ap suc (map_long es)

in_range : (es : List Entry) (n : ℕ) (e : Entry) → slice_get es n ≡ Some e → n < length es
in_range [] n e h = cc
in_range (x ∷ es) zero e h = omega arith
in_range (x ∷ es) (suc n) e h = let lt : n < length es = in_range es n e h in omega (arith, lt)

last : (i n : ℕ) → i < suc n → (i < n) ⊎ (i ≡ n)
last i n lt = grind arith

module _ (l : Ancestors) (args : List ArgType) (es : List Entry) where
  abbrev Candidates : List Candidate
  Candidates = map candidate_of es

  abbrev Viable : ℕ → Type 0
  Viable i = IsViableAt l Candidates args i

  abbrev rank : ℕ → ℕ → Option ℕ
  rank i k = rank_at l (params_at Candidates i) args k

  -- candidate i has just these ranks
  abbrev Has : List ℕ → ℕ → Type 0
  Has ls i = Viable i × ((k : ℕ) → k < length args → rank i k ≡ slice_get ls k)

  -- the least ranks among the first n
  record Least (ls : List ℕ) (n : ℕ) : Type 0 where
    size : length ls ≡ length args
    below : (i : ℕ) → i < n → Viable i → (k : ℕ) → k < length args → IsAtMost (slice_get ls k) (rank i k)
    attained : (k : ℕ) → k < length args → (i : ℕ) × Viable i × (rank i k ≡ slice_get ls k)
    one : (i : ℕ) × Viable i

  -- who has all of them
  abbrev Fronts : List ℕ → ℕ → Option Contender → Bool → Type 0
  Fronts ls n None tied = (i : ℕ) → i < n → ¬ Has ls i
  Fronts ls n (Some t) true = (i : ℕ) × (j : ℕ) × (i ≢ j) × Has ls i × Has ls j
  Fronts ls n (Some t) false = (i : ℕ) × (i < n) × (named_at (slice_get es i) ≡ Some t) × Has ls i × ((j : ℕ) → j < n → Has ls j → j ≡ i)

  abbrev Stands : Option (List ℕ) → Option Contender → Bool → ℕ → Type 0
  Stands None front tied n = (i : ℕ) → i < n → ¬ Viable i
  Stands (Some ls) front tied n = Least ls n × Fronts ls n front tied

  -- ---- one candidate more

  fewer : (ls : List ℕ) (n : ℕ) (front : Option Contender) (tied : Bool) → ¬ Has ls n → Fronts ls n front tied → Fronts ls (suc n) front tied
  fewer ls n None tied isnt h = λ i lt has. elim (last i n lt) [ inl less ↦ h i less has | inr same ↦ isnt (subst (Has ls) same has) ]
  fewer ls n (Some t) true isnt h = h
  fewer ls n (Some t) false isnt h =
      (h.0, omega (arith, h.1), h.2, h.3, λ j lt has. elim (last j n lt) [ inl less ↦ h.4 j less has | inr same ↦ absurd (isnt (subst (Has ls) same has)) ])

  skipped : (least : Option (List ℕ)) (front : Option Contender) (tied : Bool) (n : ℕ) → ¬ Viable n → Stands least front tied n → Stands least front tied (suc n)
  skipped None front tied n isnt h = λ i lt v. elim (last i n lt) [ inl less ↦ h i less v | inr same ↦ isnt (subst Viable same v) ]
  skipped (Some ls) front tied n isnt h = (
    record {
      size = h.0.size;
      below = λ i lt v. elim (last i n lt) [ inl less ↦ h.0.below i less v | inr same ↦ absurd (isnt (subst Viable same v)) ];
      attained = h.0.attained;
      one = h.0.one;
    },
    fewer ls n front tied (λ has. isnt has.0) h.1,
  )

  module _ (n : ℕ) (t : Contender) (named : named_at (slice_get es n) ≡ Some t) (rs : List ℕ) (here : Viable n) (size : length rs ≡ length args) (ranks : (k : ℕ) → rank n k ≡ slice_get rs k) where
    has : Has rs n
    has = (here, λ k lt. ranks k)

    some_rank : (k : ℕ) → k < length args → IsSome (slice_get rs k)
    some_rank k lt = there rs k (omega (arith, size))

    own : (k : ℕ) → k < length args → IsAtMost (slice_get rs k) (rank n k)
    own k lt = subst (IsAtMost (slice_get rs k)) (sym (ranks k)) (most_refl (slice_get rs k) (some_rank k lt))

    leads : ((i : ℕ) → i < n → Viable i → (k : ℕ) → k < length args → IsAtMost (slice_get rs k) (rank i k)) → ((i : ℕ) → i < n → ¬ Has rs i)
        → Stands (Some rs) (Some t) false (suc n)
    leads below others = (
      record {
        size = size;
        below = λ i lt v k kn. elim (last i n lt) [
          | inl less ↦ below i less v k kn
          | inr same ↦ subst (λ x. IsAtMost (slice_get rs k) (rank x k)) (sym same) (own k kn)
        ];
        attained = λ k lt. (n, here, ranks k);
        one = (n, here);
      },
      (n, omega arith, named, has, λ j lt h. elim (last j n lt) [ inl less ↦ absurd (others j less h) | inr same ↦ same ]),
    )

    module _ (ls : List ℕ) (known : Least ls n) where
      as_long : length rs ≡ length ls
      as_long = size ∙ sym known.size

      some_least : (k : ℕ) → k < length args → IsSome (slice_get ls k)
      some_least k lt = there ls k (omega (arith, known.size))

      lower_leads : LowerSays rs ls true → LowerSays ls rs false → Stands (Some rs) (Some t) false (suc n)
      lower_leads low high =
          let most : (k : ℕ) → k < length args → IsAtMost (slice_get rs k) (slice_get ls k) = λ k lt. most_from (slice_get rs k) (slice_get ls k) (some_rank k lt) (some_least k lt) (high k) in
          leads
          (λ i lt v k kn. most_through (slice_get rs k) (slice_get ls k) (rank i k) (most k kn) (known.below i lt v k kn))
          (λ i lt h.
          let kn : low.0 < length args = omega (arith, low.1, known.size) in
          not_both (slice_get rs low.0) (slice_get ls low.0) low.2
          (subst (IsAtMost (slice_get ls low.0)) (h.1 low.0 kn) (known.below i lt h.0 low.0 kn)))

      crosses : LowerSays rs ls true → LowerSays ls rs true → Stands (Some (lesser_ranks rs ls)) None false (suc n)
      crosses low high =
          let ms = lesser_ranks rs ls in
          let first : (k : ℕ) → k < length args → IsAtMost (slice_get ms k) (slice_get rs k) = λ k lt. lesser_first rs ls k as_long (omega (arith, known.size)) in
          let second : (k : ℕ) → k < length args → IsAtMost (slice_get ms k) (slice_get ls k) = λ k lt. lesser_second rs ls k as_long (omega (arith, known.size)) in (
            record {
              size = lesser_long rs ls as_long ∙ known.size;
              below = λ i lt v k kn. elim (last i n lt) [
                | inl less ↦ most_through (slice_get ms k) (slice_get ls k) (rank i k) (second k kn) (known.below i less v k kn)
                | inr same ↦ subst (λ x. IsAtMost (slice_get ms k) (rank x k)) (sym same) (subst (IsAtMost (slice_get ms k)) (sym (ranks k)) (first k kn))
              ];
              attained = λ k kn. elim (lesser_either rs ls k as_long (omega (arith, known.size))) [
                | inl e ↦ (n, here, ranks k ∙ e)
                | inr e ↦ let w = known.attained k kn in (w.0, w.1, w.2 ∙ e)
              ];
              one = (n, here);
            },
            λ i lt h. elim (last i n lt) [
              | inl less ↦
                  let kn : low.0 < length args = omega (arith, low.1, known.size) in
                  not_both (slice_get rs low.0) (slice_get ls low.0) low.2
                  (most_through (slice_get ls low.0) (slice_get ms low.0) (slice_get rs low.0)
                  (subst (IsAtMost (slice_get ls low.0)) (h.1 low.0 kn) (known.below i less h.0 low.0 kn)) (first low.0 kn))
              | inr same ↦
                  let kn : high.0 < length args = omega (arith, high.1, size) in
                  let e : slice_get rs high.0 ≡ slice_get ms high.0 = sym (ranks high.0) ∙ (subst (Has ms) same h).1 high.0 kn in
                  not_both (slice_get ls high.0) (slice_get rs high.0) high.2
                  (subst (λ x. IsAtMost x (slice_get ls high.0)) (sym e) (second high.0 kn))
            ],
          )

      not_lower : LowerSays rs ls false → Least ls (suc n)
      not_lower low = record {
        size = known.size;
        below = λ i lt v k kn. elim (last i n lt) [
          | inl less ↦ known.below i less v k kn
          | inr same ↦ subst (λ x. IsAtMost (slice_get ls k) (rank x k)) (sym same) (subst (IsAtMost (slice_get ls k)) (sym (ranks k)) (most_from (slice_get ls k) (slice_get rs k) (some_least k kn) (some_rank k kn) (low k)))
        ];
        attained = known.attained;
        one = known.one;
      }

      higher : LowerSays ls rs true → ¬ Has ls n
      higher high h =
          let kn : high.0 < length args = omega (arith, high.1, size) in
          let e : slice_get rs high.0 ≡ slice_get ls high.0 = sym (ranks high.0) ∙ h.1 high.0 kn in
          not_both (slice_get ls high.0) (slice_get rs high.0) high.2 (subst (λ x. IsAtMost x (slice_get ls high.0)) (sym e) (most_refl (slice_get ls high.0) (some_least high.0 kn)))

      meets : LowerSays rs ls false → LowerSays ls rs false → Has ls n
      meets low high = (
        here,
        λ k kn. ranks k ∙ most_same (slice_get rs k) (slice_get ls k) (most_from (slice_get rs k) (slice_get ls k) (some_rank k kn) (some_least k kn) (high k))
            (most_from (slice_get ls k) (slice_get rs k) (some_least k kn) (some_rank k kn) (low k)),
      )

      abbrev StandsAs : Standing → Type 0
      StandsAs s = Stands s.least s.front s.tied (suc n)

      met_stands : (s : Standing) (front : Option Contender) → s.least ≡ Some ls → s.front ≡ front → LowerSays rs ls false → LowerSays ls rs false → Fronts ls n front s.tied → StandsAs (met s t front)
      met_stands s None e f low high h =
          subst (λ x. Stands x (Some t) false (suc n)) (sym e) (not_lower low, (n, omega arith, named, meets low high, λ j lt has. elim (last j n lt) [ inl less ↦ absurd (h j less has) | inr same ↦ same ]))
      met_stands s (Some first) e f low high h =
          subst (λ x. Stands x s.front true (suc n)) (sym e) (subst (λ x. Stands (Some ls) x true (suc n)) (sym f) (not_lower low, two s.tied h))
        where
          two : (tied : Bool) → Fronts ls n (Some first) tied → (i : ℕ) × (j : ℕ) × (i ≢ j) × Has ls i × Has ls j
          two true h = h
          two false h = (h.0, n, λ same. absurd (omega (arith, h.1, same)), h.3, meets low high)

      compared_stands : (s : Standing) (low high : Bool) → s.least ≡ Some ls → LowerSays rs ls low → LowerSays ls rs high → Fronts ls n s.front s.tied → StandsAs (compared s t rs ls low high)
      compared_stands s true true e a b h = crosses a b
      compared_stands s true false e a b h = lower_leads a b
      compared_stands s false true e a b h = subst (λ x. Stands x s.front s.tied (suc n)) (sym e) (not_lower a, fewer ls n s.front s.tied (higher b) h)
      compared_stands s false false e a b h = met_stands s s.front e refl a b h

    viable_stands : (s : Standing) (least : Option (List ℕ)) → s.least ≡ least → Stands least s.front s.tied n
        → Stands (entered_viable s t rs least).least (entered_viable s t rs least).front (entered_viable s t rs least).tied (suc n)
    viable_stands s None e h = leads (λ i lt v. absurd (h i lt v)) (λ i lt has. h i lt has.0)
    viable_stands s (Some ls) e h =
        compared_stands ls h.0 s (has_lower rs ls) (has_lower ls rs) e (lower_says rs ls (as_long ls h.0)) (lower_says ls rs (sym (as_long ls h.0))) h.1

  abbrev StandsAt : Standing → ℕ → Type 0
  StandsAt s n = Stands s.least s.front s.tied n

  step : (n : ℕ) (e : Entry) (s : Standing) → slice_get es n ≡ Some e → StandsAt s n → StandsAt (entered l args s e.contender e.params) (suc n)
  unfolding entered
  step n e s at h = by (ranks_of l e.params args) (ranks_say l e.params args)
    where
      same : params_at Candidates n ≡ e.params
      same = params_of es n e at

      by : (o : Option (List ℕ)) → RanksSay l e.params args o → StandsAt (entered_with s e.contender o) (suc n)
      by None says = skipped s.least s.front s.tied n (λ v. says (subst (λ ps. IsViable l ps args) same v.viable)) h
      by (Some rs) says =
          let at_k : (k : ℕ) → rank n k ≡ slice_get rs k = λ k. ap (λ ps. rank_at l ps args k) same ∙ says.2 k in
          let viable : Viable n = record {
            there = omega (arith, in_range es n e at, map_long es);
            viable = record {
              equal_number = ap length same ∙ says.0;
              ranked = λ k lt. subst IsSome (sym (at_k k)) (there rs k (omega (arith, says.1)));
            };
          } in
          viable_stands n e.contender (ap named_at at) rs viable says.1 at_k s s.least refl h

  walk : (rest : List Entry) (n : ℕ) → ((k : ℕ) → slice_get es (n + k) ≡ slice_get rest k) → length es ≡ n + length rest → (s : Standing) → StandsAt s n
      → StandsAt (after l args s rest) (length es)
  walk [] n at e s h = let same : n ≡ length es = omega (arith, e) in subst (StandsAt s) same h
  walk (x ∷ rest) n at e s h =
      walk rest (suc n)
      (λ k. let same : n + suc k ≡ suc n + k = omega arith in subst (λ m. slice_get es m ≡ slice_get rest k) same (at (suc k)))
      (omega (arith, e)) (entered l args s x.contender x.params)
      (step n x s (let same : n + 0 ≡ n = omega arith in subst (λ m. slice_get es m ≡ Some x) same (at 0)) h)

  stands : StandsAt (after l args fresh es) (length es)
  stands = walk es 0 (λ k. let same : k ≡ 0 + k = omega arith in subst (λ m. slice_get es m ≡ slice_get es k) same refl) (omega arith) fresh (λ i lt. absurd (omega (arith, lt)))

  -- ---- what comes of it

  in_all : (i : ℕ) → Viable i → i < length es
  in_all i v = omega (arith, v.there, map_long es)

  module _ (ls : List ℕ) (known : Least ls (length es)) where
    -- the best has the least ranks
    best_has : (m : ℕ) → IsBest l Candidates args m → Has ls m
    best_has m best = (best.viable, λ k kn. at k kn (known.attained k kn))
      where
        at : (k : ℕ) → k < length args → ((i : ℕ) × Viable i × (rank i k ≡ slice_get ls k)) → rank m k ≡ slice_get ls k
        at k kn w =
            let most : IsAtMost (slice_get ls k) (rank m k) = known.below m (in_all m best.viable) best.viable k kn in
            elim (equal w.0 m) [
              | inl same ↦ subst (λ x. rank x k ≡ slice_get ls k) same w.2
              | inr differs ↦ most_same (rank m k) (slice_get ls k)
                  (most_from (rank m k) (slice_get ls k) (best.viable.viable.ranked k kn) (there ls k (omega (arith, known.size)))
                  (λ less. (best.better w.0 differs w.1).none_greater (k, kn, subst (λ x. IsLess x (rank m k)) (sym w.2) less)))
                  most
            ]
          where
            equal : (i j : ℕ) → (i ≡ j) ⊎ (i ≢ j)
            equal i j = grind arith

    -- of two that have them none is better
    alone : (i j : ℕ) → i ≢ j → Has ls i → Has ls j → ¬ IsBest l Candidates args i
    alone i j differs a b best =
        let w = (best.better j (λ same. differs (sym same)) b.0).one_less in
        not_both (rank i w.0) (rank j w.0) w.2
        (subst (λ x. IsAtMost x (rank i w.0)) (sym (b.1 w.0 w.1)) (known.below i (in_all i a.0) a.0 w.0 w.1))

    -- one that has them alone is the best
    best_alone : (i : ℕ) → Has ls i → ((j : ℕ) → j < length es → Has ls j → j ≡ i) → IsBest l Candidates args i
    best_alone i has only = record { viable = has.0; better = better }
      where
        better : (j : ℕ) → j ≢ i → Viable j → IsBetter l (params_at Candidates i) (params_at Candidates j) args
        better j differs v = record {
          none_greater = λ w. not_both (rank j w.0) (rank i w.0) w.2 (subst (λ x. IsAtMost x (rank j w.0)) (sym (has.1 w.0 w.1)) (known.below j (in_all j v) v w.0 w.1));
          one_less = elim (all_or_one (rank j) (slice_get ls) (length args)) [
            | inl same ↦ absurd (differs (only j (in_all j v) (v, same)))
            | inr w ↦ (
              w.0,
              w.1,
              subst (λ x. IsLess x (rank j w.0)) (sym (has.1 w.0 w.1))
                  (less_from (slice_get ls w.0) (rank j w.0) (known.below j (in_all j v) v w.0 w.1) w.2),
            )
          ];
        }

    two_none : (i j m : ℕ) → i ≢ j → Has ls i → Has ls j → ¬ IsBest l Candidates args m
    two_none i j m differs a b best =
        elim (equal m i) [
          | inl same ↦ alone m j (λ e. differs (sym same ∙ e)) (best_has m best) b best
          | inr other ↦ alone m i other (best_has m best) a best
        ]
      where
        equal : (i j : ℕ) → (i ≡ j) ⊎ (i ≢ j)
        equal i j = grind arith

  -- ---- what is kept beside one candidate more

  least_some : (ls : List ℕ) (k : ℕ) → least_at (map Some ls) k ≡ slice_get ls k
  least_some [] zero = refl
  least_some [] (suc k) = refl
  least_some (r ∷ ls) zero = refl
  least_some (r ∷ ls) (suc k) = least_some ls k

  some_long : (ls : List ℕ) → length (map Some ls) ≡ length ls
  some_long [] = refl
  some_long (r ∷ ls) = ap suc (some_long ls)

  rivals_none : (front : Option Contender) (tied : Bool) (v : List (Option ℕ)) → Stands None front tied (length es) → length v ≡ length args → ((k : ℕ) → least_at v k ≡ None)
      → AreRivals (v, false) l Candidates args
  rivals_none front tied v h size none = record {
    least = record {
      size = size;
      none_below = λ i lt w. absurd (h i (in_all i w) w);
      attained = λ k kn. subst (λ m. IfSome m (λ r. (i : ℕ) × Viable i × (rank i k ≡ Some r))) (sym (none k)) tt;
    };
    tied = (λ e. cc, λ w. absurd (h w.0 (in_all w.0 w.1.0) w.1.0));
  }

  module _ (ls : List ℕ) where
    has_all : (i : ℕ) → Has ls i → HasAll l Candidates args (map Some ls) i
    has_all i has = (has.0, λ k kn. has.1 k kn ∙ sym (least_some ls k))

    has_those : (i : ℕ) → HasAll l Candidates args (map Some ls) i → Has ls i
    has_those i has = (has.0, λ k kn. has.1 k kn ∙ least_some ls k)

    front_has : (front : Option Contender) (tied : Bool) → Fronts ls (length es) front tied → (is_some front ≡ true) ↔ ((i : ℕ) × HasAll l Candidates args (map Some ls) i)
    front_has None tied h = (λ e. cc, λ w. absurd (h w.0 (in_all w.0 w.1.0) (has_those w.0 w.1)))
    front_has (Some t) true h = (λ e. (h.0, has_all h.0 h.3), λ w. refl)
    front_has (Some t) false h = (λ e. (h.0, has_all h.0 h.3), λ w. refl)

    is_attained : (k : ℕ) (o : Option ℕ) → slice_get ls k ≡ o → ((i : ℕ) × Viable i × (rank i k ≡ slice_get ls k)) → IfSome o (λ r. (i : ℕ) × Viable i × (rank i k ≡ Some r))
    is_attained k None e w = tt
    is_attained k (Some r) e w = (w.0, w.1, w.2 ∙ e)

    rivals_some : (front : Option Contender) (tied : Bool) → Stands (Some ls) front tied (length es) → AreRivals (map Some ls, is_some front) l Candidates args
    rivals_some front tied h = record {
      least = record {
        size = some_long ls ∙ h.0.size;
        none_below = λ i lt v k kn. subst (λ m. IsAtMost m (rank i k)) (sym (least_some ls k)) (h.0.below i (in_all i v) v k kn);
        attained = λ k kn. subst (λ m. IfSome m (λ r. (i : ℕ) × Viable i × (rank i k ≡ Some r))) (sym (least_some ls k)) (is_attained k (slice_get ls k) refl (h.0.attained k kn));
      };
      tied = front_has front tied h.1;
    }

  chosen_named : (o : Option Entry) (t : Contender) → named_at o ≡ Some t → chosen_at o ≡ outcome.Best t
  chosen_named None t e = cc
  chosen_named (Some x) t e = ap outcome.Best (same_Some x.contender t e)

  outcome_is : (least : Option (List ℕ)) (front : Option Contender) (tied : Bool) → Stands least front tied (length es) → outcome_by least front tied ≡ chosen es (best_of l Candidates args)
  outcome_is None front tied h =
      ap (chosen es) (sym ((best_of-says l Candidates args).no_viable.1 (λ i v. h i (in_all i v) v)))
  outcome_is (Some ls) None tied h =
      ap (chosen es) (sym ((best_of-says l Candidates args).ambiguous.1 (h.0.one, λ m best. h.1 m (in_all m best.viable) (best_has ls h.0 m best))))
  outcome_is (Some ls) (Some t) true h =
      ap (chosen es) (sym ((best_of-says l Candidates args).ambiguous.1 (h.0.one, λ m. two_none ls h.0 h.1.0 h.1.1 m h.1.2 h.1.3 h.1.4)))
  outcome_is (Some ls) (Some t) false h =
      sym (chosen_named (slice_get es h.1.0) t h.1.2)
      ∙ ap (chosen es) (sym (((best_of-says l Candidates args).one h.1.0).1 (best_alone ls h.0 h.1.0 h.1.3 h.1.4)))

  pub outcome_best : outcome_of (after l args fresh es) ≡ chosen es (best_of l Candidates args)
  unfolding outcome_of
  outcome_best = outcome_is (after l args fresh es).least (after l args fresh es).front (after l args fresh es).tied stands

pub outcome_after : (s : Standing) (l : Ancestors) (args : List ArgType) (es : List Entry) → s ≡ after l args fresh es → outcome_of s ≡ chosen es (best_of l (map candidate_of es) args)
outcome_after s l args es e = ap outcome_of e ∙ outcome_best l args es

-- ---- a contest of some candidates

stands_so : (l : Ancestors) (cs : List Candidate) (args : List ArgType) (s : Standing) (is : IsContest l cs args s) → Stands l args is.entries s.least s.front s.tied (length is.entries)
stands_so l cs args s is =
    subst (λ (x : Standing). Stands l args is.entries x.least x.front x.tied (length is.entries)) (sym is.taken_in) (stands l args is.entries)

-- where none is viable there are no least ranks
pub none_kept : (l : Ancestors) (cs : List Candidate) (args : List ArgType) (s : Standing) (n : ℕ) (v : List (Option ℕ)) → IsContest l cs args s → is_some s.least ≡ false → length args ≡ n
    → length v ≡ n → ((k : ℕ) → least_at v k ≡ None) → AreRivals (v, false) l cs args
none_kept l cs args s n v is lacks long size none = subst (λ c. AreRivals (v, false) l c args) is.are (at s.least lacks (stands_so l cs args s is))
  where
    at : (o : Option (List ℕ)) → is_some o ≡ false → Stands l args is.entries o s.front s.tied (length is.entries) → AreRivals (v, false) l (map candidate_of is.entries) args
    at None lacks h = rivals_none l args is.entries s.front s.tied v h (size ∙ sym long) none
    at (Some ls) lacks h = cc

-- where one is viable the least ranks are those of the contest
pub some_kept : (l : Ancestors) (cs : List Candidate) (args : List ArgType) (s : Standing) (v : List (Option ℕ)) (tied : Bool) → IsContest l cs args s → is_some s.least ≡ true
    → v ≡ map Some (known_ranks s.least) → tied ≡ is_some s.front → AreRivals (v, tied) l cs args
some_kept l cs args s v tied is some e t =
    subst (λ c. AreRivals (v, tied) l c args) is.are
    (subst (λ x. AreRivals (x, tied) l (map candidate_of is.entries) args) (sym e)
    (subst (λ b. AreRivals (map Some (known_ranks s.least), b) l (map candidate_of is.entries) args) (sym t) (at s.least some (stands_so l cs args s is))))
  where
    at : (o : Option (List ℕ)) → is_some o ≡ true → Stands l args is.entries o s.front s.tied (length is.entries) → AreRivals (map Some (known_ranks o), is_some s.front) l (map candidate_of is.entries) args
    at None lacks h = cc
    at (Some ls) lacks h = rivals_some l args is.entries ls s.front s.tied h
