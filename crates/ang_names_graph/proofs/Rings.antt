-- Rings of parents: what a row of marks and the last ring say of the next one.
use Rattle.std.specs.Prelude.{ℕ, zero, suc, Bool, true, false, not, List, [], ◌∷◌, ◌++◌, length, ◌≡◌, ◌<◌, ◌≤◌, ◌==◌, ◌+◌, ◌&&◌, ◌||◌, ◌⊎◌, ◌≢◌, if◌then◌else◌, nat_lt, replicate, take, drop, slice_index_or, slice_set}
use Rattle.std.specs.List.{list_any}
use Rattle.std.proofs.Common.{arith, refl, ap, sym, subst, inl, inr, ◌∙◌}
use Rattle.std.proofs.lemmas.Bool.{eqb-true}
use Rattle.std.proofs.lemmas.List.{append-nil, drop_all, take_all, get_or-set_same, get_or-set_other, get_or-replicate, length-set, length-replicate}
use Rattle.std.proofs.lemmas.Grind.{get_or-set_at}
use Rattle.std.proofs.Math.Seq.{drop-append_seam}
use Rattle.std.proofs.lemmas.List.Folds.{list_any-append}
use Rattle.ang_names_graph.specs.Graphs.{count_below, reach_of, numbers_below, some_below, is_near, ring, rings, leads, above, order_of}
use Rattle.ang_names_graph.specs.Tables.{Shows, at, edges_of, is_next, is_reached}
use Rattle.ang_names_graph.proofs.Rows.{lt_true, first_entry}

-- ---- numbers below a bound

pub numbers_more : (p : ℕ → Bool) (j : ℕ) → p j ≡ true → numbers_below p (j + 1) ≡ numbers_below p j ++ (j ∷ [])
numbers_more p j h =
    let s : suc j ≡ j + 1 = omega arith in
    subst (λ m. numbers_below p m ≡ numbers_below p j ++ (j ∷ [])) s (ap (λ b. numbers_below p j ++ (if b then j ∷ [] else [])) h)

pub numbers_same : (p : ℕ → Bool) (j : ℕ) → p j ≡ false → numbers_below p (j + 1) ≡ numbers_below p j
numbers_same p j h =
    let s : suc j ≡ j + 1 = omega arith in
    subst (λ m. numbers_below p m ≡ numbers_below p j) s (ap (λ b. numbers_below p j ++ (if b then j ∷ [] else [])) h ∙ append-nil (numbers_below p j))

pub numbers_agree : (p q : ℕ → Bool) (n : ℕ) → ((j : ℕ) → j < n → p j ≡ q j) → numbers_below p n ≡ numbers_below q n
numbers_agree p q zero h = refl
numbers_agree p q (suc n) h =
    let a : numbers_below p n ≡ numbers_below q n = numbers_agree p q n (λ j lt. h j (omega arith)) in
    let b : p n ≡ q n = h n (omega arith) in
    ap (λ xs. xs ++ (if p n then n ∷ [] else [])) a ∙ ap (λ c. numbers_below q n ++ (if c then n ∷ [] else [])) b

pub some_agree : (p q : ℕ → Bool) (n : ℕ) → ((j : ℕ) → j < n → p j ≡ q j) → some_below p n ≡ some_below q n
some_agree p q zero h = refl
some_agree p q (suc n) h =
    let a : some_below p n ≡ some_below q n = some_agree p q n (λ j lt. h j (omega arith)) in
    let b : p n ≡ q n = h n (omega arith) in
    ap (λ x. x || some_below p n) b ∙ ap (λ x. q n || x) a

or_left : (a b : Bool) → a ≡ true → (a || b) ≡ true
or_left true b e = refl
or_left false b e = cc

or_right : (a b : Bool) → b ≡ true → (a || b) ≡ true
or_right true b e = refl
or_right false b e = e

or_swap : (a b : Bool) → (a || b) ≡ (b || a)
or_swap true true = refl
or_swap true false = refl
or_swap false true = refl
or_swap false false = refl

pub or_false : (a : Bool) → (a || false) ≡ a
or_false true = refl
or_false false = refl

below_last : (j n : ℕ) → j < suc n → (j < n) ⊎ (j ≡ n)
below_last j n lt = grind arith

pub some_in : (p : ℕ → Bool) (n j : ℕ) → j < n → p j ≡ true → some_below p n ≡ true
some_in p zero j lt h = absurd (omega arith)
some_in p (suc n) j lt h =
    elim (below_last j n lt) [
      | inl less ↦ or_right (p n) (some_below p n) (some_in p n j less h)
      | inr same ↦ or_left (p n) (some_below p n) (subst (λ x. p x ≡ true) same h)
    ]

any_last : (f : ℕ → Bool) (b : Bool) (n : ℕ) → list_any f (if b then n ∷ [] else []) ≡ (b && f n)
any_last f true n = or_false (f n)
any_last f false n = refl

-- some of the numbers that pass p does f
pub any_numbers : (f p : ℕ → Bool) (n : ℕ) → list_any f (numbers_below p n) ≡ some_below (λ k. p k && f k) n
any_numbers f p zero = refl
any_numbers f p (suc n) =
    list_any-append f (numbers_below p n) (if p n then n ∷ [] else [])
    ∙ ap (λ x. list_any f (numbers_below p n) || x) (any_last f (p n) n)
    ∙ ap (λ x. x || (p n && f n)) (any_numbers f p n)
    ∙ or_swap (some_below (λ k. p k && f k) n) (p n && f n)

-- ---- one place alone

differ : (i n : ℕ) → n < i → (i == n) ≡ false
differ i n lt = search arith

differ_up : (i n : ℕ) → i < n → (i == n) ≡ false
differ_up i n lt = search arith

pub none_equal : (f : ℕ → Bool) (n i : ℕ) → n ≤ i → some_below (λ k. (i == k) && f k) n ≡ false
none_equal f zero i le = refl
none_equal f (suc n) i le =
    ap (λ b. (b && f n) || some_below (λ k. (i == k) && f k) n) (differ i n (omega arith)) ∙ none_equal f n i (omega arith)

same_number : (i : ℕ) → (i == i) ≡ true
same_number i = search arith

pub some_equal : (f : ℕ → Bool) (n i : ℕ) → i < n → some_below (λ k. (i == k) && f k) n ≡ f i
some_equal f zero i lt = absurd (omega arith)
some_equal f (suc n) i lt =
    elim (below_last i n lt) [
      | inl less ↦ ap (λ b. (b && f n) || some_below (λ k. (i == k) && f k) n) (differ_up i n less) ∙ some_equal f n i less
      | inr same ↦
          let none : some_below (λ k. (i == k) && f k) n ≡ false = none_equal f n i (omega arith) in
          let here : (i == n) ≡ true = subst (λ x. (i == x) ≡ true) same (same_number i) in
          ap (λ b. (b && f n) || some_below (λ k. (i == k) && f k) n) here
          ∙ ap (λ b. f n || b) none ∙ or_false (f n) ∙ ap f (sym same)
    ]

-- ---- rings

pub edge_shown : (t : List Bool) (n : ℕ) (e : ℕ → ℕ → Bool) → Shows t n e → (k j : ℕ) → k < n → j < n → edges_of t n k j ≡ e k j
edge_shown t n e s k j lt jn =
    sym (first_entry (nat_lt k n) (nat_lt j n) (at t n k j) (lt_true k n lt) (lt_true j n jn)) ∙ s.entries k j lt jn

-- to be in the ring before says nothing more, since what is reached from there is near already
last_ring_alone : (a b c : Bool) → (b ≡ true → c ≡ true → ⊥) → ((a && not b) && c) ≡ (a && c)
last_ring_alone true true true h = absurd (h refl refl)
last_ring_alone true true false h = refl
last_ring_alone true false c h = refl
last_ring_alone false b c h = refl

nearer : (e : ℕ → ℕ → Bool) (n d i k j : ℕ) → k < n → is_near e n d i k ≡ true → e k j ≡ true → is_near e n (suc d) i j ≡ true
unfolding is_near
nearer e n d i k j lt near edge =
    or_right (is_near e n d i j) (some_below (λ m. is_near e n d i m && e m j) n)
    (some_in (λ m. is_near e n d i m && e m j) n k lt (ap (λ b. b && e k j) near ∙ edge))

-- whether some edge from the near places leads to j
abbrev reach : (ℕ → ℕ → Bool) → ℕ → ℕ → ℕ → ℕ → Bool
reach e n d i j = some_below (λ k. is_near e n d i k && e k j) n

-- what is not near yet is reached from the last ring, or from nowhere
ring_reaches : (t : List Bool) (n : ℕ) (e : ℕ → ℕ → Bool) → Shows t n e → (d i j : ℕ) → i < n → j < n
    → is_near e n d i j ≡ false → is_reached t n (ring e n d i) j ≡ reach e n d i j
unfolding is_near
ring_reaches t n e s zero i j lt jn isnt =
    or_false (edges_of t n i j) ∙ edge_shown t n e s i j lt jn ∙ sym (some_equal (λ k. e k j) n i lt)
ring_reaches t n e s (suc d) i j lt jn isnt =
    any_numbers (λ k. edges_of t n k j) (λ k. is_near e n (suc d) i k && not (is_near e n d i k)) n
    ∙ some_agree (λ k. (is_near e n (suc d) i k && not (is_near e n d i k)) && edges_of t n k j) (λ k. is_near e n (suc d) i k && e k j) n (λ k kn.
    ap (λ b. (is_near e n (suc d) i k && not (is_near e n d i k)) && b) (edge_shown t n e s k j kn jn)
    ∙ last_ring_alone (is_near e n (suc d) i k) (is_near e n d i k) (e k j) (λ near edge.
    let there : is_near e n (suc d) i j ≡ true = nearer e n d i k j kn near edge in
    let no : false ≡ true = sym isnt ∙ there in cc))

-- what the search holds once it has come d edges far
pub record IsRound (e : ℕ → ℕ → Bool) (n i d : ℕ) (near : List Bool) (last places : List ℕ) : Type 0 where
  pub marks : (j : ℕ) → j < n → slice_index_or near j false ≡ is_near e n d i j
  pub last_is : last ≡ ring e n d i
  pub all : places ≡ rings e n d i

or_given : (a b c : Bool) → (a ≡ false → b ≡ c) → (a || b) ≡ (a || c)
or_given true b c h = refl
or_given false b c h = h refl

and_true : (c : Bool) → (c && true) ≡ c
and_true true = refl
and_true false = refl

new_alone : (a b c : Bool) → (a ≡ false → b ≡ c) → (not a && b) ≡ ((a || c) && not a)
new_alone true b c h = refl
new_alone false b c h = h refl ∙ sym (and_true c)

pub round_start : (e : ℕ → ℕ → Bool) (n i : ℕ) (near : List Bool) → ((j : ℕ) → j < n → slice_index_or near j false ≡ (i == j))
    → IsRound e n i 0 near (i ∷ []) (i ∷ [])
unfolding is_near
round_start e n i near h = record { marks = h; last_is = refl; all = refl }

pub round_next : (t : List Bool) (e : ℕ → ℕ → Bool) (n i d : ℕ) (near more : List Bool) (last next places : List ℕ)
    → Shows t n e → i < n → IsRound e n i d near last places
    → next ≡ numbers_below (is_next t n near last) n
    → ((j : ℕ) → j < n → slice_index_or more j false ≡ (slice_index_or near j false || is_reached t n last j))
    → IsRound e n i (d + 1) more next (places ++ next)
unfolding is_near
round_next t e n i d near more last next places s lt r next_is more_is =
    let reached : (j : ℕ) → j < n → slice_index_or near j false ≡ false → is_reached t n last j ≡ reach e n d i j = λ j jn isnt.
    ap (λ xs. is_reached t n xs j) r.last_is ∙ ring_reaches t n e s d i j lt jn (sym (r.marks j jn) ∙ isnt) in
    let ring_is : next ≡ ring e n (suc d) i =
    next_is ∙ numbers_agree (is_next t n near last) (λ j. is_near e n (suc d) i j && not (is_near e n d i j)) n (λ j jn.
    new_alone (slice_index_or near j false) (is_reached t n last j) (reach e n d i j) (reached j jn)
    ∙ ap (λ b. (b || reach e n d i j) && not b) (r.marks j jn)) in
    let up : suc d ≡ d + 1 = omega arith in
    subst (λ m. IsRound e n i m more next (places ++ next)) up (record {
      marks = λ j jn. more_is j jn
          ∙ or_given (slice_index_or near j false) (is_reached t n last j) (reach e n d i j) (reached j jn)
          ∙ ap (λ b. b || reach e n d i j) (r.marks j jn);
      last_is = ring_is;
      all = ap (λ xs. xs ++ next) r.all ∙ ap (λ xs. rings e n d i ++ xs) ring_is;
    })

pub round_end : (e : ℕ → ℕ → Bool) (n i d : ℕ) (near : List Bool) (last places : List ℕ) → d ≡ n → IsRound e n i d near last places → places ≡ order_of e n i
unfolding order_of
round_end e n i d near last places is r = r.all ∙ ap (λ m. rings e n m i) is

-- ---- where a ring is empty, all later ones are

front_empty : (xs ys : List ℕ) → xs ++ ys ≡ [] → xs ≡ []
front_empty [] ys e = refl
front_empty (x ∷ xs) ys e = cc

back_empty : (xs ys : List ℕ) → xs ++ ys ≡ [] → ys ≡ []
back_empty [] ys e = e
back_empty (x ∷ xs) ys e = cc

unpicked : (b : Bool) (n : ℕ) → (if b then n ∷ [] else []) ≡ [] → b ≡ false
unpicked true n e = cc
unpicked false n e = refl

none_pass : (p : ℕ → Bool) (n : ℕ) → numbers_below p n ≡ [] → (j : ℕ) → j < n → p j ≡ false
none_pass p zero e j lt = absurd (omega arith)
none_pass p (suc n) e j lt =
    elim (below_last j n lt) [
      | inl less ↦ none_pass p n (front_empty (numbers_below p n) (if p n then n ∷ [] else []) e) j less
      | inr same ↦ subst (λ x. p x ≡ false) (sym same) (unpicked (p n) n (back_empty (numbers_below p n) (if p n then n ∷ [] else []) e))
    ]

all_fail : (p : ℕ → Bool) (n : ℕ) → ((j : ℕ) → j < n → p j ≡ false) → numbers_below p n ≡ []
all_fail p zero h = refl
all_fail p (suc n) h =
    let before : numbers_below p n ≡ [] = all_fail p n (λ j lt. h j (omega arith)) in
    let here : p n ≡ false = h n (omega arith) in
    ap (λ xs. xs ++ (if p n then n ∷ [] else [])) before ∙ ap (λ b. if b then n ∷ [] else []) here

no_more : (a b : Bool) → ((a || b) && not a) ≡ false → (a || b) ≡ a
no_more true b h = refl
no_more false true h = cc
no_more false false h = refl

nothing_new : (a b c : Bool) → c ≡ b → (((a || b) || c) && not (a || b)) ≡ false
nothing_new true b c e = refl
nothing_new false true c e = refl
nothing_new false false c e = and_true c ∙ e

-- what one edge more leads to was near already
stays_near : (e : ℕ → ℕ → Bool) (n d i : ℕ) → ring e n (suc d) i ≡ [] → (j : ℕ) → j < n → is_near e n (suc d) i j ≡ is_near e n d i j
unfolding is_near
stays_near e n d i none j jn =
    no_more (is_near e n d i j) (reach e n d i j) (none_pass (λ k. is_near e n (suc d) i k && not (is_near e n d i k)) n none j jn)

ring_after : (e : ℕ → ℕ → Bool) (n d i : ℕ) → ring e n d i ≡ [] → ring e n (suc d) i ≡ []
unfolding is_near
ring_after e n zero i none = cc
ring_after e n (suc d) i none =
    all_fail (λ j. is_near e n (suc (suc d)) i j && not (is_near e n (suc d) i j)) n (λ j jn.
    nothing_new (is_near e n d i j) (reach e n d i j) (reach e n (suc d) i j)
    (some_agree (λ k. is_near e n (suc d) i k && e k j) (λ k. is_near e n d i k && e k j) n (λ k kn.
    ap (λ b. b && e k j) (stays_near e n d i none k kn))))

up_to : (d k : ℕ) → d ≤ suc k → (d ≤ k) ⊎ (d ≡ suc k)
up_to d k le = grind arith

rings_end : (e : ℕ → ℕ → Bool) (n i d k : ℕ) → d ≤ k → ring e n d i ≡ [] → (ring e n k i ≡ []) × (rings e n k i ≡ rings e n d i)
rings_end e n i d zero le none =
    let same : d ≡ 0 = omega arith in
    (subst (λ m. ring e n m i ≡ []) same none, ap (λ m. rings e n m i) (sym same))
rings_end e n i d (suc k) le none =
    elim (up_to d k le) [
      | inl less ↦
          let before = rings_end e n i d k less none in
          let after : ring e n (suc k) i ≡ [] = ring_after e n k i before.0 in
          (after, ap (λ xs. rings e n k i ++ xs) after ∙ append-nil (rings e n k i) ∙ before.1)
      | inr same ↦ (subst (λ m. ring e n m i ≡ []) same none, ap (λ m. rings e n m i) (sym same))
    ]

-- no places, as a `Vec` counts them
pub none_left : (xs : List ℕ) (n : ℕ) → n ≡ length xs → (n == 0) ≡ true → xs ≡ []
none_left [] n counted none = refl
none_left (x ∷ xs) n counted none = let zero_is : n ≡ 0 = eqb-true n 0 none in absurd (omega (arith, zero_is, counted))

pub round_stop : (e : ℕ → ℕ → Bool) (n i d : ℕ) (near : List Bool) (last places : List ℕ) → last ≡ [] → d ≤ n → IsRound e n i d near last places
    → places ≡ order_of e n i
unfolding order_of
round_stop e n i d near last places none le r = r.all ∙ sym (rings_end e n i d n le (sym r.last_is ∙ none)).1

-- the ring that stands at the end of the places
pub ring_pushed : (e : ℕ → ℕ → Bool) (n i d : ℕ) (near : List Bool) (places next new : List ℕ) (end : ℕ) → IsRound e n i d near next (places ++ next)
    → end ≡ length places → new ≡ places ++ next → IsRound e n i d near (drop end new) new
ring_pushed e n i d near places next new end r counted pushed =
    let last : drop end new ≡ next = (λ j. drop (counted j) (pushed j)) ∙ drop-append_seam places next in
    record { marks = r.marks; last_is = last ∙ r.last_is; all = pushed ∙ r.all }

-- one place alone is marked
pub mark_alone : (n i j : ℕ) → i < n → j < n → slice_index_or (slice_set (replicate n false) i true) j false ≡ (i == j)
mark_alone n i j lt jn = by_place (i == j) refl
  where
    by_place : (b : Bool) → (i == j) ≡ b → slice_index_or (slice_set (replicate n false) i true) j false ≡ b
    by_place true t =
        let is : j ≡ i = search (arith, t) in
        let within : i < length (replicate n false) = omega (arith, length-replicate n false) in
        get_or-set_at (replicate n false) i j true false is within
    by_place false t =
        let ne : j ≢ i = search (arith, t) in
        get_or-set_other (replicate n false) i j true false ne ∙ get_or-replicate n j false false jn

-- ---- all that a closed table shows

pub above_shown : (t : List Bool) (n i : ℕ) (e : ℕ → ℕ → Bool) → Shows t n (leads e n) → i < n → numbers_below (edges_of t n i) n ≡ above e n i
unfolding above
above_shown t n i e s lt = numbers_agree (edges_of t n i) (leads e n i) n (λ j jn. edge_shown t n (leads e n) s i j lt jn)

-- what a slice of the whole row of marks leaves in it
pub written_back : (n len : ℕ) (more near : List Bool) → length more ≡ n → length near ≡ n → len ≡ length near → take len (more ++ drop (length more) near) ≡ more
written_back n len more near a b c =
    let none : drop (length more) near ≡ [] = drop_all (length more) near (omega arith) in
    ap (λ xs. take len (more ++ xs)) none ∙ ap (take len) (append-nil more) ∙ take_all len more (omega arith)

-- ---- counts

pub counted_more : (p : ℕ → Bool) (j : ℕ) → p j ≡ true → count_below p (j + 1) ≡ count_below p j + 1
counted_more p j h =
    let s : suc j ≡ j + 1 = omega arith in
    let t : suc (count_below p j) ≡ count_below p j + 1 = omega arith in
    subst (λ m. count_below p m ≡ count_below p j + 1) s (ap (λ b. if b then suc (count_below p j) else count_below p j) h ∙ t)

pub counted_same : (p : ℕ → Bool) (j : ℕ) → p j ≡ false → count_below p (j + 1) ≡ count_below p j
counted_same p j h =
    let s : suc j ≡ j + 1 = omega arith in
    subst (λ m. count_below p m ≡ count_below p j) s (ap (λ b. if b then suc (count_below p j) else count_below p j) h)

counts_agree : (p q : ℕ → Bool) (n : ℕ) → ((j : ℕ) → j < n → p j ≡ q j) → count_below p n ≡ count_below q n
counts_agree p q zero h = refl
counts_agree p q (suc n) h =
    let a : count_below p n ≡ count_below q n = counts_agree p q n (λ j lt. h j (omega arith)) in
    let b : p n ≡ q n = h n (omega arith) in
    ap (λ k. if p n then suc k else k) a ∙ ap (λ c. if c then suc (count_below q n) else count_below q n) b

pub reach_shown : (t : List Bool) (n i : ℕ) (e : ℕ → ℕ → Bool) → Shows t n (leads e n) → i < n → count_below (edges_of t n i) n ≡ reach_of e n i
reach_shown t n i e s lt = counts_agree (edges_of t n i) (leads e n i) n (λ j jn. edge_shown t n (leads e n) s i j lt jn)
