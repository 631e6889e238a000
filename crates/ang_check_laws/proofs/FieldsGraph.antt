-- What the places near another one weigh together: each counts once, whichever ring it is in. With one edge at most from each place they are
-- the place itself and those near the next one.
use Rattle.std.specs.Prelude.{ℕ, zero, suc, Bool, true, false, not, ◌≡◌, ◌<◌, ◌≤◌, ◌+◌, ◌==◌, ◌&&◌, ◌||◌, ◌⊎◌, List, [], ◌∷◌, ◌++◌, drop, if◌then◌else◌}
use Rattle.std.proofs.Common.{arith, refl, ap, sym, subst, inl, inr, ◌∙◌}
use Rattle.std.proofs.lemmas.Bool.{eqb-true, eq-eqb}
use Rattle.ang_names_graph.specs.Graphs.{numbers_below, some_below, is_near, ring, rings, order_of}
use Rattle.ang_check_laws.proofs.ClassesGraph.{or_left, or_right, or_cases, and_parts, some_out, near_itself, near_up, near_more, in_ring}

pub same_truth : (a b : Bool) → (a ≡ true → b ≡ true) → (b ≡ true → a ≡ true) → a ≡ b
same_truth true b f g = sym (f refl)
same_truth false true f g = g refl
same_truth false false f g = refl

-- ---- weights

abbrev pub total : (ℕ → ℕ) → List ℕ → ℕ
total w [] = zero
total w (x ∷ xs) = w x + total w xs

-- what the numbers below n that pass weigh
abbrev pub weight : (ℕ → ℕ) → (ℕ → Bool) → ℕ → ℕ
weight w p zero = zero
weight w p (suc n) = weight w p n + (if p n then w n else zero)

module _ (w : ℕ → ℕ) where
  total_joined : (xs ys : List ℕ) → total w (xs ++ ys) ≡ total w xs + total w ys
  total_joined [] ys = omega arith
  total_joined (x ∷ xs) ys = let rest = total_joined xs ys in omega (arith, rest)

  total_last : (b : Bool) (n : ℕ) → total w (if b then n ∷ [] else []) ≡ (if b then w n else zero)
  total_last true n = omega arith
  total_last false n = refl

  total_numbers : (p : ℕ → Bool) (n : ℕ) → total w (numbers_below p n) ≡ weight w p n
  total_numbers p zero = refl
  total_numbers p (suc n) =
      let joined = total_joined (numbers_below p n) (if p n then n ∷ [] else []) in
      let last = total_last (p n) n in
      let before = total_numbers p n in
      joined ∙ ap (λ k. k + total w (if p n then n ∷ [] else [])) before ∙ ap (λ k. weight w p n + k) last

  weight_agree : (p q : ℕ → Bool) (n : ℕ) → ((j : ℕ) → p j ≡ q j) → weight w p n ≡ weight w q n
  weight_agree p q zero h = refl
  weight_agree p q (suc n) h =
      ap (λ k. k + (if p n then w n else zero)) (weight_agree p q n h) ∙ ap (λ b. weight w q n + (if b then w n else zero)) (h n)

  one_ring : (a b : Bool) (k : ℕ) → (b ≡ true → a ≡ true) → (if (a && not b) then k else zero) + (if b then k else zero) ≡ (if a then k else zero)
  one_ring true true k h = omega arith
  one_ring true false k h = omega arith
  one_ring false true k h = absurd (let no' : false ≡ true = h refl in cc)
  one_ring false false k h = refl

  add_four : (x y a b s t : ℕ) → x + y ≡ s → a + b ≡ t → (x + a) + (y + b) ≡ s + t
  add_four x y a b s t e f = omega (arith, e, f)

  weight_ring : (p q : ℕ → Bool) (n : ℕ) → ((j : ℕ) → q j ≡ true → p j ≡ true) → weight w (λ j. p j && not (q j)) n + weight w q n ≡ weight w p n
  weight_ring p q zero h = refl
  weight_ring p q (suc n) h =
      add_four (weight w (λ j. p j && not (q j)) n) (weight w q n) (if (p n && not (q n)) then w n else zero) (if q n then w n else zero) (weight w p n)
      (if p n then w n else zero) (weight_ring p q n h) (one_ring (p n) (q n) (w n) (h n))

  -- ---- one place more

  differ : (i n : ℕ) → n < i → (i == n) ≡ false
  differ i n lt = search arith

  differ_up : (i n : ℕ) → i < n → (i == n) ≡ false
  differ_up i n lt = search arith

  below_last : (j n : ℕ) → j < suc n → (j < n) ⊎ (j ≡ n)
  below_last j n lt = grind arith

  weight_before : (p : ℕ → Bool) (i n : ℕ) → n ≤ i → weight w (λ j. (i == j) || p j) n ≡ weight w p n
  weight_before p i zero le = refl
  weight_before p i (suc n) le =
      ap (λ b. weight w (λ j. (i == j) || p j) n + (if (b || p n) then w n else zero)) (differ i n (omega (arith, le)))
      ∙ ap (λ k. k + (if p n then w n else zero)) (weight_before p i n (omega (arith, le)))

  pub weight_more : (p : ℕ → Bool) (i n : ℕ) → i < n → p i ≡ false → weight w (λ j. (i == j) || p j) n ≡ w i + weight w p n
  weight_more p i zero lt off = absurd (omega (arith, lt))
  weight_more p i (suc n) lt off =
      elim (below_last i n lt) [
        | inl less ↦
            let before = weight_more p i n less off in
            ap (λ b. weight w (λ j. (i == j) || p j) n + (if (b || p n) then w n else zero)) (differ_up i n less)
            ∙ ap (λ k. k + (if p n then w n else zero)) before
            ∙ (let joined : (w i + weight w p n) + (if p n then w n else zero) ≡ w i + (weight w p n + (if p n then w n else zero)) = omega arith in joined)
        | inr same ↦
            let none : p n ≡ false = subst (λ x. p x ≡ false) same off in
            let before = weight_before p i n (omega (arith, same)) in
            ap (λ b. weight w (λ j. (i == j) || p j) n + (if (b || p n) then w n else zero)) (eq-eqb i n same)
            ∙ ap (λ k. k + w n) before
            ∙ (let turned : weight w p n + w n ≡ w n + (weight w p n + zero) = omega arith in turned)
            ∙ ap (λ k. w k + (weight w p n + zero)) (sym same)
            ∙ ap (λ b. w i + (weight w p n + (if b then w n else zero))) (sym none)
      ]

  weight_none : (n : ℕ) → weight w (λ j. false) n ≡ zero
  weight_none zero = refl
  weight_none (suc n) = ap (λ k. k + zero) (weight_none n)

  or_nothing : (a : Bool) → a ≡ (a || false)
  or_nothing true = refl
  or_nothing false = refl

  pub weight_one : (i n : ℕ) → i < n → weight w (λ j. i == j) n ≡ w i
  weight_one i n lt =
      let none = weight_none n in
      weight_agree (λ j. i == j) (λ j. (i == j) || false) n (λ j. or_nothing (i == j))
      ∙ weight_more (λ j. false) i n lt refl
      ∙ ap (λ k. w i + k) none ∙ (let end' : w i + zero ≡ w i = omega arith in end')

  -- ---- rings

  turned : (a b c : ℕ) → b + a ≡ c → a + b ≡ c
  turned a b c h = omega (arith, h)

  module _ (e : ℕ → ℕ → Bool) (n : ℕ) where
    near_zero : (i j : ℕ) → is_near e n zero i j ≡ (i == j)
    unfolding is_near
    near_zero i j = refl

    pub weight_zero : (i : ℕ) → i < n → weight w (is_near e n zero i) n ≡ w i
    weight_zero i lt = weight_agree (is_near e n zero i) (λ j. i == j) n (near_zero i) ∙ weight_one i n lt

    total_rings : (d i : ℕ) → i < n → total w (rings e n d i) ≡ weight w (is_near e n d i) n
    total_rings zero i lt = let one = sym (weight_zero i lt) in let end' : w i + zero ≡ w i = omega arith in end' ∙ one
    total_rings (suc d) i lt =
        let joined = total_joined (rings e n d i) (ring e n (suc d) i) in
        let before = total_rings d i lt in
        let last = total_numbers (in_ring e n d i) n in
        let all = weight_ring (is_near e n (suc d) i) (is_near e n d i) n (near_up e n d i) in
        joined ∙ ap (λ k. k + total w (ring e n (suc d) i)) before
        ∙ ap (λ k. weight w (is_near e n d i) n + k) last
        ∙ turned (weight w (is_near e n d i) n) (weight w (in_ring e n d i) n) (weight w (is_near e n (suc d) i) n) all

    pub total_order : (i : ℕ) → i < n → total w (order_of e n i) ≡ weight w (is_near e n n i) n
    unfolding order_of
    total_order i lt = total_rings n i lt

rings_first : (e : ℕ → ℕ → Bool) (n d i : ℕ) → rings e n d i ≡ i ∷ drop 1 (rings e n d i)
rings_first e n zero i = refl
rings_first e n (suc d) i =
    let whole = ap (λ xs. xs ++ ring e n (suc d) i) (rings_first e n d i) in whole ∙ ap (λ xs. i ∷ xs) (sym (ap (drop 1) whole))

pub order_first : (e : ℕ → ℕ → Bool) (n i : ℕ) → order_of e n i ≡ i ∷ drop 1 (order_of e n i)
unfolding order_of
order_first e n i = rings_first e n n i

-- ---- one edge at most

near_cases : (e : ℕ → ℕ → Bool) (n d i j : ℕ) → is_near e n (suc d) i j ≡ true
    → (is_near e n d i j ≡ true) ⊎ ((k : ℕ) × (k < n) × (is_near e n d i k ≡ true) × (e k j ≡ true))
unfolding is_near
near_cases e n d i j h =
    elim (or_cases (is_near e n d i j) (some_below (λ k. is_near e n d i k && e k j) n) h) [
      | inl before ↦ inl before
      | inr last ↦
          let found = some_out (λ k. is_near e n d i k && e k j) n last in
          let parts = and_parts (is_near e n d i found.0) (e found.0 j) found.2 in inr (found.0, found.1, parts.0, parts.1)
    ]

near_same : (e : ℕ → ℕ → Bool) (n i j : ℕ) → is_near e n zero i j ≡ true → i ≡ j
unfolding is_near
near_same e n i j h = eqb-true i j h

always_near : (e : ℕ → ℕ → Bool) (n d i : ℕ) → is_near e n d i i ≡ true
always_near e n zero i = near_itself e n i
always_near e n (suc d) i = near_up e n d i i (always_near e n d i)

module _ (e : ℕ → ℕ → Bool) (n k : ℕ) where
  itself_near : (d : ℕ) → is_near e n d k k ≡ true
  itself_near d = always_near e n d k

  -- no edge at all
  alone : ((j : ℕ) → e k j ≡ false) → (d j : ℕ) → is_near e n d k j ≡ true → k ≡ j
  alone off zero j h = near_same e n k j h
  alone off (suc d) j h =
      elim (near_cases e n d k j h) [
        | inl before ↦ alone off d j before
        | inr last ↦
            let here : k ≡ last.0 = alone off d last.0 last.2 in
            absurd (let no' : false ≡ true = sym (off j) ∙ subst (λ x. e x j ≡ true) (sym here) last.3 in cc)
      ]

  pub near_alone : ((j : ℕ) → e k j ≡ false) → (d j : ℕ) → is_near e n d k j ≡ (k == j)
  near_alone off d j =
      same_truth (is_near e n d k j) (k == j) (λ h. eq-eqb k j (alone off d j h)) (λ h. subst (λ x. is_near e n d k x ≡ true) (eqb-true k j h) (itself_near d))

  module _ (b : ℕ) (lt : k < n) (edge : e k b ≡ true) (only : (j : ℕ) → e k j ≡ true → j ≡ b) where
    next_out : (d j x : ℕ) → k ≡ x → e x j ≡ true → is_near e n d b j ≡ true
    next_out d j x same h =
        let there : j ≡ b = only j (subst (λ y. e y j ≡ true) (sym same) h) in
        subst (λ y. is_near e n d b y ≡ true) (sym there) (always_near e n d b)

    further_out : (d j : ℕ) → is_near e n (suc d) k j ≡ true → (k ≡ j) ⊎ (is_near e n d b j ≡ true)
    further_out zero j h =
        elim (near_cases e n zero k j h) [
          | inl before ↦ inl (near_same e n k j before)
          | inr last ↦ inr (next_out zero j last.0 (near_same e n k last.0 last.2) last.3)
        ]
    further_out (suc d) j h =
        elim (near_cases e n (suc d) k j h) [
          | inl before ↦ elim (further_out d j before) [ inl same ↦ inl same | inr near ↦ inr (near_up e n d b j near) ]
          | inr last ↦ elim (further_out d last.0 last.2) [
            | inl same ↦ inr (next_out (suc d) j last.0 same last.3)
            | inr near ↦ inr (near_more e n d b last.0 j last.1 near last.3)
          ]
        ]

    further_in : (d j : ℕ) → is_near e n d b j ≡ true → is_near e n (suc d) k j ≡ true
    further_in zero j h = near_more e n zero k k j lt (near_itself e n k) (subst (λ x. e k x ≡ true) (near_same e n b j h) edge)
    further_in (suc d) j h =
        elim (near_cases e n d b j h) [
          | inl before ↦ near_up e n (suc d) k j (further_in d j before)
          | inr last ↦ near_more e n (suc d) k last.0 j last.1 (further_in d last.0 last.2) last.3
        ]

    either : (d j : ℕ) → (k ≡ j) ⊎ (is_near e n d b j ≡ true) → ((k == j) || is_near e n d b j) ≡ true
    either d j (inl same) = or_left (k == j) (is_near e n d b j) (eq-eqb k j same)
    either d j (inr near) = or_right (k == j) (is_near e n d b j) near

    back : (d j : ℕ) → ((k == j) || is_near e n d b j) ≡ true → is_near e n (suc d) k j ≡ true
    back d j h =
        elim (or_cases (k == j) (is_near e n d b j) h) [
          | inl same ↦ subst (λ x. is_near e n (suc d) k x ≡ true) (eqb-true k j same) (itself_near (suc d))
          | inr near ↦ further_in d j near
        ]

    pub near_next : (d j : ℕ) → is_near e n (suc d) k j ≡ ((k == j) || is_near e n d b j)
    near_next d j =
        same_truth (is_near e n (suc d) k j) ((k == j) || is_near e n d b j) (λ h. either d j (further_out d j h)) (back d j)

  -- what is near weighs as much as the place and what is near the next one
  pub weight_next : (w : ℕ → ℕ) (b d : ℕ) → k < n → e k b ≡ true → ((j : ℕ) → e k j ≡ true → j ≡ b) → is_near e n d b k ≡ false
      → weight w (is_near e n (suc d) k) n ≡ w k + weight w (is_near e n d b) n
  weight_next w b d lt edge only off =
      weight_agree w (is_near e n (suc d) k) (λ j. (k == j) || is_near e n d b j) n (near_next b lt edge only d)
      ∙ weight_more w (is_near e n d b) k n lt off

  pub weight_alone : (w : ℕ → ℕ) (d : ℕ) → k < n → ((j : ℕ) → e k j ≡ false) → weight w (is_near e n d k) n ≡ w k
  weight_alone w d lt off = weight_agree w (is_near e n d k) (λ j. k == j) n (near_alone off d) ∙ weight_one w k n lt
