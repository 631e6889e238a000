-- The closure is the least relation that holds the edges and the ways, and ranks fall along it.
use Rattle.std.specs.Prelude.{ℕ, zero, suc, Bool, true, false, ◌≡◌, ◌<◌, ◌≤◌, ◌&&◌, ◌||◌, ◌⊎◌, ◌↔◌, if◌then◌else◌}
use Rattle.std.proofs.Common.{arith, refl, subst, inl, inr}
use Rattle.ang_names_graph.specs.Graphs.{leads, Way, IsWithin, count_below, reach_of}

or_left : (a b : Bool) → a ≡ true → (a || b) ≡ true
or_left true b e = refl
or_left false b e = cc

or_right : (a b : Bool) → b ≡ true → (a || b) ≡ true
or_right true b e = refl
or_right false b e = e

both : (a b : Bool) → a ≡ true → b ≡ true → (a && b) ≡ true
both true b e f = f
both false b e f = cc

or_cases : (a b : Bool) → (a || b) ≡ true → (a ≡ true) ⊎ (b ≡ true)
or_cases true b e = inl refl
or_cases false b e = inr e

and_parts : (a b : Bool) → (a && b) ≡ true → (a ≡ true) × (b ≡ true)
and_parts true b e = (refl, e)
and_parts false b e = cc

-- the two ways to get to j, one number up
leads_up : (e : ℕ → ℕ → Bool) (k i j : ℕ) → leads e k i j ≡ true → leads e (suc k) i j ≡ true
unfolding leads
leads_up e k i j h = or_left (leads e k i j) (leads e k i k && leads e k k j) h

leads_by : (e : ℕ → ℕ → Bool) (k i j : ℕ) → leads e k i k ≡ true → leads e k k j ≡ true → leads e (suc k) i j ≡ true
unfolding leads
leads_by e k i j h g = or_right (leads e k i j) (leads e k i k && leads e k k j) (both (leads e k i k) (leads e k k j) h g)

leads_cases : (e : ℕ → ℕ → Bool) (k i j : ℕ) → leads e (suc k) i j ≡ true → (leads e k i j ≡ true) ⊎ ((leads e k i k ≡ true) × (leads e k k j ≡ true))
unfolding leads
leads_cases e k i j h =
    elim (or_cases (leads e k i j) (leads e k i k && leads e k k j) h) [ inl a ↦ inl a | inr b ↦ inr (and_parts (leads e k i k) (leads e k k j) b) ]

-- into and out of place k nothing is added at turn k
into : (e : ℕ → ℕ → Bool) (k i : ℕ) → leads e (suc k) i k ≡ true → leads e k i k ≡ true
into e k i h = elim (leads_cases e k i k h) [ inl a ↦ a | inr b ↦ b.0 ]

out_of : (e : ℕ → ℕ → Bool) (k j : ℕ) → leads e (suc k) k j ≡ true → leads e k k j ≡ true
out_of e k j h = elim (leads_cases e k k j h) [ inl a ↦ a | inr b ↦ b.1 ]

order : (k p : ℕ) → k < suc p → (k < p) ⊎ (k ≡ p)
order k p lt = grind arith

-- two ways that meet at a place below n join
pub leads_join : (e : ℕ → ℕ → Bool) (n i k j : ℕ) → k < n → leads e n i k ≡ true → leads e n k j ≡ true → leads e n i j ≡ true
leads_join e zero i k j lt a b = absurd (omega arith)
leads_join e (suc p) i k j lt a b =
    elim (order k p lt) [
      | inr same ↦
          let a' : leads e (suc p) i p ≡ true = subst (λ x. leads e (suc p) i x ≡ true) same a in
          let b' : leads e (suc p) p j ≡ true = subst (λ x. leads e (suc p) x j ≡ true) same b in
          leads_by e p i j (into e p i a') (out_of e p j b')
      | inl less ↦
          elim (leads_cases e p i k a) [
            | inl x ↦ elim (leads_cases e p k j b) [
              | inl y ↦ leads_up e p i j (leads_join e p i k j less x y)
              | inr y ↦ leads_by e p i j (leads_join e p i k p less x y.0) y.1
            ]
            | inr x ↦ elim (leads_cases e p k j b) [
              | inl y ↦ leads_by e p i j x.0 (leads_join e p p k j less x.1 y)
              | inr y ↦ leads_by e p i j x.0 y.1
            ]
          ]
    ]

leads_edge : (e : ℕ → ℕ → Bool) (n i j : ℕ) → e i j ≡ true → leads e n i j ≡ true
unfolding leads
leads_edge e zero i j h = h
leads_edge e (suc n) i j h = leads_up e n i j (leads_edge e n i j h)

-- every way is in the closure
leads_way : (e : ℕ → ℕ → Bool) (n : ℕ) → IsWithin e n → (m i j : ℕ) → Way e m i j → leads e n i j ≡ true
leads_way e n w zero i j h = leads_edge e n i j h
leads_way e n w (suc m) i j h =
    leads_join e n i h.0 j (w.below i h.0 h.1) (leads_edge e n i h.0 h.1) (leads_way e n w m h.0 j h.2)

-- ways join
way_join : (e : ℕ → ℕ → Bool) (a b i k j : ℕ) → Way e a i k → Way e b k j → (m : ℕ) × Way e m i j
way_join e zero b i k j h g = (suc b, (k, h, g))
way_join e (suc a) b i k j h g = let r = way_join e a b h.0 k j h.2 g in (suc r.0, (h.0, h.1, r.1))

-- what is in the closure has a way
way_leads : (e : ℕ → ℕ → Bool) (n i j : ℕ) → leads e n i j ≡ true → (m : ℕ) × Way e m i j
unfolding leads
way_leads e zero i j h = (zero, h)
way_leads e (suc n) i j h =
    elim (leads_cases e n i j h) [
      | inl a ↦ way_leads e n i j a
      | inr b ↦
          let x = way_leads e n i n b.0 in
          let y = way_leads e n n j b.1 in
          way_join e x.0 y.0 i n j x.1 y.1
    ]

pub least : (e : ℕ → ℕ → Bool) (n : ℕ) → IsWithin e n → (i j : ℕ) → (leads e n i j ≡ true) ↔ ((m : ℕ) × Way e m i j)
least e n w i j = (way_leads e n i j, λ h. leads_way e n w h.0 i j h.1)

-- the last edge ends below n
leads_within : (e : ℕ → ℕ → Bool) (n k : ℕ) → IsWithin e n → (i j : ℕ) → leads e k i j ≡ true → j < n
unfolding leads
leads_within e n zero w i j h = w.below i j h
leads_within e n (suc k) w i j h =
    elim (leads_cases e k i j h) [ inl a ↦ leads_within e n k w i j a | inr b ↦ leads_within e n k w k j b.1 ]

count_step : (a b : Bool) (x y : ℕ) → (a ≡ true → b ≡ true) → x ≤ y → (if a then suc x else x) ≤ (if b then suc y else y)
count_step true true x y h le = omega arith
count_step true false x y h le = absurd (let e : false ≡ true = h refl in cc)
count_step false true x y h le = omega arith
count_step false false x y h le = le

count_more : (p q : ℕ → Bool) (n : ℕ) → ((k : ℕ) → p k ≡ true → q k ≡ true) → count_below p n ≤ count_below q n
count_more p q zero h = omega arith
count_more p q (suc n) h = count_step (p n) (q n) (count_below p n) (count_below q n) (h n) (count_more p q n h)

count_strict_here : (a b : Bool) (x y : ℕ) → a ≡ false → b ≡ true → x ≤ y → (if a then suc x else x) < (if b then suc y else y)
count_strict_here true b x y e f le = cc
count_strict_here false true x y e f le = omega arith
count_strict_here false false x y e f le = cc

count_strict_step : (a b : Bool) (x y : ℕ) → (a ≡ true → b ≡ true) → x < y → (if a then suc x else x) < (if b then suc y else y)
count_strict_step true true x y h lt = omega arith
count_strict_step true false x y h lt = absurd (let e : false ≡ true = h refl in cc)
count_strict_step false true x y h lt = omega arith
count_strict_step false false x y h lt = lt

count_less : (p q : ℕ → Bool) (n j : ℕ) → ((k : ℕ) → p k ≡ true → q k ≡ true) → j < n → p j ≡ false → q j ≡ true → count_below p n < count_below q n
count_less p q zero j h lt isnt yes' = absurd (omega arith)
count_less p q (suc n) j h lt isnt yes' =
    elim (order j n lt) [
      | inl less ↦ count_strict_step (p n) (q n) (count_below p n) (count_below q n) (h n) (count_less p q n j h less isnt yes')
      | inr same ↦ count_strict_here (p n) (q n) (count_below p n) (count_below q n) (subst (λ x. p x ≡ false) same isnt) (subst (λ x. q x ≡ true) same yes') (count_more p q n h)
    ]

pub falls : (e : ℕ → ℕ → Bool) (n : ℕ) → IsWithin e n → (i j : ℕ) → leads e n i j ≡ true → leads e n j j ≡ false → reach_of e n j < reach_of e n i
falls e n w i j h isnt =
    let lt : j < n = leads_within e n n w i j h in
    count_less (leads e n j) (leads e n i) n j (λ k g. leads_join e n i j k lt h g) lt isnt h
