-- Wires of one core are alike.
use Rattle.std.specs.Prelude.{ℕ, ◌+◌, ◌≡◌, Bool, true, false, cond, is_some, List, [], ◌∷◌, ◌++◌, length, Option, Some, None, unwrap_or, map as list_map}
use Rattle.std.specs.Ordering.{nat_cmp, is_eq}
use Rattle.std.specs.FinMap as map
use Rattle.std.specs.FinMap.{get-entries, find}
use Rattle.std.proofs.Common.{refl, sym, ap, ◌∙◌, arith}
use Rattle.ang_remote.specs.Ledger.{Live}
use Rattle.ang_remote.specs.Wires.{Wire, known_code, core_of, is_live, AreAlike}

-- two lists of one length, each before others
split_same : (xs ys r s : List ℕ) → length xs ≡ length ys → xs ++ r ≡ ys ++ s → (xs ≡ ys) × (r ≡ s)
split_same [] [] r s e h = (refl, h)
split_same [] (y ∷ ys) r s e h = absurd (omega (arith, e))
split_same (x ∷ xs) [] r s e h = absurd (omega (arith, e))
split_same (x ∷ xs) (y ∷ ys) r s e h =
    let one : x ≡ y = cc in
    let more : xs ++ r ≡ ys ++ s = cc in
    let p = split_same xs ys r s (omega (arith, e)) more in (λ i. one i ∷ p.0 i, p.1)

known_parts : (a b : Option (List ℕ)) (r s : List ℕ) → known_code a r ≡ known_code b s → (a ≡ b) × (r ≡ s)
known_parts None None r s h = let more : r ≡ s = cc in (refl, more)
known_parts None (Some ys) r s h = let one : 0 ≡ length ys + 1 = cc in absurd (omega (arith, one))
known_parts (Some xs) None r s h = let one : length xs + 1 ≡ 0 = cc in absurd (omega (arith, one))
known_parts (Some xs) (Some ys) r s h =
    let one : length xs + 1 ≡ length ys + 1 = cc in
    let more : xs ++ r ≡ ys ++ s = cc in
    let p = split_same xs ys r s (omega (arith, one)) more in (ap (λ l. Some l) p.0, p.1)

-- whether a key is there is told by the keys alone
there : (k : ℕ) (b : Bool) (v w : Bool) (o p : Option Bool) → is_some o ≡ is_some p → is_some (cond b (Some v) o) ≡ is_some (cond b (Some w) p)
there k true v w o p h = refl
there k false v w o p h = h

found_alike : (k : ℕ) (es gs : List (ℕ × Bool)) → list_map (λ e. e.0) es ≡ list_map (λ e. e.0) gs → is_some (find nat_cmp k es) ≡ is_some (find nat_cmp k gs)
found_alike k [] [] h = refl
found_alike k [] (g ∷ gs) h = absurd (let x : ⊥ = cc in x)
found_alike k (e ∷ es) [] h = absurd (let x : ⊥ = cc in x)
found_alike k (e ∷ es) (g ∷ gs) h =
    let one : e.0 ≡ g.0 = cc in
    let more : list_map (λ x. x.0) es ≡ list_map (λ x. x.0) gs = cc in
    there k (is_eq (nat_cmp k e.0)) e.1 g.1 (find nat_cmp k es) (find nat_cmp k gs) (found_alike k es gs more)
    ∙ ap (λ n. is_some (cond (is_eq (nat_cmp k n)) (Some g.1) (find nat_cmp k gs))) one

live_alike : (a b : Live) (k : ℕ) → list_map (λ e. e.0) (map.entries a) ≡ list_map (λ e. e.0) (map.entries b) → is_live a k ≡ is_live b k
live_alike a b k h = ap is_some (get-entries a k) ∙ found_alike k (map.entries a) (map.entries b) h ∙ sym (ap is_some (get-entries b k))

pub alike : (x y : Wire) → core_of x ≡ core_of y → AreAlike x y
alike x y h =
    let n : x.number ≡ y.number = cc in
    let more : known_code x.written (known_code x.unread (known_code (Some x.posted) (list_map (λ e. e.0) (map.entries x.live))))
    ≡ known_code y.written (known_code y.unread (known_code (Some y.posted) (list_map (λ e. e.0) (map.entries y.live)))) = cc in
    let p = known_parts x.written y.written _ _ more in
    let q = known_parts x.unread y.unread _ _ p.1 in
    let r = known_parts (Some x.posted) (Some y.posted) _ _ q.1 in
    record {
      number = n;
      posted = ap (λ o. unwrap_or o []) r.0;
      live = λ k. live_alike x.live y.live k r.1;
      written = p.0;
      unread = q.0;
    }
