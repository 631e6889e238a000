-- What stands at a key's place among pairs whose keys rise, and what a change there does.
use Rattle.std.specs.Prelude.{ℕ, zero, suc, ℤ, ◌+◌, ◌≡◌, ◌<◌, ◌≤◌, Bool, true, false, cond, nat_lt, not, ◌&&◌, T, [], ◌∷◌, length, is_some, Some, None, slice_get, slice_index_or, slice_set, IfOk, IfErr, OnOk, OnErr}
use Rattle.std.specs.Option.{option_map}
use Rattle.std.specs.declared.cmp.Ordering.{Ordering}
use Rattle.std.specs.declared.cmp.Ordering.TheVariants.{Less, Equal, Greater}
use Rattle.std.specs.List.{insert, remove}
use Rattle.std.specs.List.Sorted.{IsSearchInRange, IsBinarySearchResult, IsNonDecreasingBy}
use Rattle.std.specs.Ordering.{int_cmp, is_eq, is_lt, ordering_index, ordering_reverse}
use Rattle.std.specs.FinMap.{find, put, is_sorted, int_cmp-IsAntisymmetric}
use Rattle.std.specs.FinMap.Entries.{by_order, below_all, is_sorted-put, is_sorted-where_key}
use Rattle.std.proofs.Common.{Result, Ok, Err, refl, sym, ◌∙◌, ap, subst, arith, inl, inr}
use Rattle.std.proofs.lemmas.Bool.{ltb-true}
use Rattle.std.proofs.lemmas.Cmp.{int_cmp_total}
use Rattle.std.proofs.lemmas.List.Sorted.{searchable_from_sorted}
use Rattle.ang_host.specs.declared.answer.Answer.TheVariants.{Fault}
use Rattle.ang_drivers.specs.IntMap.{Pairs, has_key, told_of, without_key, HasRoom}
use Rattle.ang_drivers.specs.Places.{IsAt, IsGap}

-- ---- comparisons

turned : (x y : ℤ) (r : Ordering) → int_cmp x y ≡ r → int_cmp y x ≡ ordering_reverse r
turned x y r e = int_cmp_total.antisymm y x ∙ ap ordering_reverse e

less_is : (r : Ordering) → T (is_lt r) → r ≡ Less
less_is Less h = refl
less_is Equal h = absurd h
less_is Greater h = absurd h

both : (a b : Bool) → T a → T b → T (a && b)
both true b p q = q
both false b p q = p

first : (a b : Bool) → T (a && b) → T a
first true b h = tt
first false b h = h

second : (a b : Bool) → T (a && b) → T b
second true b h = h
second false b h = absurd h

-- ---- keys that are below all others

below_more : (x y : ℤ) (es : Pairs) → int_cmp x y ≡ Less → T (below_all int_cmp y es) → T (below_all int_cmp x es)
below_more x y [] p h = tt
below_more x y (e ∷ es) p h =
    let here : int_cmp y e.0 ≡ Less = less_is (int_cmp y e.0) (first (is_lt (int_cmp y e.0)) (below_all int_cmp y es) h) in
    let far : int_cmp x e.0 ≡ Less = int_cmp_total.trans x y e.0 p here in
    both (is_lt (int_cmp x e.0)) (below_all int_cmp x es) (subst (λ r. T (is_lt r)) (sym far) tt)
    (below_more x y es p (second (is_lt (int_cmp y e.0)) (below_all int_cmp y es) h))

below_here : (x : ℤ) (e : ℤ × ℤ) (es : Pairs) → T (below_all int_cmp x (e ∷ es)) → int_cmp x e.0 ≡ Less
below_here x e es h = less_is (int_cmp x e.0) (first (is_lt (int_cmp x e.0)) (below_all int_cmp x es) h)

below_rest : (x : ℤ) (e : ℤ × ℤ) (es : Pairs) → T (below_all int_cmp x (e ∷ es)) → T (below_all int_cmp x es)
below_rest x e es h = second (is_lt (int_cmp x e.0)) (below_all int_cmp x es) h

below_at : (x : ℤ) (es : Pairs) (i : ℕ) (d : ℤ × ℤ) → T (below_all int_cmp x es) → i < length es → int_cmp x (slice_index_or es i d).0 ≡ Less
below_at x [] i d h lt = absurd (omega (arith, lt))
below_at x (e ∷ es) zero d h lt = below_here x e es h
below_at x (e ∷ es) (suc i) d h lt = below_at x es i d (below_rest x e es h) (omega (arith, lt))

-- the keys behind the first one are above it, and rise
behind : (e : ℤ × ℤ) (es : Pairs) → T (is_sorted int_cmp (e ∷ es)) → T (below_all int_cmp e.0 es)
behind e es h = first (below_all int_cmp e.0 es) (is_sorted int_cmp es) h

rest_rises : (e : ℤ × ℤ) (es : Pairs) → T (is_sorted int_cmp (e ∷ es)) → T (is_sorted int_cmp es)
rest_rises e es h = second (below_all int_cmp e.0 es) (is_sorted int_cmp es) h

find_none : (k : ℤ) (es : Pairs) → T (below_all int_cmp k es) → find int_cmp k es ≡ None
find_none k [] h = refl
find_none k (e ∷ es) h = ap (λ r. cond (is_eq r) (Some e.1) (find int_cmp k es)) (below_here k e es h) ∙ find_none k es (below_rest k e es h)

kept_all : (k : ℤ) (es : Pairs) → T (below_all int_cmp k es) → without_key k es ≡ es
kept_all k [] h = refl
kept_all k (e ∷ es) h =
    ap (λ r. cond (not (is_eq r)) (e ∷ without_key k es) (without_key k es)) (below_here k e es h) ∙ ap (λ l. e ∷ l) (kept_all k es (below_rest k e es h))

-- ---- at the place of a key

pub put_at : (es : Pairs) (k z : ℤ) (i : ℕ) → IsAt es k i → put int_cmp k z es ≡ slice_set es i (k, z)
put_at [] k z i h = absurd h
put_at (e ∷ es) k z zero h =
    ap (λ r. by_order r ((k, z) ∷ e ∷ es) ((e.0, z) ∷ es) (e ∷ put int_cmp k z es)) h ∙ ap (λ j. (j, z) ∷ es) (sym (int_cmp-IsAntisymmetric k e.0 h))
put_at (e ∷ es) k z (suc i) h =
    ap (λ r. by_order r ((k, z) ∷ e ∷ es) ((e.0, z) ∷ es) (e ∷ put int_cmp k z es)) h.0 ∙ ap (λ l. e ∷ l) (put_at es k z i h.1)

pub put_in_gap : (es : Pairs) (k z : ℤ) (i : ℕ) → IsGap es k i → put int_cmp k z es ≡ insert es i (k, z)
put_in_gap [] k z zero h = refl
put_in_gap [] k z (suc i) h = absurd h
put_in_gap (e ∷ es) k z zero h = ap (λ r. by_order r ((k, z) ∷ e ∷ es) ((e.0, z) ∷ es) (e ∷ put int_cmp k z es)) h
put_in_gap (e ∷ es) k z (suc i) h =
    ap (λ r. by_order r ((k, z) ∷ e ∷ es) ((e.0, z) ∷ es) (e ∷ put int_cmp k z es)) h.0 ∙ ap (λ l. e ∷ l) (put_in_gap es k z i h.1)

-- the pair that stands at a key's place
at_head : (es : Pairs) (k : ℤ) (i : ℕ) → IsAt es k i → (e : ℤ × ℤ) × (slice_get es i ≡ Some e) × (find int_cmp k es ≡ Some e.1)
at_head [] k i h = absurd h
at_head (e ∷ es) k zero h = (e, refl, ap (λ r. cond (is_eq r) (Some e.1) (find int_cmp k es)) h)
at_head (e ∷ es) k (suc i) h =
    let r = at_head es k i h.1 in
    (r.0, r.1, ap (λ o. cond (is_eq o) (Some e.1) (find int_cmp k es)) h.0 ∙ r.2)

pub found_at : (es : Pairs) (k : ℤ) (i : ℕ) → IsAt es k i → option_map (λ e. e.1) (slice_get es i) ≡ find int_cmp k es
found_at es k i h = let r = at_head es k i h in ap (option_map (λ e. e.1)) r.1 ∙ sym r.2

pub find_in_gap : (es : Pairs) (k : ℤ) (i : ℕ) → T (is_sorted int_cmp es) → IsGap es k i → find int_cmp k es ≡ None
find_in_gap [] k i s h = refl
find_in_gap (e ∷ es) k zero s h = ap (λ r. cond (is_eq r) (Some e.1) (find int_cmp k es)) h ∙ find_none k es (below_more k e.0 es h (behind e es s))
find_in_gap (e ∷ es) k (suc i) s h = ap (λ r. cond (is_eq r) (Some e.1) (find int_cmp k es)) h.0 ∙ find_in_gap es k i (rest_rises e es s) h.1

pub removed_at : (es : Pairs) (k : ℤ) (i : ℕ) → T (is_sorted int_cmp es) → IsAt es k i → without_key k es ≡ remove es i
removed_at [] k i s h = absurd h
removed_at (e ∷ es) k zero s h =
    ap (λ r. cond (not (is_eq r)) (e ∷ without_key k es) (without_key k es)) h
    ∙ kept_all k es (subst (λ x. T (below_all int_cmp x es)) (sym (int_cmp-IsAntisymmetric k e.0 h)) (behind e es s))
removed_at (e ∷ es) k (suc i) s h =
    ap (λ r. cond (not (is_eq r)) (e ∷ without_key k es) (without_key k es)) h.0 ∙ ap (λ l. e ∷ l) (removed_at es k i (rest_rises e es s) h.1)

pub kept_in_gap : (es : Pairs) (k : ℤ) (i : ℕ) → T (is_sorted int_cmp es) → IsGap es k i → without_key k es ≡ es
kept_in_gap [] k i s h = refl
kept_in_gap (e ∷ es) k zero s h =
    ap (λ r. cond (not (is_eq r)) (e ∷ without_key k es) (without_key k es)) h ∙ ap (λ l. e ∷ l) (kept_all k es (below_more k e.0 es h (behind e es s)))
kept_in_gap (e ∷ es) k (suc i) s h =
    ap (λ r. cond (not (is_eq r)) (e ∷ without_key k es) (without_key k es)) h.0 ∙ ap (λ l. e ∷ l) (kept_in_gap es k i (rest_rises e es s) h.1)

pub in_range : (es : Pairs) (k : ℤ) (i : ℕ) → IsAt es k i → i < length es
in_range [] k i h = absurd h
in_range (e ∷ es) k zero h = omega arith
in_range (e ∷ es) k (suc i) h = omega (arith, in_range es k i h.1)

pub up_to_end : (es : Pairs) (k : ℤ) (i : ℕ) → IsGap es k i → i ≤ length es
up_to_end [] k zero h = omega arith
up_to_end [] k (suc i) h = absurd h
up_to_end (e ∷ es) k zero h = omega arith
up_to_end (e ∷ es) k (suc i) h = omega (arith, up_to_end es k i h.1)

-- ---- the keys still rise

pub put_rises : (es : Pairs) (k z : ℤ) → T (is_sorted int_cmp es) → T (is_sorted int_cmp (put int_cmp k z es))
put_rises es k z s = is_sorted-put int_cmp int_cmp_total k z es s

pub without_rises : (es : Pairs) (k : ℤ) → T (is_sorted int_cmp es) → T (is_sorted int_cmp (without_key k es))
without_rises es k s = is_sorted-where_key int_cmp _ es s

-- ---- what a binary search finds

at_place : (es : Pairs) (k : ℤ) (i : ℕ) → T (is_sorted int_cmp es) → i < length es → ((d : ℤ × ℤ) → int_cmp (slice_index_or es i d).0 k ≡ Equal) → IsAt es k i
at_place [] k i s lt h = absurd (omega (arith, lt))
at_place (e ∷ es) k zero s lt h = turned e.0 k Equal (h (k, k))
at_place (e ∷ es) k (suc i) s lt h =
    let same : (slice_index_or es i (k, k)).0 ≡ k = int_cmp-IsAntisymmetric (slice_index_or es i (k, k)).0 k (h (k, k)) in
    let above : int_cmp e.0 (slice_index_or es i (k, k)).0 ≡ Less = below_at e.0 es i (k, k) (behind e es s) (omega (arith, lt)) in
    (turned e.0 k Less (subst (λ x. int_cmp e.0 x ≡ Less) same above), at_place es k i (rest_rises e es s) (omega (arith, lt)) h)

gap_place : (es : Pairs) (k : ℤ) (i : ℕ) → i ≤ length es → ((j : ℕ) (d : ℤ × ℤ) → j < i → int_cmp (slice_index_or es j d).0 k ≡ Less)
    → ((j : ℕ) (d : ℤ × ℤ) → i ≤ j → j < length es → int_cmp (slice_index_or es j d).0 k ≡ Greater) → IsGap es k i
gap_place [] k zero le a b = tt
gap_place [] k (suc i) le a b = absurd (omega (arith, le))
gap_place (e ∷ es) k zero le a b = turned e.0 k Greater (b 0 (k, k) (omega arith) (omega arith))
gap_place (e ∷ es) k (suc i) le a b = (
  turned e.0 k Less (a 0 (k, k) (omega arith)),
  gap_place es k i (omega (arith, le)) (λ j d lt. a (suc j) d (omega (arith, lt))) (λ j d low high. b (suc j) d (omega (arith, low)) (omega (arith, high))),
)

adjacent : (es : Pairs) → T (is_sorted int_cmp es) → (j : ℕ) (d : ℤ × ℤ) → suc j < length es → is_lt (int_cmp (slice_index_or es (suc j) d).0 (slice_index_or es j d).0) ≡ false
adjacent [] s j d lt = absurd (omega (arith, lt))
adjacent (e ∷ []) s j d lt = absurd (omega (arith, lt))
adjacent (e ∷ g ∷ es) s zero d lt = ap is_lt (turned e.0 g.0 Less (below_here e.0 g es (behind e (g ∷ es) s)))
adjacent (e ∷ g ∷ es) s (suc j) d lt = adjacent (g ∷ es) (rest_rises e (g ∷ es) s) j d (omega (arith, lt))

next : (j : ℕ) → suc j ≡ j + 1
next j = omega arith

rises : (es : Pairs) → T (is_sorted int_cmp es) → (k : ℤ) → IsNonDecreasingBy (λ e. ordering_index (int_cmp e.0 k)) es
rises es s k =
    searchable_from_sorted int_cmp_total (λ e. e.0) es k
    (λ j d low high. subst (λ n. is_lt (int_cmp (slice_index_or es n d).0 (slice_index_or es j d).0) ≡ false) (next j) (adjacent es s j d (omega (arith, high))))

searched : (es : Pairs) → T (is_sorted int_cmp es) → (k : ℤ) (r : Result ℕ ℕ) → IsSearchInRange r (length es) → IsBinarySearchResult (λ e. int_cmp e.0 k) es r
    → record { rises : T (is_sorted int_cmp es); found : IfOk r (IsAt es k); absent : IfErr r (IsGap es k); range : IsSearchInRange r (length es) }
searched es s k (Ok i) bound h = record { rises = s; found = at_place es k i s bound h; absent = tt; range = bound }
searched es s k (Err i) bound h = record {
  rises = s;
  found = tt;
  absent = gap_place es k i bound (λ j d lt. (h (rises es s k)).0 j d (omega arith) lt) (λ j d low high. (h (rises es s k)).1 j d low high);
  range = bound;
}

-- the same, where the search was for j, which is k
pub searched_as : (es : Pairs) → T (is_sorted int_cmp es) → (k j : ℤ) → j ≡ k → (r : Result ℕ ℕ) → IsSearchInRange r (length es) → IsBinarySearchResult (λ e. int_cmp e.0 j) es r
    → record { rises : T (is_sorted int_cmp es); found : IfOk r (IsAt es k); absent : IfErr r (IsGap es k); range : IsSearchInRange r (length es) }
searched_as es s k j e r bound h = searched es s k r bound (subst (λ x. IsBinarySearchResult (λ p. int_cmp p.0 x) es r) e h)

-- ---- what is told of a key k, which is also called j

pub known : (es : Pairs) (k j : ℤ) (i : ℕ) → j ≡ k → IsAt es j i → true ≡ has_key k es
known es k j i e h = sym (ap is_some (at_head es j i h).2) ∙ ap (λ x. has_key x es) e

pub unknown : (es : Pairs) (k j : ℤ) (i : ℕ) → j ≡ k → T (is_sorted int_cmp es) → IsGap es j i → false ≡ has_key k es
unknown es k j i e s h = sym (ap is_some (find_in_gap es j i s h)) ∙ ap (λ x. has_key x es) e

pub told_at : (es : Pairs) (k j : ℤ) (i : ℕ) → j ≡ k → IsAt es j i → told_of (option_map (λ e. e.1) (slice_get es i)) ≡ told_of (find int_cmp k es)
told_at es k j i e h = ap told_of (found_at es j i h) ∙ ap (λ x. told_of (find int_cmp x es)) e

pub not_told : (es : Pairs) (k j : ℤ) (i : ℕ) → j ≡ k → T (is_sorted int_cmp es) → IsGap es j i → Fault 3 ≡ told_of (find int_cmp k es)
not_told es k j i e s h = sym (ap told_of (find_in_gap es j i s h)) ∙ ap (λ x. told_of (find int_cmp x es)) e

pub gone : (es ns : Pairs) (k j : ℤ) → j ≡ k → ns ≡ without_key j es → ns ≡ without_key k es
gone es ns k j e h = h ∙ ap (λ x. without_key x es) e

pub none_gone : (es : Pairs) (k j : ℤ) (i : ℕ) → j ≡ k → T (is_sorted int_cmp es) → IsGap es j i → es ≡ without_key k es
none_gone es k j i e s h = sym (kept_in_gap es j i s h) ∙ ap (λ x. without_key x es) e

-- ---- what is put: the pairs es are those that stand in the map ws, and the pair p has the key k and the number z

pub replaced : (es ws ns : Pairs) (k z : ℤ) (i : ℕ) (p : ℤ × ℤ) → es ≡ ws → IsAt ws k i → p ≡ (k, z) → ns ≡ slice_set es i p → ns ≡ put int_cmp k z ws
replaced es ws ns k z i p e h f g = g ∙ ap (slice_set es i) f ∙ ap (λ l. slice_set l i (k, z)) e ∙ sym (put_at ws k z i h)

pub inserted : (es ws ns : Pairs) (k z : ℤ) (i : ℕ) (p : ℤ × ℤ) → es ≡ ws → IsGap ws k i → p ≡ (k, z) → ns ≡ insert es i p → ns ≡ put int_cmp k z ws
inserted es ws ns k z i p e h f g = g ∙ ap (insert es i) f ∙ ap (λ l. insert l i (k, z)) e ∙ sym (put_in_gap ws k z i h)

pub sets_known : (es ns : Pairs) (k z j w : ℤ) (i bound : ℕ) → j ≡ k → w ≡ z → IsAt es j i → ns ≡ put int_cmp j w es → HasRoom bound es k × (ns ≡ put int_cmp k z es)
sets_known es ns k z j w i bound e f h g = (inl (sym (known es k j i e h)), g ∙ (λ q. put int_cmp (e q) (f q) es))

pub adds : (es ns : Pairs) (k z j w : ℤ) (bound : ℕ) → true ≡ nat_lt (length es) bound → j ≡ k → w ≡ z → ns ≡ put int_cmp j w es → HasRoom bound es k × (ns ≡ put int_cmp k z es)
adds es ns k z j w bound lt e f h = (inr (ltb-true (length es) bound (sym lt)), h ∙ (λ q. put int_cmp (e q) (f q) es))

module _ {A E : Type 0} (r : Result A E) (es ns : Pairs) (k z j w : ℤ) (bound : ℕ) (e : j ≡ k) (f : w ≡ z) where
  pub set_as : OnOk r (HasRoom bound es j × (ns ≡ put int_cmp j w es)) → OnOk r (HasRoom bound es k × (ns ≡ put int_cmp k z es))
  set_as h =
      subst (λ x. OnOk r (HasRoom bound es x × (ns ≡ put int_cmp x z es))) e (subst (λ y. OnOk r (HasRoom bound es j × (ns ≡ put int_cmp j y es))) f h)

  pub unchanged_as : OnErr r ((has_key j es ≡ false) × (ns ≡ es)) → OnErr r ((has_key k es ≡ false) × (ns ≡ es))
  unchanged_as h = subst (λ x. OnErr r ((has_key x es ≡ false) × (ns ≡ es))) e h
