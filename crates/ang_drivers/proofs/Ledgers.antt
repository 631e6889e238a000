-- Objects by key, and the sums of their counts.
use Rattle.std.specs.Prelude.{ℕ, ◌+◌, ◌-◌, ◌≡◌, ◌≢◌, ◌<◌, ◌≤◌, length, is_some, Bool, true, false, cond, nat_eq, nat_lt, List, [], ◌∷◌, Option, Some, None, IsSome, sum_by, map as list_map}
use Rattle.std.specs.Option.{option_map}
use Rattle.std.specs.Map.{lookup}
use Rattle.std.specs.BTreeMap.{is_at}
use Rattle.std.specs.Ordering.{nat_cmp, is_eq, eq_by_cmp}
use Rattle.std.specs.declared.cmp.Ordering.{Ordering}
use Rattle.std.specs.declared.cmp.Ordering.TheVariants.{Less, Equal, Greater}
use Rattle.std.specs.Cmp.{eq_by_cmp_equiv}
use Rattle.std.specs.FinMap as map
use Rattle.std.specs.FinMap.{get-empty, get-insert, get-remove, get-entries, get-from_entries, entries-insert, same_map, nat_cmp-IsAntisymmetric, find, put}
use Rattle.std.specs.FinMap.Entries.{by_order}
use Rattle.std.proofs.lemmas.Cmp.{nat_cmp_total}
use Rattle.std.proofs.lemmas.Bool.{eq-eqb, ne_eqb, eqb-true, ltb-true, ltb-false}
use Rattle.std.proofs.Common.{Result, Ok, Err, OnOk, OnErr, refl, sym, ◌∙◌, ap, subst, arith}
use Rattle.std.proofs.lemmas.List.Sums.{sum_by-cons}
use Rattle.ang_host.specs.State.{Tally, total, count_of, count_at}
use Rattle.ang_host.proofs.Steps.{same_test}
use Rattle.ang_host.proofs.Counts.{total-empty}
use Rattle.ang_drivers.specs.Objects.{Ledger, by_key, begun, one_more, one_less_if}

-- ---- maps

shadow : {X : Type 0} (b : Bool) (x y z : X) → cond b x (cond b y z) ≡ cond b x z
shadow true x y z = refl
shadow false x y z = refl

at_same : {X : Type 0} (m : map.FinMap nat_cmp X) (k q : ℕ) (x : X) → map.get m k ≡ Some x → (b : Bool) → nat_eq k q ≡ b → cond b (Some x) (map.get m q) ≡ map.get m q
at_same m k q x h true t = sym (ap (map.get m) (sym (eqb-true k q t)) ∙ h)
at_same m k q x h false t = refl

-- the value that stands there, written again
pub insert_same : {X : Type 0} (m : map.FinMap nat_cmp X) (k : ℕ) (x : X) → map.get m k ≡ Some x → map.insert m k x ≡ m
insert_same m k x h = same_map nat_cmp_total nat_cmp-IsAntisymmetric _ _
    (λ q. get-insert nat_cmp_total m k x q ∙ ap (λ b. cond b (Some x) (map.get m q)) (same_test q k) ∙ at_same m k q x h (nat_eq k q) refl)

-- what is written over a value is what stands there
pub insert_again : {X : Type 0} (m : map.FinMap nat_cmp X) (k : ℕ) (x y : X) → map.insert (map.insert m k x) k y ≡ map.insert m k y
insert_again m k x y = same_map nat_cmp_total nat_cmp-IsAntisymmetric _ _
    (λ q. get-insert nat_cmp_total (map.insert m k x) k y q
    ∙ ap (λ o. cond (eq_by_cmp nat_cmp q k) (Some y) o) (get-insert nat_cmp_total m k x q)
    ∙ shadow (eq_by_cmp nat_cmp q k) (Some y) (Some x) (map.get m q)
    ∙ sym (get-insert nat_cmp_total m k y q))

insert_removed : {X : Type 0} (m : map.FinMap nat_cmp X) (k : ℕ) (x : X) → map.insert (map.remove m k) k x ≡ map.insert m k x
insert_removed m k x = same_map nat_cmp_total nat_cmp-IsAntisymmetric _ _
    (λ q. get-insert nat_cmp_total (map.remove m k) k x q
    ∙ ap (λ o. cond (eq_by_cmp nat_cmp q k) (Some x) o) (get-remove nat_cmp_total m k q)
    ∙ shadow (eq_by_cmp nat_cmp q k) (Some x) None (map.get m q)
    ∙ sym (get-insert nat_cmp_total m k x q))

get_removed : {X : Type 0} (m : map.FinMap nat_cmp X) (k : ℕ) → map.get (map.remove m k) k ≡ None
get_removed m k = get-remove nat_cmp_total m k k ∙ ap (λ b. cond b None (map.get m k)) (same_test k k ∙ eq-eqb k k refl)

pub get_inserted : {X : Type 0} (m : map.FinMap nat_cmp X) (k q : ℕ) (x : X) → map.get (map.insert m k x) q ≡ cond (nat_eq k q) (Some x) (map.get m q)
get_inserted m k q x = get-insert nat_cmp_total m k x q ∙ ap (λ b. cond b (Some x) (map.get m q)) (same_test q k)

get_without : {X : Type 0} (m : map.FinMap nat_cmp X) (k q : ℕ) → map.get (map.remove m k) q ≡ cond (nat_eq k q) None (map.get m q)
get_without m k q = get-remove nat_cmp_total m k q ∙ ap (λ b. cond b None (map.get m q)) (same_test q k)

-- ---- sums

abbrev second : ℕ × ℕ → ℕ
second e = e.1

sum_put_at : (k v : ℕ) (e : ℕ × ℕ) (es : List (ℕ × ℕ)) (r : Ordering) → nat_cmp k e.0 ≡ r → cond (is_eq r) (Some e.1) (find nat_cmp k es) ≡ None
    → (find nat_cmp k es ≡ None → sum_by (λ x. x.1) (put nat_cmp k v es) ≡ v + sum_by (λ x. x.1) es)
    → sum_by (λ x. x.1) (by_order r ((k, v) ∷ e ∷ es) ((e.0, v) ∷ es) (e ∷ put nat_cmp k v es)) ≡ v + sum_by (λ x. x.1) (e ∷ es)
sum_put_at k v e es Less t h ih = sum_by-cons second (k, v) (e ∷ es)
sum_put_at k v e es Equal t h ih = cc
sum_put_at k v e es Greater t h ih = omega (arith, ih h, sum_by-cons second e (put nat_cmp k v es), sum_by-cons second e es)

sum_put : (k v : ℕ) (es : List (ℕ × ℕ)) → find nat_cmp k es ≡ None → sum_by (λ x. x.1) (put nat_cmp k v es) ≡ v + sum_by (λ x. x.1) es
sum_put k v [] h = sum_by-cons second (k, v) []
sum_put k v (e ∷ es) h = sum_put_at k v e es (nat_cmp k e.0) refl h (sum_put k v es)

-- a new key adds its count
pub total-new : (m : map.FinMap nat_cmp ℕ) (k v : ℕ) → map.get m k ≡ None → total (map.insert m k v) ≡ v + total m
total-new m k v h =
    ap (λ es. sum_by (λ x. x.1) es) (entries-insert nat_cmp_total m k v) ∙ sum_put k v (map.entries m) (sym (get-entries m k) ∙ h)

total_put_back : (m : map.FinMap nat_cmp ℕ) (k v : ℕ) → total (map.insert m k v) ≡ v + total (map.remove m k)
total_put_back m k v = ap total (sym (insert_removed m k v)) ∙ total-new (map.remove m k) k v (get_removed m k)

-- a key that goes takes its count along
pub total-gone : (m : map.FinMap nat_cmp ℕ) (k n : ℕ) → map.get m k ≡ Some n → total m ≡ n + total (map.remove m k)
total-gone m k n h = ap total (sym (insert_same m k n h)) ∙ total_put_back m k n

-- another count at a key
pub total-over : (m : map.FinMap nat_cmp ℕ) (k n v : ℕ) → map.get m k ≡ Some n → n + total (map.insert m k v) ≡ v + total m
total-over m k n v h = omega (arith, total_put_back m k v, total-gone m k n h)

-- ---- what each key has

none_some : (n : ℕ) (o : Option ℕ) → o ≡ None → o ≡ Some n → ⊥
none_some n o e h = let x : None ≡ Some n = sym e ∙ h in cc

-- each count is at least 1
abbrev pub ArePositive : map.FinMap nat_cmp ℕ → Type 0
ArePositive m = (k n : ℕ) → map.get m k ≡ Some n → 0 < n

pub positive-empty : ArePositive map.empty
positive-empty k n h = absurd (none_some n (map.get map.empty k) (get-empty nat_cmp k) h)

positive_at : (b : Bool) (v n : ℕ) (o : Option ℕ) → 0 < v → (o ≡ Some n → 0 < n) → cond b (Some v) o ≡ Some n → 0 < n
positive_at true v n o p h e = let x : v ≡ n = cc in omega (arith, p, x)
positive_at false v n o p h e = h e

pub positive-insert : (m : map.FinMap nat_cmp ℕ) (k v : ℕ) → 0 < v → ArePositive m → ArePositive (map.insert m k v)
positive-insert m k v p h q n e = positive_at (nat_eq k q) v n (map.get m q) p (h q n) (sym (get_inserted m k q v) ∙ e)

gone_at : (b : Bool) (n : ℕ) (o : Option ℕ) → (o ≡ Some n → 0 < n) → cond b None o ≡ Some n → 0 < n
gone_at true n o h e = absurd (none_some n None refl e)
gone_at false n o h e = h e

pub positive-remove : (m : map.FinMap nat_cmp ℕ) (k : ℕ) → ArePositive m → ArePositive (map.remove m k)
positive-remove m k h q n e = gone_at (nat_eq k q) n (map.get m q) (h q n) (sym (get_without m k q) ∙ e)

-- no key from a on is live
abbrev pub AreUnused : ℕ → map.FinMap nat_cmp ℕ → Type 0
AreUnused a m = (k : ℕ) → a ≤ k → count_at m k ≡ 0

pub unused-empty : (a : ℕ) → AreUnused a map.empty
unused-empty a k le = ap count_of (get-empty nat_cmp k)

pub unused-insert : (m : map.FinMap nat_cmp ℕ) (a b k v : ℕ) → k < b → a ≤ b → AreUnused a m → AreUnused b (map.insert m k v)
unused-insert m a b k v lt ab h q le =
    let ne : k ≡ q → ⊥ = λ e. absurd (omega (arith, e, lt, le)) in
    ap count_of (get_inserted m k q v ∙ ap (λ c. cond c (Some v) (map.get m q)) (ne_eqb k q ne)) ∙ h q (omega (arith, ab, le))

zero_gone : (b : Bool) (o : Option ℕ) → count_of o ≡ 0 → count_of (cond b None o) ≡ 0
zero_gone true o h = refl
zero_gone false o h = h

pub unused-remove : (m : map.FinMap nat_cmp ℕ) (a k : ℕ) → AreUnused a m → AreUnused a (map.remove m k)
unused-remove m a k h q le = ap count_of (get_without m k q) ∙ zero_gone (nat_eq k q) (map.get m q) (h q le)

none_at : (o : Option ℕ) → ((n : ℕ) → o ≡ Some n → 0 < n) → count_of o ≡ 0 → o ≡ None
none_at None p h = refl
none_at (Some n) p h = absurd (omega (arith, p n refl, h))

-- a key that was not used is not live
pub unused-none : (m : map.FinMap nat_cmp ℕ) (a k : ℕ) → ArePositive m → AreUnused a m → a ≤ k → map.get m k ≡ None
unused-none m a k p u le = none_at (map.get m k) (p k) (u k le)

-- ---- objects by key

mapped : {O V : Type 0} (f : O → V) (b : Bool) (w : O) (o : Option O) → option_map f (cond b (Some w) o) ≡ cond b (Some (f w)) (option_map f o)
mapped f true w o = refl
mapped f false w o = refl

unmapped : {O V : Type 0} (f : O → V) (b : Bool) (o : Option O) → option_map f (cond b None o) ≡ cond b None (option_map f o)
unmapped f true o = refl
unmapped f false o = refl

found : {O V : Type 0} (f : O → V) (o : Option O) (v : V) → option_map f o ≡ Some v → (w : O) × (o ≡ Some w) × (f w ≡ v)
found f None v h = absurd (let x : ⊥ = cc in x)
found f (Some w) v h = (w, refl, (let e : f w ≡ v = cc in e))

module _ {O V : Type 0} (f : O → V) where
  find_lookup : (es : List (ℕ × O)) (q : ℕ) → find nat_cmp q (list_map (λ e. (e.0, f e.1)) es) ≡ option_map f (lookup (is_at (nat_cmp q)) es)
  find_lookup [] q = refl
  find_lookup (e ∷ es) q =
      ap (λ o. cond (is_eq (nat_cmp q e.0)) (Some (f e.1)) o) (find_lookup es q)
      ∙ sym (mapped f (is_eq (nat_cmp q e.0)) e.1 (lookup (is_at (nat_cmp q)) es))

  pub get-by_key : (es : List (ℕ × O)) (q : ℕ) → map.get (by_key f es) q ≡ option_map f (lookup (is_at (nat_cmp q)) es)
  unfolding by_key
  get-by_key es q = get-from_entries nat_cmp_total (list_map (λ e. (e.0, f e.1)) es) q ∙ find_lookup es q

  pub by_key-nil : by_key f [] ≡ map.empty
  unfolding by_key
  by_key-nil = refl

  -- an object under a live key, and what f reads of it
  pub held : (es : List (ℕ × O)) (k : ℕ) (v : V) → map.get (by_key f es) k ≡ Some v → (w : O) × (lookup (is_at (nat_cmp k)) es ≡ Some w) × (f w ≡ v)
  held es k v h = found f (lookup (is_at (nat_cmp k)) es) v (sym (get-by_key es k) ∙ h)

  pub read_at : (es : List (ℕ × O)) (k : ℕ) (w : O) → lookup (is_at (nat_cmp k)) es ≡ Some w → map.get (by_key f es) k ≡ Some (f w)
  read_at es k w h = get-by_key es k ∙ ap (option_map f) h

  pub by_key-inserted : (es gs : List (ℕ × O)) (k : ℕ) (w : O) → ((q : ℕ) → lookup (is_at (nat_cmp q)) gs ≡ cond (is_at (nat_cmp k) q) (Some w) (lookup (is_at (nat_cmp q)) es))
      → by_key f gs ≡ map.insert (by_key f es) k (f w)
  by_key-inserted es gs k w h = same_map nat_cmp_total nat_cmp-IsAntisymmetric _ _
      (λ q. get-by_key gs q ∙ ap (option_map f) (h q) ∙ mapped f (is_at (nat_cmp k) q) w (lookup (is_at (nat_cmp q)) es)
      ∙ ap (λ o. cond (is_at (nat_cmp k) q) (Some (f w)) o) (sym (get-by_key es q))
      ∙ ap (λ b. cond b (Some (f w)) (map.get (by_key f es) q)) ((eq_by_cmp_equiv nat_cmp_total).symm k q)
      ∙ sym (get-insert nat_cmp_total (by_key f es) k (f w) q))

  pub by_key-removed : (es gs : List (ℕ × O)) (k : ℕ) → ((q : ℕ) → lookup (is_at (nat_cmp q)) gs ≡ cond (is_at (nat_cmp k) q) None (lookup (is_at (nat_cmp q)) es))
      → by_key f gs ≡ map.remove (by_key f es) k
  by_key-removed es gs k h = same_map nat_cmp_total nat_cmp-IsAntisymmetric _ _
      (λ q. get-by_key gs q ∙ ap (option_map f) (h q) ∙ unmapped f (is_at (nat_cmp k) q) (lookup (is_at (nat_cmp q)) es)
      ∙ ap (λ o. cond (is_at (nat_cmp k) q) None o) (sym (get-by_key es q))
      ∙ ap (λ b. cond b None (map.get (by_key f es) q)) ((eq_by_cmp_equiv nat_cmp_total).symm k q)
      ∙ sym (get-remove nat_cmp_total (by_key f es) k q))

  -- no object, where no key is live
  pub by_key-empty : (es : List (ℕ × O)) → by_key f es ≡ map.empty → es ≡ []
  by_key-empty [] h = refl
  by_key-empty (e ∷ es) h =
      let t : is_eq (nat_cmp e.0 e.0) ≡ true = same_test e.0 e.0 ∙ eq-eqb e.0 e.0 refl in
      let x : map.get (by_key f (e ∷ es)) e.0 ≡ Some (f e.1) = read_at (e ∷ es) e.0 e.1 (ap (λ b. cond b (Some e.1) (lookup (is_at (nat_cmp e.0)) es)) t) in
      let y : Some (f e.1) ≡ None = sym x ∙ ap (λ m. map.get m e.0) h ∙ get-empty nat_cmp e.0 in
      absurd (let z : ⊥ = cc in z)

  pub by_key-none : (es : List (ℕ × O)) → length es ≡ 0 → by_key f es ≡ map.empty
  by_key-none [] h = by_key-nil
  by_key-none (e ∷ es) h = absurd (omega (arith, h))

  pub is_held : (es : List (ℕ × O)) (k : ℕ) (v : V) → map.get (by_key f es) k ≡ Some v → IsSome (lookup (is_at (nat_cmp k)) es)
  is_held es k v h = ap is_some (held es k v h).1

  -- an object in the place of another of which f reads the same
  pub by_key-replaced : (es gs : List (ℕ × O)) (k : ℕ) (w : O) → map.get (by_key f es) k ≡ Some (f w)
      → ((q : ℕ) → lookup (is_at (nat_cmp q)) gs ≡ cond (is_at (nat_cmp k) q) (Some w) (lookup (is_at (nat_cmp q)) es)) → by_key f gs ≡ by_key f es
  by_key-replaced es gs k w s h = by_key-inserted es gs k w h ∙ insert_same (by_key f es) k (f w) s

-- a live key's count, as a number
pub stands : (m : map.FinMap nat_cmp ℕ) (k n : ℕ) → map.get m k ≡ Some n → map.get m k ≡ Some (count_at m k)
stands m k n h = h ∙ ap Some (sym (ap count_of h))

-- the object o under the key k, changed to w in its place: what f reads of it stays, or is one more, or one less
module _ {O : Type 0} (es gs : List (ℕ × O)) (k : ℕ) (o w : O) (h : lookup (is_at (nat_cmp k)) es ≡ Some o)
    (u : (q : ℕ) → lookup (is_at (nat_cmp q)) gs ≡ cond (is_at (nat_cmp k) q) (Some w) (lookup (is_at (nat_cmp q)) es)) where
  pub by_key-kept : {V : Type 0} (f : O → V) → f w ≡ f o → by_key f gs ≡ by_key f es
  by_key-kept f e = by_key-replaced f es gs k w (read_at f es k o h ∙ ap Some (sym e)) u

  pub by_key-more : (f : O → ℕ) → f w ≡ f o + 1 → by_key f gs ≡ one_more (by_key f es) k
  by_key-more f e = by_key-inserted f es gs k w u ∙ ap (λ n. map.insert (by_key f es) k n) (e ∙ ap (λ n. n + 1) (sym (ap count_of (read_at f es k o h))))

  pub by_key-less : (f : O → ℕ) → f w ≡ f o - 1 → by_key f gs ≡ one_less_if true (by_key f es) k
  by_key-less f e = by_key-inserted f es gs k w u ∙ ap (λ n. map.insert (by_key f es) k n) (e ∙ ap (λ n. n - 1) (sym (ap count_of (read_at f es k o h))))

-- ---- what is true of counts, where `made` objects were made and `added` and `released` references were added and released

pub record AreCounted (m : map.FinMap nat_cmp ℕ) (made added released : ℕ) : Type 0 where
  pub sums : made + added ≡ released + total m
  pub positive : ArePositive m
  pub unused : AreUnused made m

pub counted-none : (m : map.FinMap nat_cmp ℕ) → m ≡ map.empty → AreCounted m 0 0 0
counted-none m e = record {
  sums = omega (arith, total-empty, ap total e);
  positive = subst ArePositive (sym e) positive-empty;
  unused = subst (AreUnused 0) (sym e) (unused-empty 0);
}

pub counted-new : (m n : map.FinMap nat_cmp ℕ) (made added released : ℕ) → n ≡ map.insert m made 1 → AreCounted m made added released → AreCounted n (made + 1) added released
counted-new m n made added released e h = record {
  sums = omega (arith, h.sums, ap total e, total-new m made 1 (unused-none m made made h.positive h.unused (omega arith)));
  positive = subst ArePositive (sym e) (positive-insert m made 1 (omega arith) h.positive);
  unused = subst (AreUnused (made + 1)) (sym e) (unused-insert m made (made + 1) made 1 (omega arith) (omega arith) h.unused);
}

-- a live key was used
used_below : (m : map.FinMap nat_cmp ℕ) (made k c : ℕ) → ArePositive m → AreUnused made m → map.get m k ≡ Some c → k < made
used_below m made k c p u h =
    let z : count_at m k ≡ c = ap count_of h in
    let lt : 0 < c = p k c h in
    elim (nat_lt k made) as (λ t. nat_lt k made ≡ t → k < made) [
      | true ↦ λ e. ltb-true k made e
      | false ↦ λ e. absurd (omega (arith, u k (ltb-false k made e), z, lt))
    ] refl

-- another count at a live key
counted_over : (m n : map.FinMap nat_cmp ℕ) (k c d made added released a r : ℕ) → map.get m k ≡ Some c → 0 < d → n ≡ map.insert m k d → a + c + released ≡ r + d + added
    → AreCounted m made added released → AreCounted n made a r
counted_over m n k c d made added released a r g p e s h = record {
  sums = omega (arith, h.sums, ap total e, total-over m k c d g, s);
  positive = subst ArePositive (sym e) (positive-insert m k d p h.positive);
  unused = subst (AreUnused made) (sym e) (unused-insert m made made k d (used_below m made k c h.positive h.unused g) (omega arith) h.unused);
}

pub counted-added : (m n : map.FinMap nat_cmp ℕ) (k c made added released : ℕ) → map.get m k ≡ Some c → n ≡ map.insert m k (c + 1)
    → AreCounted m made added released → AreCounted n made (added + 1) released
counted-added m n k c made added released g e h = counted_over m n k c (c + 1) made added released (added + 1) released g (omega arith) e (omega arith) h

-- more than one reference, and one of them released
pub two_or_more : (m : map.FinMap nat_cmp ℕ) (k c : ℕ) → ArePositive m → map.get m k ≡ Some c → (c ≡ 1 → ⊥) → 1 < c
two_or_more m k c p g ne = let lt : 0 < c = p k c g in let apart : c ≢ 1 = ne in omega (arith, lt, apart)

pub counted-released : (m n : map.FinMap nat_cmp ℕ) (k c made added released : ℕ) → map.get m k ≡ Some c → 1 < c → n ≡ map.insert m k (c - 1)
    → AreCounted m made added released → AreCounted n made added (released + 1)
counted-released m n k c made added released g lt e h = counted_over m n k c (c - 1) made added released added (released + 1) g (omega (arith, lt)) e (omega (arith, lt)) h

pub counted-ended : (m n : map.FinMap nat_cmp ℕ) (k c made added released : ℕ) → map.get m k ≡ Some c → c ≡ 1 → n ≡ map.remove m k
    → AreCounted m made added released → AreCounted n made added (released + 1)
counted-ended m n k c made added released g one e h = record {
  sums = omega (arith, h.sums, ap total e, total-gone m k c g, one);
  positive = subst ArePositive (sym e) (positive-remove m k h.positive);
  unused = subst (AreUnused made) (sym e) (unused-remove m made k h.unused);
}

-- a count is no more than all of them
pub count-bound : (m : map.FinMap nat_cmp ℕ) (k c made added released : ℕ) → map.get m k ≡ Some c → AreCounted m made added released → c + released ≤ made + added
count-bound m k c made added released g h = omega (arith, h.sums, total-gone m k c g)

pub same_ledger : {T : Type 0} (a b : map.FinMap nat_cmp ℕ) (n : ℕ) (x y : map.FinMap nat_cmp T) (t : Tally) → a ≡ b → x ≡ y
    → ◌≡◌ {A = Ledger T} (record { counts = a; table = record { next = n; values = x }; tally = t }) (record { counts = b; table = record { next = n; values = y }; tally = t })
same_ledger a b n x y t p q = λ i. record { counts = p i; table = record { next = n; values = q i }; tally = t }

pub begun_ledger : {T : Type 0} (a : map.FinMap nat_cmp ℕ) (x : map.FinMap nat_cmp T) (n asked : ℕ) → a ≡ map.empty → x ≡ map.empty → n ≡ 0
    → ◌≡◌ {A = Ledger T} (record { counts = a; table = record { next = n; values = x }; tally = record { asked = asked; made = n; added = 0; released = 0 } }) (begun asked)
begun_ledger a x n asked p q e = λ i. record { counts = p i; table = record { next = e i; values = q i }; tally = record { asked = asked; made = e i; added = 0; released = 0 } }

pub recounted : (m : map.FinMap nat_cmp ℕ) (a b added released : ℕ) → a ≡ b → AreCounted m b added released → AreCounted m a added released
recounted m a b added released e h = subst (λ n. AreCounted m n added released) (sym e) h

pub recounted_at : (m n : map.FinMap nat_cmp ℕ) (a b added released : ℕ) → n ≡ m → a ≡ b → AreCounted m b added released → AreCounted n a added released
recounted_at m n a b added released p e h = recounted n a b added released e (subst (λ x. AreCounted x b added released) (sym p) h)

none_of : (m : map.FinMap nat_cmp ℕ) → ArePositive m → total m ≡ 0 → (q : ℕ) (o : Option ℕ) → map.get m q ≡ o → o ≡ None
none_of m p z q None e = refl
none_of m p z q (Some n) e = let lt : 0 < n = p q n e in absurd (omega (arith, lt, z, total-gone m q n e))

-- nothing lives where all references were released
pub none_live : (m : map.FinMap nat_cmp ℕ) (made added released : ℕ) → AreCounted m made added released → made + added ≡ released → m ≡ map.empty
none_live m made added released h e =
    let z : total m ≡ 0 = omega (arith, h.sums, e) in
    same_map nat_cmp_total nat_cmp-IsAntisymmetric _ _ (λ q. none_of m h.positive z q (map.get m q) refl ∙ sym (get-empty nat_cmp q))

pub all_released : (m : map.FinMap nat_cmp ℕ) (made added released : ℕ) → AreCounted m made added released → m ≡ map.empty → made + added ≡ released
all_released m made added released h e = omega (arith, h.sums, ap total e, total-empty)

-- ---- after a growth that may be refused

pub on_err : {A E X : Type 0} (r : Result A E) → X → OnErr r X
on_err (Ok a) h = tt
on_err (Err e) h = h

pub counted_pushed : {O E : Type 0} (f : O → ℕ) (es gs : List (ℕ × O)) (r : Result ℕ E) (a b added released : ℕ) → OnOk r (a ≡ b + 1) → OnOk r (by_key f gs ≡ map.insert (by_key f es) b 1)
    → OnErr r (a ≡ b) → OnErr r (gs ≡ es) → AreCounted (by_key f es) b added released → AreCounted (by_key f gs) a added released
counted_pushed f es gs (Ok k) a b added released next counts kept same h = recounted (by_key f gs) a (b + 1) added released next (counted-new (by_key f es) (by_key f gs) b added released counts h)
counted_pushed f es gs (Err e) a b added released next counts kept same h = recounted_at (by_key f es) (by_key f gs) a b added released (ap (by_key f) same) kept h

pub few_pushed : {E : Type 0} (r : Result ℕ E) (a b most : ℕ) → OnOk r (a ≡ b + 1) → OnErr r (a ≡ b) → b < most → a ≤ most
few_pushed (Ok k) a b most next kept lt = omega (arith, next, lt)
few_pushed (Err e) a b most next kept lt = omega (arith, kept, lt)

-- the same objects and the same next key
pub ledger_kept : {T O : Type 0} (f : O → ℕ) (v : O → T) (es gs : List (ℕ × O)) (a b asked added released : ℕ) → gs ≡ es → a ≡ b
    → ◌≡◌ {A = Ledger T}
    (record { counts = by_key f gs; table = record { next = a; values = by_key v gs }; tally = record { asked = asked; made = a; added = added; released = released } })
    (record { counts = by_key f es; table = record { next = b; values = by_key v es }; tally = record { asked = asked; made = b; added = added; released = released } })
ledger_kept f v es gs a b asked added released same e =
    λ i. record { counts = by_key f (same i); table = record { next = e i; values = by_key v (same i) }; tally = record { asked = asked; made = e i; added = added; released = released } }
