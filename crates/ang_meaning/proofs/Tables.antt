-- Sums over the entries of a table, and what a table has after a change.
use Rattle.std.proofs.Common.{◌≡◌, ℕ, zero, suc, ◌+◌, ◌<◌, ◌≤◌, List, [], ◌∷◌, Option, Some, None, refl, sym, ap, ◌∙◌, arith}
use Rattle.std.specs.Prelude.{◌-◌, ◌≢◌, Bool, true, false, cond, nat_eq, is_some}
use Rattle.std.specs.Ordering.{nat_cmp, is_eq, eq_by_cmp}
use Rattle.std.specs.declared.cmp.Ordering.{Ordering}
use Rattle.std.specs.declared.cmp.Ordering.TheVariants.{Less, Equal, Greater}
use Rattle.std.specs.FinMap as map
use Rattle.std.specs.FinMap.{get-empty, get-insert, get-remove, get-entries, entries-insert, same_map, nat_cmp-IsAntisymmetric, find, put, len-insert, len-remove, empty_of_len}
use Rattle.std.specs.FinMap.Entries.{by_order}
use Rattle.std.proofs.lemmas.Cmp.{nat_cmp_total}
use Rattle.std.proofs.lemmas.Bool.{eq-eqb, eqb-true}
use Rattle.ang_host.proofs.Steps.{same_test}
use Rattle.ang_meaning.specs.World.{ScriptRecord, ScriptObjects}
use Rattle.ang_meaning.specs.Perform.{above_all, number_at, number_for}
use Rattle.ang_meaning.specs.Counting.{sum_entries, sum_over}

shadow : {X : Type 0} (b : Bool) (x y z : X) → cond b x (cond b y z) ≡ cond b x z
shadow true x y z = refl
shadow false x y z = refl

at_same : {X : Type 0} (m : map.FinMap nat_cmp X) (k q : ℕ) (x : X) → map.get m k ≡ Some x → (b : Bool) → nat_eq k q ≡ b → cond b (Some x) (map.get m q) ≡ map.get m q
at_same m k q x h true t = sym (ap (map.get m) (sym (eqb-true k q t)) ∙ h)
at_same m k q x h false t = refl

insert_same : {X : Type 0} (m : map.FinMap nat_cmp X) (k : ℕ) (x : X) → map.get m k ≡ Some x → map.insert m k x ≡ m
insert_same m k x h = same_map nat_cmp_total nat_cmp-IsAntisymmetric _ _
    (λ q. get-insert nat_cmp_total m k x q ∙ ap (λ b. cond b (Some x) (map.get m q)) (same_test q k) ∙ at_same m k q x h (nat_eq k q) refl)

insert_removed : {X : Type 0} (m : map.FinMap nat_cmp X) (k : ℕ) (x : X) → map.insert (map.remove m k) k x ≡ map.insert m k x
insert_removed m k x = same_map nat_cmp_total nat_cmp-IsAntisymmetric _ _
    (λ q. get-insert nat_cmp_total (map.remove m k) k x q
    ∙ ap (λ o. cond (eq_by_cmp nat_cmp q k) (Some x) o) (get-remove nat_cmp_total m k q)
    ∙ shadow (eq_by_cmp nat_cmp q k) (Some x) None (map.get m q)
    ∙ sym (get-insert nat_cmp_total m k x q))

pub get_inserted : {X : Type 0} (m : map.FinMap nat_cmp X) (k q : ℕ) (x : X) → map.get (map.insert m k x) q ≡ cond (nat_eq k q) (Some x) (map.get m q)
get_inserted m k q x = get-insert nat_cmp_total m k x q ∙ ap (λ b. cond b (Some x) (map.get m q)) (same_test q k)

pub get_without : {X : Type 0} (m : map.FinMap nat_cmp X) (k q : ℕ) → map.get (map.remove m k) q ≡ cond (nat_eq k q) None (map.get m q)
get_without m k q = get-remove nat_cmp_total m k q ∙ ap (λ b. cond b None (map.get m q)) (same_test q k)

get_removed : {X : Type 0} (m : map.FinMap nat_cmp X) (k : ℕ) → map.get (map.remove m k) k ≡ None
get_removed m k = get_without m k k ∙ ap (λ b. cond b None (map.get m k)) (eq-eqb k k refl)

-- ---- sums

module _ {X : Type 0} (f : X → ℕ) where
  sum_put_at : (k : ℕ) (v : X) (e : ℕ × X) (es : List (ℕ × X)) (r : Ordering) → cond (is_eq r) (Some e.1) (find nat_cmp k es) ≡ None
      → (find nat_cmp k es ≡ None → sum_entries f (put nat_cmp k v es) ≡ f v + sum_entries f es)
      → sum_entries f (by_order r ((k, v) ∷ e ∷ es) ((e.0, v) ∷ es) (e ∷ put nat_cmp k v es)) ≡ f v + sum_entries f (e ∷ es)
  sum_put_at k v e es Less h ih = refl
  sum_put_at k v e es Equal h ih = absurd (let x : ⊥ = cc in x)
  sum_put_at k v e es Greater h ih = omega (arith, ih h)

  sum_put : (k : ℕ) (v : X) (es : List (ℕ × X)) → find nat_cmp k es ≡ None → sum_entries f (put nat_cmp k v es) ≡ f v + sum_entries f es
  sum_put k v [] h = refl
  sum_put k v (e ∷ es) h = sum_put_at k v e es (nat_cmp k e.0) h (sum_put k v es)

  -- a new entry adds its part
  pub sum-new : (m : map.FinMap nat_cmp X) (k : ℕ) (v : X) → map.get m k ≡ None → sum_over f (map.insert m k v) ≡ f v + sum_over f m
  unfolding sum_over
  sum-new m k v h = ap (λ es. sum_entries f es) (entries-insert nat_cmp_total m k v) ∙ sum_put k v (map.entries m) (sym (get-entries m k) ∙ h)

  sum_put_back : (m : map.FinMap nat_cmp X) (k : ℕ) (v : X) → sum_over f (map.insert m k v) ≡ f v + sum_over f (map.remove m k)
  sum_put_back m k v = ap (sum_over f) (sym (insert_removed m k v)) ∙ sum-new (map.remove m k) k v (get_removed m k)

  -- an entry that goes takes its part along
  pub sum-gone : (m : map.FinMap nat_cmp X) (k : ℕ) (v : X) → map.get m k ≡ Some v → sum_over f m ≡ f v + sum_over f (map.remove m k)
  sum-gone m k v h = ap (sum_over f) (sym (insert_same m k v h)) ∙ sum_put_back m k v

  -- another value under a key
  pub sum-changed : (m : map.FinMap nat_cmp X) (k : ℕ) (v u : X) → map.get m k ≡ Some v → f v + sum_over f (map.insert m k u) ≡ f u + sum_over f m
  sum-changed m k v u h = omega (arith, sum_put_back m k u, sum-gone m k v h)

-- an entry is part of the sum
pub sum-bound : {X : Type 0} (f : X → ℕ) (m : map.FinMap nat_cmp X) (k : ℕ) (v : X) → map.get m k ≡ Some v → f v ≤ sum_over f m
sum-bound f m k v h = omega (arith, sum-gone f m k v h)

-- ---- sizes

pub len_over : {X : Type 0} (m : map.FinMap nat_cmp X) (k : ℕ) (v u : X) → map.get m k ≡ Some v → map.len (map.insert m k u) ≡ map.len m
len_over m k v u h = len-insert nat_cmp_total m k u ∙ ap (λ o. cond (is_some o) (map.len m) (map.len m + 1)) h

pub len_gone : {X : Type 0} (m : map.FinMap nat_cmp X) (k : ℕ) (v : X) → map.get m k ≡ Some v → map.len (map.remove m k) < map.len m
len_gone m k v h =
    let there : (map.len m ≡ 0) → ⊥ = λ e. let x : Some v ≡ None = sym h ∙ ap (λ n. map.get n k) (empty_of_len m e) ∙ get-empty nat_cmp k in cc in
    let ne : map.len m ≢ 0 = there in
    let e : map.len (map.remove m k) ≡ map.len m - 1 = len-remove nat_cmp_total m k ∙ ap (λ o. cond (is_some o) (map.len m - 1) (map.len m)) h in
    omega (arith, e, ne)

pub none_of_len : {X : Type 0} (m : map.FinMap nat_cmp X) (k : ℕ) → map.len m ≤ 0 → map.get m k ≡ None
none_of_len m k h = let e : map.len m ≡ 0 = omega (arith, h) in ap (λ n. map.get n k) (empty_of_len m e) ∙ get-empty nat_cmp k

-- ---- a sum that is not 0 has an entry that is not 0

pub record HasEntry {X : Type 0} (f : X → ℕ) (m : map.FinMap nat_cmp X) : Type 0 where
  pub key : ℕ
  pub value : X
  pub there : map.get m key ≡ Some value
  pub counts : 0 < f value

module _ {X : Type 0} (f : X → ℕ) where
  kept_at : (b : Bool) (v : X) (o : Option X) → cond b None o ≡ Some v → o ≡ Some v
  kept_at true v o e = absurd (let x : ⊥ = cc in x)
  kept_at false v o e = e

  first_entry : (m : map.FinMap nat_cmp X) (es : List (ℕ × X)) → map.entries m ≡ es → 0 < sum_entries f es → (k : ℕ) × (v : X) × (map.get m k ≡ Some v)
  first_entry m [] e h = absurd (omega (arith, h))
  first_entry m (x ∷ es) e h =
      let t : is_eq (nat_cmp x.0 x.0) ≡ true = same_test x.0 x.0 ∙ eq-eqb x.0 x.0 refl in
      (x.0, x.1, get-entries m x.0 ∙ ap (find nat_cmp x.0) e ∙ ap (λ b. cond b (Some x.1) (find nat_cmp x.0 es)) t)

  later : (n : ℕ) → ((m : map.FinMap nat_cmp X) → map.len m ≤ n → 0 < sum_over f m → HasEntry f m)
      → (m : map.FinMap nat_cmp X) (k : ℕ) (v : X) → map.get m k ≡ Some v → map.len m ≤ suc n → 0 < sum_over f m → (c : ℕ) → f v ≡ c → HasEntry f m
  later n ih m k v g le h (suc c) e = record { key = k; value = v; there = g; counts = omega (arith, e) }
  later n ih m k v g le h zero e =
      let r = ih (map.remove m k) (omega (arith, le, len_gone m k v g)) (omega (arith, h, e, sum-gone f m k v g)) in
      record { key = r.key; value = r.value; there = kept_at (nat_eq k r.key) r.value (map.get m r.key) (sym (get_without m k r.key) ∙ r.there); counts = r.counts }

  from_sum : (n : ℕ) (m : map.FinMap nat_cmp X) → map.len m ≤ n → 0 < sum_over f m → HasEntry f m
  unfolding sum_over
  from_sum zero m le h =
      let x = first_entry m (map.entries m) refl h in
      let z : Some x.1 ≡ None = sym x.2 ∙ none_of_len m x.0 le in absurd (let w : ⊥ = cc in w)
  from_sum (suc n) m le h = let x = first_entry m (map.entries m) refl h in later n (from_sum n) m x.0 x.1 x.2 le h (f x.1) refl

  pub entry_of_sum : (m : map.FinMap nat_cmp X) → 0 < sum_over f m → HasEntry f m
  entry_of_sum m h = from_sum (map.len m) m (omega arith) h

-- ---- a table that is known by what it answers, as that of a slab

changed_at : {X : Type 0} (os later : map.FinMap nat_cmp X) (n q : ℕ) (o : Option X) → map.get later n ≡ o → ((k : ℕ) → k ≢ n → map.get later k ≡ map.get os k)
    → (b : Bool) → nat_eq n q ≡ b → map.get later q ≡ cond b o (map.get os q)
changed_at os later n q o h others true t = ap (map.get later) (sym (eqb-true n q t)) ∙ h
changed_at os later n q o h others false t =
    let ne : q ≢ n = λ x. let y : true ≡ false = sym (eq-eqb n q (sym x)) ∙ t in cc in others q ne

pub table-changed : {X : Type 0} (os later : map.FinMap nat_cmp X) (n : ℕ) (x : X) → map.get later n ≡ Some x → ((k : ℕ) → k ≢ n → map.get later k ≡ map.get os k) → later ≡ map.insert os n x
table-changed os later n x h others = same_map nat_cmp_total nat_cmp-IsAntisymmetric _ _ (λ q. changed_at os later n q (Some x) h others (nat_eq n q) refl ∙ sym (get_inserted os n q x))

pub table-gone : {X : Type 0} (os later : map.FinMap nat_cmp X) (n : ℕ) → map.get later n ≡ None → ((k : ℕ) → k ≢ n → map.get later k ≡ map.get os k) → later ≡ map.remove os n
table-gone os later n h others = same_map nat_cmp_total nat_cmp-IsAntisymmetric _ _ (λ q. changed_at os later n q None h others (nat_eq n q) refl ∙ sym (get_without os n q))

-- ---- a number that is free

none_first : (b : Bool) (x : ScriptRecord) (o : Option ScriptRecord) → b ≡ false → o ≡ None → cond b (Some x) o ≡ None
none_first true x o e h = absurd (let y : ⊥ = cc in y)
none_first false x o e h = h

not_same : (k n : ℕ) (b : Bool) → nat_eq n k ≡ b → n < k → b ≡ false
not_same k n true t h = absurd (let e : n ≡ k = eqb-true n k t in omega (arith, h, e))
not_same k n false t h = refl

none_above : (es : List (ℕ × ScriptRecord)) (k : ℕ) → above_all es ≤ k → find nat_cmp k es ≡ None
none_above [] k h = refl
none_above (e ∷ es) k h =
    none_first (is_eq (nat_cmp k e.0)) e.1 (find nat_cmp k es) (same_test k e.0 ∙ not_same k e.0 (nat_eq e.0 k) refl (omega (arith, h))) (none_above es k (omega (arith, h)))

free_at : (o : Option ScriptRecord) (n : ℕ) (os : ScriptObjects) → map.get os n ≡ o → map.get os (number_at o n os) ≡ None
free_at None n os g = g
free_at (Some o) n os g = get-entries os (above_all (map.entries os)) ∙ none_above (map.entries os) (above_all (map.entries os)) (omega arith)

pub number_free : (n : ℕ) (os : ScriptObjects) → map.get os (number_for n os) ≡ None
unfolding number_for
number_free n os = free_at (map.get os n) n os refl
