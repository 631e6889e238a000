-- Script objects by number, against the slab that keeps them.
use Rattle.std.specs.Prelude.{ℕ, zero, suc, ◌+◌, ◌-◌, ◌≡◌, ◌<◌, ◌≤◌, cond, is_some, IfSome, count_by, List, [], ◌∷◌, Option, Some, None, map as list_map, slice_index_or, slice_set, Result, Ok, Err, OnErr}
use Rattle.std.specs.Option.{option_map}
use Rattle.std.specs.Ordering.{nat_cmp}
use Rattle.std.specs.FinMap as map
use Rattle.std.specs.FinMap.{get-empty, get-insert, get-remove, get-from_entries, same_map, nat_cmp-IsAntisymmetric, find}
use Rattle.std.proofs.lemmas.Cmp.{nat_cmp_total}
use Rattle.std.proofs.lemmas.Bool.{cases_eq, eq-eqb, ne_eqb}
use Rattle.std.proofs.Common.{refl, sym, ◌∙◌, ap, subst, arith, inl, inr, unwrap_or}
use Rattle.slab.specs.Slab.{Slab, get, slab_len, with_value, Updates, entries_from, entries}
use Rattle.slab.proofs.SlabLemmas.{ContainsKey-within, Updates-with_value}
use Rattle.std.proofs.lemmas.List.Sums.{sum_by-set, sum_by-cons}
use Rattle.ang_host.proofs.Steps.{same_test}
use Rattle.ang_meaning.specs.World.{ScriptRecord, ScriptObjects, Gone, Kept, one_less, lowered_at, script_lowered, raised_at, script_raised}
use Rattle.ang_meaning.specs.declared.slot.Slot.{Slot}
use Rattle.ang_meaning.specs.Counting.{count_of_object}
use Rattle.ang_meaning.specs.Perform.{field_of, with_field}
use Rattle.ang_heap.specs.declared.heap.ScriptObject.{ScriptObject}
use Rattle.ang_heap.specs.Heaps.{record_of, objects_in, class_of_record, rank_of_record}

abbrev entry_of : ℕ × ScriptObject → ℕ × ScriptRecord
entry_of e = (e.0, record_of e.1)

find_below : (a : ℕ) (slots : List (Option ScriptObject)) (q : ℕ) → q < a → find nat_cmp q (list_map (λ e. (e.0, record_of e.1)) (entries_from a slots)) ≡ None
find_below a [] q lt = refl
find_below a (None ∷ rest) q lt = find_below (a + 1) rest q (omega (arith, lt))
find_below a (Some v ∷ rest) q lt =
    let ne : a ≡ q → ⊥ = λ e. absurd (omega (arith, e, lt)) in
    ap (λ b. cond b (Some (record_of v)) (find nat_cmp q (list_map (λ e. (e.0, record_of e.1)) (entries_from (a + 1) rest)))) (same_test q a ∙ ne_eqb a q ne)
    ∙ find_below (a + 1) rest q (omega (arith, lt))

find_at : (a : ℕ) (slots : List (Option ScriptObject)) (i : ℕ) → find nat_cmp (a + i) (list_map (λ e. (e.0, record_of e.1)) (entries_from a slots)) ≡ option_map record_of (slice_index_or slots i None)
find_at a [] i = refl
find_at a (None ∷ rest) zero = find_below (a + 1) rest (a + 0) (omega arith)
find_at a (None ∷ rest) (suc i) =
    let e : a + suc i ≡ a + 1 + i = omega arith in
    ap (λ q. find nat_cmp q (list_map (λ e. (e.0, record_of e.1)) (entries_from (a + 1) rest))) e ∙ find_at (a + 1) rest i
find_at a (Some v ∷ rest) zero =
    let e : a ≡ a + 0 = omega arith in
    ap (λ b. cond b (Some (record_of v)) (find nat_cmp (a + 0) (list_map (λ e. (e.0, record_of e.1)) (entries_from (a + 1) rest)))) (same_test (a + 0) a ∙ eq-eqb a (a + 0) e)
find_at a (Some v ∷ rest) (suc i) =
    let ne : a ≡ a + suc i → ⊥ = λ x. absurd (omega (arith, x)) in
    let e : a + suc i ≡ a + 1 + i = omega arith in
    ap (λ b. cond b (Some (record_of v)) (find nat_cmp (a + suc i) (list_map (λ e. (e.0, record_of e.1)) (entries_from (a + 1) rest)))) (same_test (a + suc i) a ∙ ne_eqb a (a + suc i) ne)
    ∙ ap (λ q. find nat_cmp q (list_map (λ e. (e.0, record_of e.1)) (entries_from (a + 1) rest))) e ∙ find_at (a + 1) rest i

pub get_object : (s : Slab ScriptObject) (q : ℕ) → map.get (objects_in s) q ≡ option_map record_of (get s q)
unfolding objects_in
get_object s q =
    get-from_entries nat_cmp_total (list_map (λ e. (e.0, record_of e.1)) (entries s)) q
    ∙ (let e : q ≡ 0 + q = omega arith in ap (λ n. find nat_cmp n (list_map (λ e. (e.0, record_of e.1)) (entries_from 0 s.slots))) e)
    ∙ find_at 0 s.slots q

-- an object in the place of another
pub object_set : (s t : Slab ScriptObject) (k : ℕ) (o : ScriptObject) → Updates s t k (Some o) → objects_in t ≡ map.insert (objects_in s) k (record_of o)
object_set s t k o u = same_map nat_cmp_total nat_cmp-IsAntisymmetric _ _ (λ q.
    get_object t q
    ∙ elim (cases_eq k q) [
      | inl e ↦ ap (λ j. option_map record_of (get t j)) (sym e) ∙ ap (option_map record_of) u.changed ∙ ap (λ b. cond b (Some (record_of o)) (map.get (objects_in s) q)) (sym (same_test q k ∙ eq-eqb k q e))
      | inr ne ↦ ap (option_map record_of) (u.others q (λ e. ne (sym e))) ∙ sym (get_object s q) ∙ ap (λ b. cond b (Some (record_of o)) (map.get (objects_in s) q)) (sym (same_test q k ∙ ne_eqb k q ne))
    ]
    ∙ sym (get-insert nat_cmp_total (objects_in s) k (record_of o) q))

-- an object that is gone
pub object_gone : (s t : Slab ScriptObject) (k : ℕ) → Updates s t k None → objects_in t ≡ map.remove (objects_in s) k
object_gone s t k u = same_map nat_cmp_total nat_cmp-IsAntisymmetric _ _ (λ q.
    get_object t q
    ∙ elim (cases_eq k q) [
      | inl e ↦ ap (λ j. option_map record_of (get t j)) (sym e) ∙ ap (option_map record_of) u.changed ∙ ap (λ b. cond b None (map.get (objects_in s) q)) (sym (same_test q k ∙ eq-eqb k q e))
      | inr ne ↦ ap (option_map record_of) (u.others q (λ e. ne (sym e))) ∙ sym (get_object s q) ∙ ap (λ b. cond b None (map.get (objects_in s) q)) (sym (same_test q k ∙ ne_eqb k q ne))
    ]
    ∙ sym (get-remove nat_cmp_total (objects_in s) k q))

-- ---- what lowering a count answers

pub lower_none : (s : Slab ScriptObject) (k : ℕ) → get s k ≡ None → script_lowered k (objects_in s) ≡ Kept (objects_in s)
unfolding script_lowered
lower_none s k g = ap (λ o. lowered_at k o (objects_in s)) (get_object s k ∙ ap (option_map record_of) g)

kept_at : (r : ScriptRecord) (c k : ℕ) (os : ScriptObjects) → r.count ≡ suc (suc c) → lowered_at k (Some r) os ≡ Kept (map.insert os k (record r { count = suc c }))
kept_at r c k os e = ap (λ n. one_less k r n os) e

gone_at : (r : ScriptRecord) (c k : ℕ) (os : ScriptObjects) → r.count ≡ c → c ≤ 1 → lowered_at k (Some r) os ≡ Gone r.fields (map.remove os k)
gone_at r zero k os e le = ap (λ n. one_less k r n os) e
gone_at r (suc zero) k os e le = ap (λ n. one_less k r n os) e
gone_at r (suc (suc c)) k os e le = absurd (omega (arith, le))

pub lower_kept : (s t : Slab ScriptObject) (k : ℕ) (o : ScriptObject) → get s k ≡ Some o → 1 < o.count → Updates s t k (Some (record o { count = o.count - 1 }))
    → script_lowered k (objects_in s) ≡ Kept (objects_in t)
unfolding script_lowered
lower_kept s t k o g lt u =
    let two : o.count ≡ suc (suc (o.count - 2)) = omega (arith, lt) in
    let one : suc (o.count - 2) ≡ o.count - 1 = omega (arith, lt) in
    ap (λ x. lowered_at k x (objects_in s)) (get_object s k ∙ ap (option_map record_of) g)
    ∙ kept_at (record_of o) (o.count - 2) k (objects_in s) two
    ∙ ap (λ c. Kept (map.insert (objects_in s) k (record { class = o.class; rank = o.rank; count = c; fields = o.fields.items }))) one
    ∙ ap Kept (sym (object_set s t k (record o { count = o.count - 1 }) u))

pub lower_gone : (s t : Slab ScriptObject) (k : ℕ) (o : ScriptObject) → get s k ≡ Some o → o.count ≤ 1 → Updates s t k None
    → script_lowered k (objects_in s) ≡ Gone o.fields.items (objects_in t)
unfolding script_lowered
lower_gone s t k o g le u =
    ap (λ x. lowered_at k x (objects_in s)) (get_object s k ∙ ap (option_map record_of) g)
    ∙ gone_at (record_of o) o.count k (objects_in s) refl le
    ∙ ap (Gone o.fields.items) (sym (object_gone s t k u))

-- a value in the place of another
pub value_updates : (s t : Slab ScriptObject) (k : ℕ) (o v : ScriptObject) → get s k ≡ Some o → t ≡ with_value s k v → Updates s t k (Some v)
value_updates s t k o v g e = subst (λ x. Updates s x k (Some v)) (sym e) (Updates-with_value s k v (ap is_some g))

pub value_length : (s t : Slab ScriptObject) (k : ℕ) (o v : ScriptObject) → get s k ≡ Some o → t ≡ with_value s k v → slab_len t ≡ slab_len s
value_length s t k o v g e =
    let sums = sum_by-set (λ x. cond (is_some x) 1 0) s.slots k (Some v) None (ContainsKey-within s k (ap is_some g)) in
    let one : ◌≡◌ {A = ℕ} (cond (is_some (get s k)) 1 0) 1 = ap (λ x. cond (is_some x) 1 0) g in
    let same : slab_len (with_value s k v) ≡ slab_len s = omega (arith, sums, one) in
    ap slab_len e ∙ same

pub lower_gone_some : (s t : Slab ScriptObject) (k : ℕ) (o : ScriptObject) (r : Option ScriptObject) → get s k ≡ Some o → o.count ≤ 1 → r ≡ get s k → Updates s t k None
    → IfSome r (λ x. script_lowered k (objects_in s) ≡ Gone x.fields.items (objects_in t))
lower_gone_some s t k o r g le is u = subst (λ y. IfSome y (λ x. script_lowered k (objects_in s) ≡ Gone x.fields.items (objects_in t))) (sym (is ∙ g)) (lower_gone s t k o g le u)

-- ---- what raising a count does

pub raise_none : (s : Slab ScriptObject) (k : ℕ) → get s k ≡ None → objects_in s ≡ script_raised k (objects_in s)
unfolding script_raised
raise_none s k g = sym (ap (λ o. raised_at k o (objects_in s)) (get_object s k ∙ ap (option_map record_of) g))

pub raise_done : (s t : Slab ScriptObject) (k : ℕ) (o : ScriptObject) → get s k ≡ Some o → Updates s t k (Some (record o { count = o.count + 1 }))
    → objects_in t ≡ script_raised k (objects_in s)
unfolding script_raised
raise_done s t k o g u =
    let one : o.count + 1 ≡ suc o.count = omega arith in
    object_set s t k (record o { count = o.count + 1 }) u
    ∙ ap (λ c. map.insert (objects_in s) k (record { class = o.class; rank = o.rank; count = c; fields = o.fields.items })) one
    ∙ sym (ap (λ x. raised_at k x (objects_in s)) (get_object s k ∙ ap (option_map record_of) g))

pub count_in_slab : (s : Slab ScriptObject) (k : ℕ) (o : ScriptObject) → get s k ≡ Some o → count_of_object (map.get (objects_in s) k) ≡ o.count
count_in_slab s k o g = ap count_of_object (get_object s k ∙ ap (option_map record_of) g)

pub count_nowhere : (s : Slab ScriptObject) (k : ℕ) → get s k ≡ None → count_of_object (map.get (objects_in s) k) ≡ 0
count_nowhere s k g = ap count_of_object (get_object s k ∙ ap (option_map record_of) g)

-- ---- a slab without objects

none_at : (slots : List (Option ScriptObject)) (i : ℕ) → count_by is_some slots ≡ 0 → slice_index_or slots i None ≡ None
none_at [] i e = refl
none_at (None ∷ rest) zero e = refl
none_at (None ∷ rest) (suc i) e = none_at rest i (omega (arith, e))
none_at (Some o ∷ rest) i e = let more = sum_by-cons (λ (x : Option ScriptObject). cond (is_some x) 1 0) (Some o) rest in absurd (omega (arith, e, more))

some_not_none : {A : Type 0} (a : A) → Some a ≡ None → ⊥
some_not_none a e = cc

count_none : (slots : List (Option ScriptObject)) → ((i : ℕ) → slice_index_or slots i None ≡ None) → count_by is_some slots ≡ 0
count_none [] h = refl
count_none (None ∷ rest) h = let e : count_by is_some rest ≡ 0 = count_none rest (λ i. h (suc i)) in omega (arith, e)
count_none (Some o ∷ rest) h = absurd (some_not_none o (h 0))

unmapped : (o : Option ScriptObject) → option_map record_of o ≡ None → o ≡ None
unmapped None e = refl
unmapped (Some o) e = absurd (some_not_none (record_of o) e)

pub empty_objects : (s : Slab ScriptObject) → slab_len s ≡ 0 → objects_in s ≡ map.empty
empty_objects s e = same_map nat_cmp_total nat_cmp-IsAntisymmetric _ _ (λ q. get_object s q ∙ ap (option_map record_of) (none_at s.slots q e) ∙ sym (get-empty nat_cmp q))

pub empty_slab : (s : Slab ScriptObject) → objects_in s ≡ map.empty → slab_len s ≡ 0
empty_slab s e = count_none s.slots (λ q. unmapped (get s q) (sym (get_object s q) ∙ ap (λ os. map.get os q) e ∙ get-empty nat_cmp q))

-- ---- objects made and changed

pub no_objects : (s : Slab ScriptObject) → s.slots ≡ [] → objects_in s ≡ map.empty
no_objects s e = same_map nat_cmp_total nat_cmp-IsAntisymmetric _ _ (λ q. get_object s q ∙ ap (λ l. option_map record_of (slice_index_or l q None)) e ∙ sym (get-empty nat_cmp q))

pub same_objects : (s t : Slab ScriptObject) → t.slots ≡ s.slots → objects_in t ≡ objects_in s
unfolding objects_in
same_objects s t e = ap (λ l. map.from_entries (list_map (λ x. (x.0, record_of x.1)) (entries_from 0 l))) e

pub free_object : (s : Slab ScriptObject) (k : ℕ) → get s k ≡ None → map.get (objects_in s) k ≡ None
free_object s k g = get_object s k ∙ ap (option_map record_of) g

field_at : (s t : Slab ScriptObject) (k i : ℕ) (v : Slot) (o : Option ScriptObject) → get s k ≡ o
    → ((r : ScriptObject) → get s k ≡ Some r → (p : ScriptObject) × (t ≡ with_value s k p) × (record_of p ≡ record (record_of r) { fields = slice_set r.fields.items i v }))
    → (get s k ≡ None → t ≡ s) → objects_in t ≡ with_field k (option_map record_of o) i v (objects_in s)
field_at s t k i v None g some none = ap objects_in (none g)
field_at s t k i v (Some r) g some none =
    let q = some r g in
    object_set s t k q.0 (value_updates s t k r q.0 g q.1) ∙ ap (map.insert (objects_in s) k) q.2

pub field_stored : (s t : Slab ScriptObject) (k i : ℕ) (v : Slot)
    → ((r : ScriptObject) → get s k ≡ Some r → (p : ScriptObject) × (t ≡ with_value s k p) × (record_of p ≡ record (record_of r) { fields = slice_set r.fields.items i v }))
    → (get s k ≡ None → t ≡ s) → objects_in t ≡ with_field k (map.get (objects_in s) k) i v (objects_in s)
field_stored s t k i v some none = field_at s t k i v (get s k) refl some none ∙ ap (λ o. with_field k o i v (objects_in s)) (sym (get_object s k))

pub class_at : (s : Slab ScriptObject) (k : ℕ) (o : ScriptObject) → get s k ≡ Some o → Some o.class ≡ class_of_record (map.get (objects_in s) k)
class_at s k o g = sym (ap class_of_record (get_object s k ∙ ap (option_map record_of) g))

pub no_class : (s : Slab ScriptObject) (k : ℕ) → get s k ≡ None → None ≡ class_of_record (map.get (objects_in s) k)
no_class s k g = sym (ap class_of_record (free_object s k g))

pub rank_at : (s : Slab ScriptObject) (k : ℕ) (o : ScriptObject) → get s k ≡ Some o → Some o.rank ≡ rank_of_record (map.get (objects_in s) k)
rank_at s k o g = sym (ap rank_of_record (get_object s k ∙ ap (option_map record_of) g))

pub no_rank : (s : Slab ScriptObject) (k : ℕ) → get s k ≡ None → None ≡ rank_of_record (map.get (objects_in s) k)
no_rank s k g = sym (ap rank_of_record (free_object s k g))

pub field_read : (s : Slab ScriptObject) (k i : ℕ) (o : ScriptObject) (v other : Slot) → get s k ≡ Some o → v ≡ slice_index_or o.fields.items i other → v ≡ field_of (map.get (objects_in s) k) i other
field_read s k i o v other g e = e ∙ sym (ap (λ x. field_of x i other) (get_object s k ∙ ap (option_map record_of) g))

pub no_field : (s : Slab ScriptObject) (k i : ℕ) (other : Slot) → get s k ≡ None → other ≡ field_of (map.get (objects_in s) k) i other
no_field s k i other g = sym (ap (λ x. field_of x i other) (free_object s k g))

-- an object put where there was none, after the slab's growth
pub object_new : (s u t : Slab ScriptObject) (k : ℕ) (o : ScriptObject) → u.slots ≡ s.slots → Updates u t k (Some o) → objects_in t ≡ map.insert (objects_in s) k (record_of o)
object_new s u t k o e p = object_set u t k o p ∙ ap (λ m. map.insert m k (record_of o)) (same_objects s u e)

pub place_free : (s u : Slab ScriptObject) (k : ℕ) → u.slots ≡ s.slots → get u k ≡ None → map.get (objects_in s) k ≡ None
place_free s u k e g = ap (λ m. map.get m k) (sym (same_objects s u e)) ∙ free_object u k g

-- one that `get_mut` lends and that is written back
pub lent_stored : (s t : Slab ScriptObject) (k i : ℕ) (v : Slot) (old new : ScriptObject) → get s k ≡ Some old → t ≡ with_value s k new
    → record_of new ≡ record (record_of old) { fields = slice_set old.fields.items i v }
    → (r : ScriptObject) → get s k ≡ Some r → (p : ScriptObject) × (t ≡ with_value s k p) × (record_of p ≡ record (record_of r) { fields = slice_set r.fields.items i v })
lent_stored s t k i v old new g e put r h =
    let same : old ≡ r = ap (λ x. unwrap_or x old) (sym g ∙ h) in
    (new, e, put ∙ ap (λ x. record (record_of x) { fields = slice_set x.fields.items i v }) same)

pub field_lent : (s : Slab ScriptObject) (k i : ℕ) (v : Slot) (old new : ScriptObject) → get s k ≡ Some old → record_of new ≡ record (record_of old) { fields = slice_set old.fields.items i v }
    → objects_in (with_value s k new) ≡ with_field k (map.get (objects_in s) k) i v (objects_in s)
field_lent s k i v old new g put =
    object_set s (with_value s k new) k new (value_updates s (with_value s k new) k old new g refl)
    ∙ ap (map.insert (objects_in s) k) put
    ∙ sym (ap (λ o. with_field k o i v (objects_in s)) (get_object s k ∙ ap (option_map record_of) g))

pub on_err : {A E P : Type 0} (r : Result A E) → P → OnErr r P
on_err (Ok a) p = tt
on_err (Err e) p = p
