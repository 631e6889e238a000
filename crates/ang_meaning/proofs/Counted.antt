-- Holding, giving up, storing and making: what is counted stays counted.
use Rattle.std.proofs.Common.{◌≡◌, ℕ, zero, suc, ◌+◌, ◌<◌, ◌≤◌, List, [], ◌∷◌, ◌++◌, Option, Some, None, refl, sym, ap, ◌∙◌, subst, length, unwrap_or, arith}
use Rattle.std.specs.Prelude.{Bool, true, false, cond, nat_eq, slice_set, slice_index_or, map as list_map}
use Rattle.std.specs.FinMap as map
use Rattle.std.proofs.lemmas.Bool.{eqb-true, ltb-true, eq-eqb}
use Rattle.ang_meaning.specs.declared.slot.Slot.{Slot}
use Rattle.ang_meaning.specs.declared.slot.Slot.TheVariants.{Bits, Script, Host}
use Rattle.ang_meaning.specs.World.{World, ScriptRecord, ScriptObjects, Input, Room, Said, Tallied, Fresh, with_inputs, if_told, Tried, Yes, No, memory_told, memory_step, HoldLimit, Inside, AtEnd, OfDriver, hold_limit_of, refused_at, tally_told, tally_step, one_more, hold, give, give_all, or_else}
use Rattle.ang_meaning.specs.declared.class.Class.{Class}
use Rattle.ang_meaning.specs.declared.class.ValueKind.{ValueKind}
use Rattle.ang_meaning.specs.declared.class.ValueKind.TheVariants.{Number as NumberField, Handle as HandleField}
use Rattle.ang_meaning.specs.Environment.{default_of}
use Rattle.ang_meaning.specs.Perform.{globals_of, global_or, global_put, field_of, field_or, with_field, field_put, is_lower, may_take, member_or, member_put, new_object}
use Rattle.ang_meaning.specs.Results.{local_at, local_set}
use Rattle.ang_meaning.specs.Counting.{Thing, KeyOf, NumberOf, names, how_many, in_lists, count_of_object, count_in, Counts, IsBelow, AreBelow, AreSoundObjects, IsCounted, HasKey}
use Rattle.ang_meaning.proofs.Tables.{get_inserted, sum-new, sum-changed, sum-bound}
use Rattle.ang_meaning.proofs.Counting.{many_append, counts_as, more_counts, more_globals, give_counts, give_globals, bits_name_none, null_names_none, key_named, self_named, HasObject}
use Rattle.ang_meaning.proofs.Ranks.{AreRanked, all_still_below, more_ordered, give_ordered}

-- ---- the same places, the same objects

pub counted_as : (us vs : List Slot) (w : World) → ((x : Thing) → how_many x us ≡ how_many x vs) → IsCounted us w → IsCounted vs w
counted_as us vs w h p = record { counts = counts_as (λ x. in_lists x w.globals) us vs w h p.counts; ordered = p.ordered }

-- ---- held and given up

pub more_counted : (v : Slot) (s : List Slot) (w : World) → HasObject v w.objects → IsCounted s w → IsCounted (v ∷ s) (one_more v w)
more_counted v s w k p = record {
  counts = subst (λ g. Counts (λ x. in_lists x g) (v ∷ s) (one_more v w)) (sym (more_globals v w)) (more_counts (λ x. in_lists x w.globals) v s w k p.counts);
  ordered = more_ordered v w p.ordered;
}

pub give_counted : (v : Slot) (s : List Slot) (w : World) → IsCounted (v ∷ s) w → IsCounted s (give v w)
give_counted v s w p = record {
  counts = subst (λ g. Counts (λ x. in_lists x g) s (give v w)) (sym (give_globals v w)) (give_counts (λ x. in_lists x w.globals) v s w p.counts);
  ordered = give_ordered v w p.ordered;
}

pub give_all_counted : (vs s : List Slot) (w : World) → IsCounted (vs ++ s) w → IsCounted s (give_all vs w)
give_all_counted [] s w p = p
give_all_counted (v ∷ vs) s w p = give_all_counted vs s (give v w) (give_counted v (vs ++ s) w p)

-- below the value on top
pub give_all_under : (v : Slot) (vs s : List Slot) (w : World) → IsCounted (v ∷ (vs ++ s)) w → IsCounted (v ∷ s) (give_all vs w)
give_all_under v vs s w p =
    give_all_counted vs (v ∷ s) w (counted_as (v ∷ (vs ++ s)) (vs ++ (v ∷ s)) w (λ x. omega (arith, many_append x vs s, many_append x vs (v ∷ s))) p)

-- ---- what stands among the places is there

-- one more place may hold it: null, a number, or something with a count
abbrev pub IsThere : Slot → World → Type 0
IsThere v w = HasObject v w.objects × HasKey v w.hosts

pub there_of : (v : Slot) (w : World) → ((x : Thing) → names x v ≤ count_in x w) → IsThere v w
there_of (Bits n) w h = (tt, tt)
there_of (Script None) w h = (tt, tt)
there_of (Script (Some n)) w h = (omega (arith, h (NumberOf n), self_named n), tt)
there_of (Host d None) w h = (tt, tt)
there_of (Host d (Some k)) w h = (tt, omega (arith, h (KeyOf d k), key_named d k))

-- on the stack
pub counted_there : (v : Slot) (s : List Slot) (w : World) → ((x : Thing) → names x v ≤ how_many x s) → IsCounted s w → IsThere v w
counted_there v s w h p = there_of v w (λ x. omega (arith, p.counts.counts x, h x))

pub first_there : (v : Slot) (s : List Slot) (w : World) → IsCounted (v ∷ s) w → IsThere v w
first_there v s w p = counted_there v (v ∷ s) w (λ x. omega arith) p

pub names_at : (x : Thing) (s : List Slot) (d : ℕ) → names x (local_at s d) ≤ how_many x s
names_at x [] d = omega (arith, bits_name_none 0 x)
names_at x (v ∷ s) zero = omega arith
names_at x (v ∷ s) (suc d) = omega (arith, names_at x s d)

-- in a global
names_index : (x : Thing) (l : List Slot) (i : ℕ) (d : Slot) → names x d ≡ 0 → names x (slice_index_or l i d) ≤ how_many x l
names_index x [] i d h = omega (arith, h)
names_index x (v ∷ l) zero d h = omega arith
names_index x (v ∷ l) (suc i) d h = omega (arith, names_index x l i d h)

list_index : (x : Thing) (ls : List (List Slot)) (m : ℕ) → how_many x (slice_index_or ls m []) ≤ in_lists x ls
list_index x [] m = omega arith
list_index x (l ∷ ls) zero = omega arith
list_index x (l ∷ ls) (suc m) = omega (arith, list_index x ls m)

pub global_there : (m g : ℕ) (s : List Slot) (w : World) → IsCounted s w → IsThere (global_or m g (Bits 0) w) w
unfolding global_or
global_there m g s w p =
    there_of (global_or m g (Bits 0) w) w
    (λ x. omega (arith, p.counts.counts x, names_index x (globals_of m w) g (Bits 0) (bits_name_none 0 x), list_index x w.globals m))

-- in a field
field_known : (s : List Slot) (w : World) (n i : ℕ) (o : Option ScriptRecord) → map.get w.objects n ≡ o → IsCounted s w → IsThere (field_of o i (Bits 0)) w
field_known s w n i None g p = (tt, tt)
field_known s w n i (Some o) g p =
    there_of (slice_index_or o.fields i (Bits 0)) w
    (λ x. omega (arith, p.counts.counts x, names_index x o.fields i (Bits 0) (bits_name_none 0 x), sum-bound (λ r. how_many x r.fields) w.objects n o g))

pub field_there : (s : List Slot) (w : World) (n i : ℕ) → IsCounted s w → IsThere (field_or n i (Bits 0) w) w
unfolding field_or
field_there s w n i p = field_known s w n i (map.get w.objects n) refl p

-- ---- a step that may be refused

abbrev pub TriedCounted : List Slot → List Slot → Tried → Type 0
TriedCounted more s (Yes w) = IsCounted more w
TriedCounted more s (No w) = IsCounted s w

if_counted : (b : Bool) (s : List Slot) (is : List Input) (w : World) → IsCounted s w → TriedCounted s s (if_told b (with_inputs is w))
if_counted true s is w p = p
if_counted false s is w p = p

memory_from : (inputs : List Input) (s : List Slot) (w : World) → IsCounted s w → TriedCounted s s (memory_told inputs w)
memory_from [] s w p = p
memory_from (Room b ∷ rest) s w p = if_counted b s rest w p
memory_from (Said r ∷ rest) s w p = p
memory_from (Tallied b ∷ rest) s w p = p
memory_from (Fresh n ∷ rest) s w p = p

pub memory_counted : (s : List Slot) (w : World) → IsCounted s w → TriedCounted s s (memory_step w)
unfolding memory_step
memory_counted s w p = memory_from w.inputs s w p

-- what one more place may hold is the same whatever was told
abbrev TriedKnown : Slot → List Slot → Tried → Type 0
TriedKnown v s (Yes w) = IsCounted s w × HasObject v w.objects
TriedKnown v s (No w) = IsCounted s w

refused_from : (x : HoldLimit) (v : Slot) (s : List Slot) (is : List Input) (w : World) → IsCounted s w → TriedKnown v s (refused_at x is w)
refused_from Inside v s is w p = p
refused_from AtEnd v s is w p = p
refused_from OfDriver v s is w p = p

tally_from : (x : HoldLimit) (inputs : List Input) (v : Slot) (s : List Slot) (w : World) → HasObject v w.objects → IsCounted s w → TriedKnown v s (tally_told x inputs w)
tally_from x [] v s w k p = p
tally_from x (Tallied true ∷ rest) v s w k p = (p, k)
tally_from x (Tallied false ∷ rest) v s w k p = refused_from x v s rest w p
tally_from x (Room b ∷ rest) v s w k p = p
tally_from x (Said r ∷ rest) v s w k p = p
tally_from x (Fresh n ∷ rest) v s w k p = p

tally_counted : (v : Slot) (s : List Slot) (w : World) → HasObject v w.objects → IsCounted s w → TriedKnown v s (tally_step v w)
unfolding tally_step
tally_counted (Bits n) s w k p = (p, tt)
tally_counted (Script None) s w k p = (p, tt)
tally_counted (Script (Some n)) s w k p = tally_from (hold_limit_of (map.get w.objects n)) w.inputs (Script (Some n)) s w k p
tally_counted (Host d None) s w k p = (p, tt)
tally_counted (Host d (Some j)) s w k p = tally_from OfDriver w.inputs (Host d (Some j)) s w k p

held_counted : (v : Slot) (s : List Slot) (o : Tried) → TriedKnown v s o → TriedCounted (v ∷ s) s (or_else o No (λ u. Yes (one_more v u)))
held_counted v s (No w) p = p
held_counted v s (Yes w) p = more_counted v s w p.1 p.0

pub hold_counted : (v : Slot) (s : List Slot) (w : World) → HasObject v w.objects → IsCounted s w → TriedCounted (v ∷ s) s (hold v w)
unfolding hold
hold_counted v s w k p = held_counted v s (tally_step v w) (tally_counted v s w k p)

-- ---- stores

pub store_places : (x : Thing) (r : List Slot) (d : ℕ) (v : Slot) → d < length r → how_many x (local_set r d v) + names x (local_at r d) ≡ how_many x r + names x v
store_places x [] d v h = absurd (omega (arith, h))
store_places x (u ∷ r) zero v h = omega arith
store_places x (u ∷ r) (suc d) v h = omega (arith, store_places x r d v (omega (arith, h)))

pub store_counted : (r : List Slot) (d : ℕ) (v : Slot) (w : World) → d < length r → IsCounted (v ∷ r) w → IsCounted (local_at r d ∷ local_set r d v) w
store_counted r d v w h p = counted_as (v ∷ r) (local_at r d ∷ local_set r d v) w (λ x. omega (arith, store_places x r d v h)) p

-- into a list, where past its end the default counts as the value does
put_places : (x : Thing) (l : List Slot) (i : ℕ) (d v : Slot) → names x d ≡ names x v → how_many x (slice_set l i v) + names x (slice_index_or l i d) ≡ how_many x l + names x v
put_places x [] i d v h = omega (arith, h)
put_places x (u ∷ l) zero d v h = omega arith
put_places x (u ∷ l) (suc i) d v h = omega (arith, put_places x l i d v h)

lists_places : (x : Thing) (ls : List (List Slot)) (m g : ℕ) (d v : Slot) → names x d ≡ names x v
    → in_lists x (slice_set ls m (slice_set (slice_index_or ls m []) g v)) + names x (slice_index_or (slice_index_or ls m []) g d) ≡ in_lists x ls + names x v
lists_places x [] m g d v h = omega (arith, h)
lists_places x (l ∷ ls) zero g d v h = omega (arith, put_places x l g d v h)
lists_places x (l ∷ ls) (suc m) g d v h = omega (arith, lists_places x ls m g d v h)

-- into a global
pub put_counted : (m g : ℕ) (d v : Slot) (s : List Slot) (w : World) → ((x : Thing) → names x d ≡ names x v) → IsCounted (v ∷ s) w → IsCounted (global_or m g d w ∷ s) (global_put m g v w)
unfolding global_or global_put
put_counted m g d v s w h p = record {
  counts = record { counts = λ x. omega (arith, p.counts.counts x, lists_places x w.globals m g d v (h x)) };
  ordered = p.ordered;
}

-- into a field
field_count : (b : Bool) (o : ScriptRecord) (fs : List Slot) (c : Option ScriptRecord) → (b ≡ true → c ≡ Some o)
    → count_of_object (cond b (Some (record o { fields = fs })) c) ≡ count_of_object c
field_count true o fs c h = sym (ap count_of_object (h refl))
field_count false o fs c h = refl

at_key : (os : ScriptObjects) (n q : ℕ) (o : ScriptRecord) → map.get os n ≡ Some o → nat_eq n q ≡ true → map.get os q ≡ Some o
at_key os n q o g e = ap (map.get os) (sym (eqb-true n q e)) ∙ g

counts_with : (x : Thing) (w : World) (n : ℕ) (o : ScriptRecord) (fs : List Slot) → map.get w.objects n ≡ Some o
    → count_in x (record w { objects = map.insert w.objects n (record o { fields = fs }) }) ≡ count_in x w
counts_with (KeyOf d k) w n o fs g = refl
counts_with (NumberOf q) w n o fs g =
    ap count_of_object (get_inserted w.objects n q (record o { fields = fs })) ∙ field_count (nat_eq n q) o fs (map.get w.objects q) (at_key w.objects n q o g)

ranked_with : (b : Bool) (os : ScriptObjects) (n q : ℕ) (o r p : ScriptRecord) → nat_eq n q ≡ b → map.get os n ≡ Some o → o.rank ≡ r.rank → cond b (Some r) (map.get os q) ≡ Some p
    → (old : ScriptRecord) × (map.get os q ≡ Some old) × (old.rank ≡ p.rank)
ranked_with true os n q o r p t g a e = let s : r ≡ p = ap (λ x. unwrap_or x r) e in (o, at_key os n q o g t, a ∙ ap (λ x. x.rank) s)
ranked_with false os n q o r p t g a e = (p, e, refl)

set_below : (os : ScriptObjects) (r : ℕ) (vs : List Slot) (i : ℕ) (v : Slot) → AreBelow os r vs → IsBelow os r v → AreBelow os r (slice_set vs i v)
set_below os r [] i v p q = tt
set_below os r (u ∷ vs) zero v p q = (q, p.1)
set_below os r (u ∷ vs) (suc i) v p q = (p.0, set_below os r vs i v p.1 q)

falls_with : (b : Bool) (os later : ScriptObjects) (q : ℕ) (r p : ScriptRecord) → AreRanked os later → AreSoundObjects os → AreBelow os r.rank r.fields → cond b (Some r) (map.get os q) ≡ Some p
    → AreBelow later p.rank p.fields
falls_with true os later q r p k h f e = let s : r ≡ p = ap (λ x. unwrap_or x r) e in all_still_below os later p.rank p.fields k (subst (λ x. AreBelow os x.rank x.fields) s f)
falls_with false os later q r p k h f e = all_still_below os later p.rank p.fields k (h.falls q p e)

alive_with : (b : Bool) (os : ScriptObjects) (q : ℕ) (r p : ScriptRecord) → AreSoundObjects os → 0 < r.count → cond b (Some r) (map.get os q) ≡ Some p → 0 < p.count
alive_with true os q r p h lt e = let s : r ≡ p = ap (λ x. unwrap_or x r) e in subst (λ x. 0 < x.count) s lt
alive_with false os q r p h lt e = h.alive q p e

ordered_with : (os : ScriptObjects) (n : ℕ) (o r : ScriptRecord) → map.get os n ≡ Some o → AreSoundObjects os → o.rank ≡ r.rank → 0 < r.count → AreBelow os r.rank r.fields → AreSoundObjects (map.insert os n r)
ordered_with os n o r g h a lt f =
    let k : AreRanked os (map.insert os n r) = λ q p e. ranked_with (nat_eq n q) os n q o r p refl g a (sym (get_inserted os n q r) ∙ e) in
    record {
      alive = λ q p e. alive_with (nat_eq n q) os q r p h lt (sym (get_inserted os n q r) ∙ e);
      falls = λ q p e. falls_with (nat_eq n q) os (map.insert os n r) q r p k h f (sym (get_inserted os n q r) ∙ e);
    }

with_counted : (n i : ℕ) (d v : Slot) (s : List Slot) (w : World) (o : Option ScriptRecord) → map.get w.objects n ≡ o → ((x : Thing) → names x d ≡ names x v)
    → ((r : ScriptRecord) → map.get w.objects n ≡ Some r → IsBelow w.objects r.rank v)
    → IsCounted (v ∷ s) w → IsCounted (field_of o i d ∷ s) (record w { objects = with_field n o i v w.objects })
with_counted n i d v s w None g h below p = counted_as (v ∷ s) (d ∷ s) w (λ x. omega (arith, h x)) p
with_counted n i d v s w (Some o) g h below p =
    let fs = slice_set o.fields i v in
    record {
      counts = record {
        counts = λ x. omega (
          arith,
          p.counts.counts x,
          counts_with x w n o fs g,
          put_places x o.fields i d v (h x),
          sum-changed (λ r. how_many x r.fields) w.objects n o (record o { fields = fs }) g,
        );
      };
      ordered = ordered_with w.objects n o (record o { fields = fs }) g p.ordered refl (p.ordered.alive n o g) (set_below w.objects o.rank o.fields i v (p.ordered.falls n o g) (below o g));
    }

pub field_counted : (n i : ℕ) (d v : Slot) (s : List Slot) (w : World) → ((x : Thing) → names x d ≡ names x v) → ((r : ScriptRecord) → map.get w.objects n ≡ Some r → IsBelow w.objects r.rank v)
    → IsCounted (v ∷ s) w → IsCounted (field_or n i d w ∷ s) (field_put n i v w)
unfolding field_or field_put
field_counted n i d v s w h below p = with_counted n i d v s w (map.get w.objects n) refl h below p

-- what a field may take is below its object
lower_at : (a b : Option ScriptRecord) (p o : ScriptRecord) → a ≡ Some p → b ≡ Some o → is_lower a b ≡ true → p.rank < o.rank
lower_at None b p o e f t = absurd (let x : ⊥ = cc in x)
lower_at (Some a) None p o e f t = absurd (let x : ⊥ = cc in x)
lower_at (Some a) (Some b) p o e f t =
    let x : a ≡ p = ap (λ q. unwrap_or q a) e in
    let y : b ≡ o = ap (λ q. unwrap_or q b) f in
    let z : a.rank < b.rank = ltb-true a.rank b.rank t in
    omega (arith, z, ap (λ q. q.rank) x, ap (λ q. q.rank) y)

pub taken_below : (n : ℕ) (v : Slot) (w : World) → may_take n v w ≡ true → (r : ScriptRecord) → map.get w.objects n ≡ Some r → IsBelow w.objects r.rank v
unfolding may_take
taken_below n (Bits x) w t r g = tt
taken_below n (Script None) w t r g = tt
taken_below n (Script (Some k)) w t r g = λ o h. lower_at (map.get w.objects k) (map.get w.objects n) o r h g t
taken_below n (Host d k) w t r g = tt

-- a value and a member change places
taken_counted : (b : Bool) (n i : ℕ) (v : Slot) (s : List Slot) (w : World) → may_take n v w ≡ b → IsCounted (v ∷ s) w → IsCounted (cond b (field_or n i v w) v ∷ s) (cond b (field_put n i v w) w)
taken_counted true n i v s w e p = field_counted n i v v s w (λ x. refl) (taken_below n v w e) p
taken_counted false n i v s w e p = p

pub member_counted : (i : ℕ) (o v : Slot) (s : List Slot) (w : World) → IsCounted (v ∷ s) w → IsCounted (member_or i o v w ∷ s) (member_put i o v w)
unfolding member_or member_put
member_counted i (Bits x) v s w p = p
member_counted i (Script None) v s w p = p
member_counted i (Script (Some n)) v s w p = taken_counted (may_take n v w) n i v s w refl p
member_counted i (Host d k) v s w p = p

-- ---- a new object

defaults_name_none : (x : Thing) (k : ValueKind) → names x (default_of k) ≡ 0
defaults_name_none x NumberField = bits_name_none 0 x
defaults_name_none x HandleField = null_names_none x

pub defaults_many : (x : Thing) (ks : List ValueKind) → how_many x (list_map default_of ks) ≡ 0
defaults_many x [] = refl
defaults_many x (k ∷ ks) = omega (arith, defaults_name_none x k, defaults_many x ks)

default_below : (os : ScriptObjects) (r : ℕ) (k : ValueKind) → IsBelow os r (default_of k)
default_below os r NumberField = tt
default_below os r HandleField = tt

defaults_below : (os : ScriptObjects) (r : ℕ) (ks : List ValueKind) → AreBelow os r (list_map default_of ks)
defaults_below os r [] = tt
defaults_below os r (k ∷ ks) = (default_below os r k, defaults_below os r ks)

new_count : (b : Bool) (o : ScriptRecord) (c : Option ScriptRecord) → o.count ≡ 1 → (b ≡ true → c ≡ None) → count_of_object (cond b (Some o) c) ≡ count_of_object c + cond b 1 0
new_count true o c e h = omega (arith, e, ap count_of_object (h refl))
new_count false o c e h = omega arith

none_at : (os : ScriptObjects) (n q : ℕ) → map.get os n ≡ None → nat_eq n q ≡ true → map.get os q ≡ None
none_at os n q g e = ap (map.get os) (sym (eqb-true n q e)) ∙ g

count_new : (x : Thing) (w : World) (n : ℕ) (o : ScriptRecord) (is : List Input) → map.get w.objects n ≡ None → o.count ≡ 1
    → count_in x (record w { inputs = is; objects = map.insert w.objects n o }) ≡ count_in x w + names x (Script (Some n))
count_new (KeyOf d k) w n o is g e = omega arith
count_new (NumberOf q) w n o is g e =
    ap count_of_object (get_inserted w.objects n q o) ∙ new_count (nat_eq n q) o (map.get w.objects q) e (none_at w.objects n q g)

-- what does not name it is below as before
below_other : (b : Bool) (os : ScriptObjects) (r n j : ℕ) (o p : ScriptRecord) (rest : ℕ) → nat_eq j n ≡ b → cond b 1 0 + rest ≡ 0 → IsBelow os r (Script (Some j))
    → (c : Bool) → nat_eq n j ≡ c → cond c (Some o) (map.get os j) ≡ Some p → p.rank < r
below_other true os r n j o p rest t z h c u e = absurd (omega (arith, z))
below_other false os r n j o p rest t z h true u e = absurd (let x : true ≡ false = sym (eq-eqb j n (sym (eqb-true n j u))) ∙ t in let y : ⊥ = cc in y)
below_other false os r n j o p rest t z h false u e = h p e

still_below_new : (os : ScriptObjects) (r n : ℕ) (o : ScriptRecord) (vs : List Slot) → how_many (NumberOf n) vs ≡ 0 → AreBelow os r vs → AreBelow (map.insert os n o) r vs
still_below_new os r n o [] z p = tt
still_below_new os r n o (Bits x ∷ vs) z p = (tt, still_below_new os r n o vs (omega (arith, z)) p.1)
still_below_new os r n o (Script None ∷ vs) z p = (tt, still_below_new os r n o vs (omega (arith, z)) p.1)
still_below_new os r n o (Script (Some j) ∷ vs) z p = (
  λ q e. below_other (nat_eq j n) os r n j o q (how_many (NumberOf n) vs) refl z p.0 (nat_eq n j) refl (sym (get_inserted os n j o) ∙ e),
  still_below_new os r n o vs (omega (arith, z)) p.1,
)
still_below_new os r n o (Host d k ∷ vs) z p = (tt, still_below_new os r n o vs (omega (arith, z)) p.1)

falls_new : (b : Bool) (os : ScriptObjects) (n q : ℕ) (o p : ScriptRecord) → AreSoundObjects os → ((m : ℕ) (r : ScriptRecord) → map.get os m ≡ Some r → how_many (NumberOf n) r.fields ≡ 0)
    → AreBelow (map.insert os n o) o.rank o.fields → cond b (Some o) (map.get os q) ≡ Some p → AreBelow (map.insert os n o) p.rank p.fields
falls_new true os n q o p h z f e = let s : o ≡ p = ap (λ x. unwrap_or x o) e in subst (λ x. AreBelow (map.insert os n o) x.rank x.fields) s f
falls_new false os n q o p h z f e = still_below_new os p.rank n o p.fields (z q p e) (h.falls q p e)

pub new_counted : (n : ℕ) (k : Class) (is : List Input) (s : List Slot) (w : World) → map.get w.objects n ≡ None → IsCounted s w
    → IsCounted (Script (Some n) ∷ s) (record w { inputs = is; objects = map.insert w.objects n (new_object k) })
new_counted n k is s w g p =
    let o = new_object k in
    let zero_count : count_in (NumberOf n) w ≡ 0 = ap count_of_object g in
    let unnamed : (m : ℕ) (r : ScriptRecord) → map.get w.objects m ≡ Some r → how_many (NumberOf n) r.fields ≡ 0 =
    λ m r e. omega (arith, zero_count, p.counts.counts (NumberOf n), sum-bound (λ x. how_many (NumberOf n) x.fields) w.objects m r e) in
    record {
      counts = record { counts = λ x. omega (arith, p.counts.counts x, count_new x w n o is g refl, defaults_many x k.fields, sum-new (λ r. how_many x r.fields) w.objects n o g) };
      ordered = record {
        alive = λ q r e. alive_with (nat_eq n q) w.objects q o r p.ordered (omega arith) (sym (get_inserted w.objects n q o) ∙ e);
        falls = λ q r e. falls_new (nat_eq n q) w.objects n q o r p.ordered unnamed (defaults_below (map.insert w.objects n o) k.rank k.fields) (sym (get_inserted w.objects n q o) ∙ e);
      };
    }

-- a global and a place on the stack change places
pub traded_counted : (m g : ℕ) (v : Slot) (s t : List Slot) (w : World) → ((x : Thing) → how_many x t + names x v ≡ how_many x s + names x (global_or m g v w)) → IsCounted s w → IsCounted t (global_put m g v w)
unfolding global_or global_put
traded_counted m g v s t w h p = record {
  counts = record { counts = λ x. omega (arith, p.counts.counts x, lists_places x w.globals m g v v refl, h x) };
  ordered = p.ordered;
}
