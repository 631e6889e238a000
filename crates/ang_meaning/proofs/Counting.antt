-- One place more, and one place fewer: the counts stay those of the places.
use Rattle.std.proofs.Common.{◌≡◌, ℕ, zero, suc, ◌+◌, ◌<◌, ◌≤◌, List, [], ◌∷◌, ◌++◌, Option, Some, None, refl, sym, ap, ◌∙◌, arith}
use Rattle.std.specs.Prelude.{Bool, true, false, cond, ◌&&◌, nat_eq}
use Rattle.std.specs.Ordering.{nat_cmp}
use Rattle.std.specs.FinMap as map
use Rattle.std.proofs.lemmas.Bool.{eq-eqb, eqb-true}
use Rattle.ang_host.specs.State.{count_of, count_at}
use Rattle.ang_meaning.specs.declared.slot.Slot.{Slot}
use Rattle.ang_meaning.specs.declared.slot.Slot.TheVariants.{Bits, Script, Host}
use Rattle.ang_meaning.specs.World.{World, ScriptRecord, ScriptObjects, HostCounts, raised_at, script_raised, host_raised, one_more, Lowered, Gone, Kept, one_less, lowered_at, script_lowered, host_less, host_lowered, host_given, each_given, script_given, given, give}
use Rattle.ang_meaning.specs.Counting.{Thing, KeyOf, NumberOf, names, how_many, in_fields, count_of_object, count_in, Counts}
use Rattle.ang_meaning.proofs.Tables.{get_inserted, get_without, sum-gone, sum-changed, len_over, len_gone, none_of_len}

-- ---- lists of places

pub many_append : (x : Thing) (a b : List Slot) → how_many x (a ++ b) ≡ how_many x a + how_many x b
many_append x [] b = omega arith
many_append x (v ∷ a) b = omega (arith, many_append x a b)

-- the same places in another order
pub counts_as : (e : Thing → ℕ) (us vs : List Slot) (w : World) → ((x : Thing) → how_many x us ≡ how_many x vs) → Counts e us w → Counts e vs w
counts_as e us vs w h p = record { counts = λ x. omega (arith, p.counts x, h x) }

-- ---- one more place

-- what the table has of a thing
abbrev of_objects : Thing → ScriptObjects → ℕ
of_objects (KeyOf d k) os = 0
of_objects (NumberOf n) os = count_of_object (map.get os n)

object_at : (b : Bool) (o : ScriptRecord) (c : Option ScriptRecord) → count_of_object (cond b (Some o) c) ≡ cond b o.count (count_of_object c)
object_at true o c = refl
object_at false o c = refl

object_gone : (b : Bool) (c : Option ScriptRecord) → count_of_object (cond b None c) ≡ cond b 0 (count_of_object c)
object_gone true c = refl
object_gone false c = refl

-- a number that goes from a to c where k is q
moved : (b : Bool) (c a m : ℕ) → (b ≡ true → m ≡ a) → c ≡ suc a → cond b c m ≡ m + cond b 1 0
moved true c a m h e = omega (arith, h refl, e)
moved false c a m h e = omega arith

moved_down : (b : Bool) (c a m : ℕ) → (b ≡ true → m ≡ a) → suc c ≡ a → cond b c m + cond b 1 0 ≡ m
moved_down true c a m h e = omega (arith, h refl, e)
moved_down false c a m h e = omega arith

there_at : (os : ScriptObjects) (n q : ℕ) (o : ScriptRecord) → map.get os n ≡ Some o → nat_eq n q ≡ true → count_of_object (map.get os q) ≡ o.count
there_at os n q o g e = ap (λ j. count_of_object (map.get os j)) (sym (eqb-true n q e)) ∙ ap count_of_object g

raised_count : (n q : ℕ) (os : ScriptObjects) (o : Option ScriptRecord) → map.get os n ≡ o → 0 < count_of_object o → count_of_object (map.get (raised_at n o os) q) ≡ count_of_object (map.get os q) + cond (nat_eq n q) 1 0
raised_count n q os None g h = absurd (omega (arith, h))
raised_count n q os (Some o) g h =
    ap count_of_object (get_inserted os n q (record o { count = suc o.count })) ∙ object_at (nat_eq n q) (record o { count = suc o.count }) (map.get os q)
    ∙ moved (nat_eq n q) (suc o.count) o.count (count_of_object (map.get os q)) (there_at os n q o g) refl

raised_fields : (x : Thing) (n : ℕ) (os : ScriptObjects) (o : Option ScriptRecord) → map.get os n ≡ o → in_fields x (raised_at n o os) ≡ in_fields x os
raised_fields x n os None g = refl
raised_fields x n os (Some o) g =
    let s = sum-changed (λ r. how_many x r.fields) os n o (record o { count = suc o.count }) g in omega (arith, s)

host_at : (b c : Bool) (m : map.FinMap nat_cmp ℕ) (k j v : ℕ) → nat_eq k j ≡ c → v ≡ suc (count_at m k)
    → count_of (cond c (Some v) (map.get m j)) ≡ count_at m j + cond c 1 0
host_at b true m k j v t e = let z : count_at m k ≡ count_at m j = ap (count_at m) (eqb-true k j t) in omega (arith, z, e)
host_at b false m k j v t e = omega arith

host_raised_at : (b : Bool) (d e k j : ℕ) (hs : HostCounts) → nat_eq d e ≡ b
    → count_at (cond b (map.insert (hs d) k (suc (count_at (hs d) k))) (hs e)) j ≡ count_at (hs e) j + cond (b && nat_eq k j) 1 0
host_raised_at true d e k j hs t =
    ap count_of (get_inserted (hs d) k j (suc (count_at (hs d) k))) ∙ host_at true (nat_eq k j) (hs d) k j (suc (count_at (hs d) k)) refl refl
    ∙ ap (λ i. count_at (hs i) j + cond (nat_eq k j) 1 0) (eqb-true d e t)
host_raised_at false d e k j hs t = omega arith

-- of a host object, whether it is there or not
pub more_key : (d k : ℕ) (v : Slot) (w : World) → count_at ((one_more v w).hosts d) k ≡ count_at (w.hosts d) k + names (KeyOf d k) v
unfolding one_more host_raised
more_key d k (Bits n) w = omega arith
more_key d k (Script None) w = omega arith
more_key d k (Script (Some n)) w = omega arith
more_key d k (Host e None) w = omega arith
more_key d k (Host e (Some j)) w = host_raised_at (nat_eq e d) e d j k w.hosts refl

-- where it names a script object, that is there
abbrev pub HasObject : Slot → ScriptObjects → Type 0
HasObject (Bits n) os = Unit {0}
HasObject (Script None) os = Unit {0}
HasObject (Script (Some n)) os = 0 < count_of_object (map.get os n)
HasObject (Host d k) os = Unit {0}

more_object : (q : ℕ) (v : Slot) (w : World) → HasObject v w.objects → count_in (NumberOf q) (one_more v w) ≡ count_in (NumberOf q) w + names (NumberOf q) v
unfolding one_more script_raised
more_object q (Bits n) w h = omega arith
more_object q (Script None) w h = omega arith
more_object q (Script (Some n)) w h = raised_count n q w.objects (map.get w.objects n) refl h
more_object q (Host e None) w h = omega arith
more_object q (Host e (Some j)) w h = omega arith

pub more_count : (x : Thing) (v : Slot) (w : World) → HasObject v w.objects → count_in x (one_more v w) ≡ count_in x w + names x v
more_count (KeyOf d k) v w h = more_key d k v w
more_count (NumberOf q) v w h = more_object q v w h

pub more_fields : (x : Thing) (v : Slot) (w : World) → in_fields x (one_more v w).objects ≡ in_fields x w.objects
unfolding one_more script_raised
more_fields x (Bits n) w = refl
more_fields x (Script None) w = refl
more_fields x (Script (Some n)) w = raised_fields x n w.objects (map.get w.objects n) refl
more_fields x (Host e None) w = refl
more_fields x (Host e (Some j)) w = refl

pub more_globals : (v : Slot) (w : World) → (one_more v w).globals ≡ w.globals
unfolding one_more
more_globals (Bits n) w = refl
more_globals (Script None) w = refl
more_globals (Script (Some n)) w = refl
more_globals (Host e None) w = refl
more_globals (Host e (Some j)) w = refl

pub more_counts : (e : Thing → ℕ) (v : Slot) (vs : List Slot) (w : World) → HasObject v w.objects → Counts e vs w → Counts e (v ∷ vs) (one_more v w)
more_counts e v vs w h p = record { counts = λ x. omega (arith, p.counts x, more_count x v w h, more_fields x v w) }

-- ---- one place fewer: a host object

host_less_at : (c : Bool) (m : map.FinMap nat_cmp ℕ) (k j v a : ℕ) → nat_eq k j ≡ c → map.get m k ≡ Some a → suc v ≡ a
    → cond c v (count_at m j) + cond c 1 0 ≡ count_at m j
host_less_at true m k j v a t g e =
    let z : count_at m j ≡ a = ap (count_at m) (sym (eqb-true k j t)) ∙ ap count_of g in omega (arith, z, e)
host_less_at false m k j v a t g e = omega arith

some_at : (c : Bool) (v : ℕ) (o : Option ℕ) → count_of (cond c (Some v) o) ≡ cond c v (count_of o)
some_at true v o = refl
some_at false v o = refl

none_at : (c : Bool) (o : Option ℕ) → count_of (cond c None o) ≡ cond c 0 (count_of o)
none_at true o = refl
none_at false o = refl

put_count : (b : Bool) (d e k j a v : ℕ) (m : map.FinMap nat_cmp ℕ) (hs : HostCounts) → nat_eq d e ≡ b → map.get (hs d) k ≡ Some a → suc v ≡ a
    → (count_at m j ≡ cond (nat_eq k j) v (count_at (hs d) j))
    → count_at (cond b m (hs e)) j + cond (b && nat_eq k j) 1 0 ≡ count_at (hs e) j
put_count true d e k j a v m hs t g s c =
    let z : count_at (hs d) j ≡ count_at (hs e) j = ap (λ i. count_at (hs i) j) (eqb-true d e t) in
    omega (arith, c, host_less_at (nat_eq k j) (hs d) k j v a refl g s, z)
put_count false d e k j a v m hs t g s c = omega arith

pub lower_host : (d e k j : ℕ) (o : Option ℕ) (hs : HostCounts) → map.get (hs d) k ≡ o → 0 < count_of o
    → count_at ((host_less d k o hs).hosts e) j + cond (nat_eq d e && nat_eq k j) 1 0 ≡ count_at (hs e) j
lower_host d e k j None hs g h = absurd (omega (arith, h))
lower_host d e k j (Some zero) hs g h = absurd (omega (arith, h))
lower_host d e k j (Some (suc zero)) hs g h =
    put_count (nat_eq d e) d e k j 1 0 (map.remove (hs d) k) hs refl g refl (ap count_of (get_without (hs d) k j) ∙ none_at (nat_eq k j) (map.get (hs d) j))
lower_host d e k j (Some (suc (suc c))) hs g h =
    put_count (nat_eq d e) d e k j (suc (suc c)) (suc c) (map.insert (hs d) k (suc c)) hs refl g refl
    (ap count_of (get_inserted (hs d) k j (suc c)) ∙ some_at (nat_eq k j) (suc c) (map.get (hs d) j))

host_gives : (x : Thing) (d k : ℕ) (w : World) → 0 < count_in (KeyOf d k) w → count_in x (host_given d k (host_lowered d k w.hosts) w) + names x (Host d (Some k)) ≡ count_in x w
unfolding host_lowered
host_gives (KeyOf e j) d k w h = lower_host d e k j (map.get (w.hosts d) k) w.hosts refl h
host_gives (NumberOf q) d k w h = omega arith

-- ---- one place fewer: a script object

-- what is left of the table, and the fields that are to be given up
abbrev pub left_of : Lowered → ScriptObjects
left_of (Gone vs os) = os
left_of (Kept os) = os

abbrev pub freed_of : Lowered → List Slot
freed_of (Gone vs os) = vs
freed_of (Kept os) = []

pub given_as : (go : Slot → World → World) (l : Lowered) (w : World) → script_given go l w ≡ each_given go (freed_of l) (record w { objects = left_of l })
given_as go (Gone vs os) w = refl
given_as go (Kept os) w = refl

less_count : (n q : ℕ) (os : ScriptObjects) (o : ScriptRecord) (c : ℕ) → map.get os n ≡ Some o → o.count ≡ c → 0 < c
    → count_of_object (map.get (left_of (one_less n o c os)) q) + cond (nat_eq n q) 1 0 ≡ count_of_object (map.get os q)
less_count n q os o zero g e h = absurd (omega (arith, h))
less_count n q os o (suc zero) g e h =
    let x : count_of_object (map.get (map.remove os n) q) ≡ cond (nat_eq n q) 0 (count_of_object (map.get os q)) = ap count_of_object (get_without os n q) ∙ object_gone (nat_eq n q) (map.get os q) in
    omega (arith, x, moved_down (nat_eq n q) 0 o.count (count_of_object (map.get os q)) (there_at os n q o g) (sym e))
less_count n q os o (suc (suc c)) g e h =
    let r : ScriptRecord = record o { count = suc c } in
    let x : count_of_object (map.get (map.insert os n r) q) ≡ cond (nat_eq n q) (suc c) (count_of_object (map.get os q)) = ap count_of_object (get_inserted os n q r) ∙ object_at (nat_eq n q) r (map.get os q) in
    omega (arith, x, moved_down (nat_eq n q) (suc c) o.count (count_of_object (map.get os q)) (there_at os n q o g) (sym e))

lower_count : (n q : ℕ) (os : ScriptObjects) (o : Option ScriptRecord) → map.get os n ≡ o → 0 < count_of_object o
    → count_of_object (map.get (left_of (lowered_at n o os)) q) + cond (nat_eq n q) 1 0 ≡ count_of_object (map.get os q)
lower_count n q os None g h = absurd (omega (arith, h))
lower_count n q os (Some o) g h = less_count n q os o o.count g refl h

less_fields : (x : Thing) (n : ℕ) (os : ScriptObjects) (o : ScriptRecord) (c : ℕ) → map.get os n ≡ Some o
    → in_fields x os ≡ how_many x (freed_of (one_less n o c os)) + in_fields x (left_of (one_less n o c os))
less_fields x n os o zero g = sum-gone (λ r. how_many x r.fields) os n o g
less_fields x n os o (suc zero) g = sum-gone (λ r. how_many x r.fields) os n o g
less_fields x n os o (suc (suc c)) g = let s = sum-changed (λ r. how_many x r.fields) os n o (record o { count = suc c }) g in omega (arith, s)

pub lower_fields : (x : Thing) (n : ℕ) (os : ScriptObjects) (o : Option ScriptRecord) → map.get os n ≡ o
    → in_fields x os ≡ how_many x (freed_of (lowered_at n o os)) + in_fields x (left_of (lowered_at n o os))
lower_fields x n os None g = omega arith
lower_fields x n os (Some o) g = less_fields x n os o o.count g

-- an object that ends leaves fewer
abbrev pub Fewer : Lowered → ScriptObjects → Type 0
Fewer (Gone vs os) all = map.len os < map.len all
Fewer (Kept os) all = map.len os ≤ map.len all

less_fewer : (n : ℕ) (os : ScriptObjects) (o : ScriptRecord) (c : ℕ) → map.get os n ≡ Some o → Fewer (one_less n o c os) os
less_fewer n os o zero g = len_gone os n o g
less_fewer n os o (suc zero) g = len_gone os n o g
less_fewer n os o (suc (suc c)) g = let e = len_over os n o (record o { count = suc c }) g in omega (arith, e)

pub lower_fewer : (n : ℕ) (os : ScriptObjects) (o : Option ScriptRecord) → map.get os n ≡ o → Fewer (lowered_at n o os) os
lower_fewer n os None g = omega arith
lower_fewer n os (Some o) g = less_fewer n os o o.count g

-- ---- all that ends with it

-- giving up makes no objects
abbrev AreFewer : (Slot → World → World) → Type 0
AreFewer go = (v : Slot) (w : World) → map.len (go v w).objects ≤ map.len w.objects

each_fewer : (go : Slot → World → World) → AreFewer go → (vs : List Slot) (w : World) → map.len (each_given go vs w).objects ≤ map.len w.objects
each_fewer go h [] w = omega arith
each_fewer go h (v ∷ vs) w = omega (arith, each_fewer go h vs (go v w), h v w)

script_fewer : (go : Slot → World → World) → AreFewer go → (l : Lowered) (w : World) → Fewer l w.objects → map.len (script_given go l w).objects ≤ map.len w.objects
script_fewer go h (Kept os) w le = le
script_fewer go h (Gone vs os) w lt = omega (arith, lt, each_fewer go h vs (record w { objects = os }))

pub given_fewer : (n : ℕ) (v : Slot) (w : World) → map.len (given n v w).objects ≤ map.len w.objects
unfolding given script_lowered
given_fewer n (Bits x) w = omega arith
given_fewer n (Script None) w = omega arith
given_fewer n (Host d None) w = omega arith
given_fewer n (Host d (Some k)) w = omega arith
given_fewer zero (Script (Some k)) w = omega arith
given_fewer (suc n) (Script (Some k)) w = script_fewer (given n) (given_fewer n) (lowered_at k (map.get w.objects k) w.objects) w (lower_fewer k w.objects (map.get w.objects k) refl)

-- each of a list, where up to n objects may end one inside the other
each_counts : (e : Thing → ℕ) (go : Slot → World → World) (n : ℕ) → AreFewer go → ((v : Slot) (vs : List Slot) (w : World) → map.len w.objects ≤ n → Counts e (v ∷ vs) w → Counts e vs (go v w))
    → (fs vs : List Slot) (w : World) → map.len w.objects ≤ n → Counts e (fs ++ vs) w → Counts e vs (each_given go fs w)
each_counts e go n small good [] vs w le p = p
each_counts e go n small good (f ∷ fs) vs w le p =
    each_counts e go n small good fs vs (go f w) (omega (arith, le, small f w)) (good f (fs ++ vs) w le p)

-- what stands first among the places is there
pub self_named : (k : ℕ) → names (NumberOf k) (Script (Some k)) ≡ 1
self_named k = ap (λ b. cond b 1 0) (eq-eqb k k refl)

pub key_named : (d k : ℕ) → names (KeyOf d k) (Host d (Some k)) ≡ 1
key_named d k = ap (λ b. cond (b && nat_eq k k) 1 0) (eq-eqb d d refl) ∙ ap (λ b. cond b 1 0) (eq-eqb k k refl)

pub held_script : (e : Thing → ℕ) (k : ℕ) (vs : List Slot) (w : World) → Counts e (Script (Some k) ∷ vs) w → 0 < count_in (NumberOf k) w
held_script e k vs w p = omega (arith, p.counts (NumberOf k), self_named k)

pub held_key : (e : Thing → ℕ) (d k : ℕ) (vs : List Slot) (w : World) → Counts e (Host d (Some k) ∷ vs) w → 0 < count_in (KeyOf d k) w
held_key e d k vs w p = omega (arith, p.counts (KeyOf d k), key_named d k)

at_thing : (e : Thing → ℕ) (k : ℕ) (vs : List Slot) (w : World) → Counts e (Script (Some k) ∷ vs) w → (x : Thing)
    → count_in x (record w { objects = left_of (lowered_at k (map.get w.objects k) w.objects) })
    ≡ e x + (how_many x (freed_of (lowered_at k (map.get w.objects k) w.objects) ++ vs) + in_fields x (left_of (lowered_at k (map.get w.objects k) w.objects)))
at_thing e k vs w p (KeyOf d j) =
    let o = map.get w.objects k in
    omega (arith, p.counts (KeyOf d j), lower_fields (KeyOf d j) k w.objects o refl, many_append (KeyOf d j) (freed_of (lowered_at k o w.objects)) vs)
at_thing e k vs w p (NumberOf q) =
    let o = map.get w.objects k in
    omega (
      arith,
      p.counts (NumberOf q),
      lower_fields (NumberOf q) k w.objects o refl,
      many_append (NumberOf q) (freed_of (lowered_at k o w.objects)) vs,
      lower_count k q w.objects o refl (held_script e k vs w p),
    )

pub lowered_counts : (e : Thing → ℕ) (k : ℕ) (vs : List Slot) (w : World) → Counts e (Script (Some k) ∷ vs) w
    → Counts e (freed_of (lowered_at k (map.get w.objects k) w.objects) ++ vs) (record w { objects = left_of (lowered_at k (map.get w.objects k) w.objects) })
lowered_counts e k vs w p = record { counts = λ x. at_thing e k vs w p x }

script_counts : (e : Thing → ℕ) (go : Slot → World → World) (n : ℕ) → AreFewer go → ((v : Slot) (vs : List Slot) (w : World) → map.len w.objects ≤ n → Counts e (v ∷ vs) w → Counts e vs (go v w))
    → (l : Lowered) (vs : List Slot) (w : World) → map.len w.objects ≤ suc n → Fewer l w.objects → Counts e (freed_of l ++ vs) (record w { objects = left_of l }) → Counts e vs (script_given go l w)
script_counts e go n small good (Kept os) vs w le lt p = p
script_counts e go n small good (Gone fs os) vs w le lt p = each_counts e go n small good fs vs (record w { objects = os }) (omega (arith, le, lt)) p

-- a value that names nothing
same_counts : (e : Thing → ℕ) (v : Slot) (vs : List Slot) (w : World) → ((x : Thing) → names x v ≡ 0) → Counts e (v ∷ vs) w → Counts e vs w
same_counts e v vs w h p = record { counts = λ x. omega (arith, p.counts x, h x) }

pub bits_name_none : (n : ℕ) (x : Thing) → names x (Bits n) ≡ 0
bits_name_none n (KeyOf d k) = refl
bits_name_none n (NumberOf q) = refl

pub null_names_none : (x : Thing) → names x (Script None) ≡ 0
null_names_none (KeyOf d k) = refl
null_names_none (NumberOf q) = refl

pub no_key_names_none : (e : ℕ) (x : Thing) → names x (Host e None) ≡ 0
no_key_names_none e (KeyOf d k) = refl
no_key_names_none e (NumberOf q) = refl

key_counts : (e : Thing → ℕ) (d k : ℕ) (vs : List Slot) (w : World) → Counts e (Host d (Some k) ∷ vs) w → Counts e vs (host_given d k (host_lowered d k w.hosts) w)
key_counts e d k vs w p = record { counts = λ x. omega (arith, p.counts x, host_gives x d k w (held_key e d k vs w p)) }

-- one place gives up its value
pub given_counts : (e : Thing → ℕ) (n : ℕ) (v : Slot) (vs : List Slot) (w : World) → map.len w.objects ≤ n → Counts e (v ∷ vs) w → Counts e vs (given n v w)
unfolding given script_lowered
given_counts e n (Bits x) vs w le p = same_counts e (Bits x) vs w (bits_name_none x) p
given_counts e n (Script None) vs w le p = same_counts e (Script None) vs w null_names_none p
given_counts e n (Host d None) vs w le p = same_counts e (Host d None) vs w (no_key_names_none d) p
given_counts e n (Host d (Some k)) vs w le p = key_counts e d k vs w p
given_counts e zero (Script (Some k)) vs w le p =
    let z : count_in (NumberOf k) w ≡ 0 = ap count_of_object (none_of_len w.objects k le) in
    absurd (omega (arith, z, held_script e k vs w p))
given_counts e (suc n) (Script (Some k)) vs w le p =
    script_counts e (given n) n (given_fewer n) (given_counts e n) (lowered_at k (map.get w.objects k) w.objects) vs w le
    (lower_fewer k w.objects (map.get w.objects k) refl) (lowered_counts e k vs w p)

pub give_counts : (e : Thing → ℕ) (v : Slot) (vs : List Slot) (w : World) → Counts e (v ∷ vs) w → Counts e vs (give v w)
unfolding give
give_counts e v vs w p = given_counts e (map.len w.objects) v vs w (omega arith) p

-- ---- more room to end changes nothing

each_same : (n m : ℕ) → ((v : Slot) (w : World) → map.len w.objects ≤ n → map.len w.objects ≤ m → given n v w ≡ given m v w)
    → (vs : List Slot) (w : World) → map.len w.objects ≤ n → map.len w.objects ≤ m → each_given (given n) vs w ≡ each_given (given m) vs w
each_same n m h [] w a b = refl
each_same n m h (v ∷ vs) w a b =
    each_same n m h vs (given n v w) (omega (arith, a, given_fewer n v w)) (omega (arith, b, given_fewer n v w)) ∙ ap (each_given (given m) vs) (h v w a b)

script_same : (n m : ℕ) → ((v : Slot) (w : World) → map.len w.objects ≤ n → map.len w.objects ≤ m → given n v w ≡ given m v w)
    → (l : Lowered) (w : World) → Fewer l w.objects → map.len w.objects ≤ suc n → map.len w.objects ≤ suc m → script_given (given n) l w ≡ script_given (given m) l w
script_same n m h (Kept os) w lt a b = refl
script_same n m h (Gone vs os) w lt a b = each_same n m h vs (record w { objects = os }) (omega (arith, lt, a)) (omega (arith, lt, b))

fewer_same : (n m : ℕ) → ((v : Slot) (w : World) → map.len w.objects ≤ n → map.len w.objects ≤ m → given n v w ≡ given m v w)
    → (k : ℕ) (w : World) → map.len w.objects ≤ suc n → map.len w.objects ≤ suc m → script_given (given n) (script_lowered k w.objects) w ≡ script_given (given m) (script_lowered k w.objects) w
unfolding script_lowered
fewer_same n m h k w a b = script_same n m h (lowered_at k (map.get w.objects k) w.objects) w (lower_fewer k w.objects (map.get w.objects k) refl) a b

-- an empty table
none_given : (go : Slot → World → World) (k : ℕ) (o : Option ScriptRecord) (w : World) → o ≡ None → script_given go (lowered_at k o w.objects) w ≡ w
none_given go k None w h = refl
none_given go k (Some o) w h = absurd (let x : ⊥ = cc in x)

pub empty_given : (go : Slot → World → World) (k : ℕ) (w : World) → map.len w.objects ≤ 0 → script_given go (script_lowered k w.objects) w ≡ w
unfolding script_lowered
empty_given go k w h = none_given go k (map.get w.objects k) w (none_of_len w.objects k h)

pub given_enough : (n m : ℕ) (v : Slot) (w : World) → map.len w.objects ≤ n → map.len w.objects ≤ m → given n v w ≡ given m v w
unfolding given
given_enough n m (Bits x) w a b = refl
given_enough n m (Script None) w a b = refl
given_enough n m (Host d None) w a b = refl
given_enough n m (Host d (Some k)) w a b = refl
given_enough zero zero (Script (Some k)) w a b = refl
given_enough zero (suc m) (Script (Some k)) w a b = sym (empty_given (given m) k w a)
given_enough (suc n) zero (Script (Some k)) w a b = empty_given (given n) k w b
given_enough (suc n) (suc m) (Script (Some k)) w a b = fewer_same n m (given_enough n m) k w a b

-- ---- globals stay

each_globals : (go : Slot → World → World) → ((v : Slot) (w : World) → (go v w).globals ≡ w.globals) → (vs : List Slot) (w : World) → (each_given go vs w).globals ≡ w.globals
each_globals go h [] w = refl
each_globals go h (v ∷ vs) w = each_globals go h vs (go v w) ∙ h v w

script_globals : (go : Slot → World → World) → ((v : Slot) (w : World) → (go v w).globals ≡ w.globals) → (l : Lowered) (w : World) → (script_given go l w).globals ≡ w.globals
script_globals go h (Kept os) w = refl
script_globals go h (Gone vs os) w = each_globals go h vs (record w { objects = os })

given_globals : (n : ℕ) (v : Slot) (w : World) → (given n v w).globals ≡ w.globals
unfolding given
given_globals n (Bits x) w = refl
given_globals n (Script None) w = refl
given_globals n (Host d None) w = refl
given_globals n (Host d (Some k)) w = refl
given_globals zero (Script (Some k)) w = refl
given_globals (suc n) (Script (Some k)) w = script_globals (given n) (given_globals n) (script_lowered k w.objects) w

pub give_globals : (v : Slot) (w : World) → (give v w).globals ≡ w.globals
unfolding give
give_globals v w = given_globals (map.len w.objects) v w
