-- A count at least for each place and each field: it stays so, whatever is held and given up, and what stands among the places is live.
use Rattle.std.proofs.Common.{◌≡◌, ℕ, zero, suc, ◌+◌, ◌≤◌, List, [], ◌∷◌, ◌++◌, Option, Some, None, refl, sym, ap, ◌∙◌, subst, arith}
use Rattle.std.specs.Prelude.{Bool, true, false, cond, nat_eq, ◌&&◌}
use Rattle.std.specs.FinMap as map
use Rattle.std.proofs.lemmas.Bool.{eqb-true}
use Rattle.ang_host.specs.State.{count_of, count_at}
use Rattle.ang_meaning.specs.declared.slot.Slot.{Slot}
use Rattle.ang_meaning.specs.declared.slot.Slot.TheVariants.{Bits, Script, Host}
use Rattle.ang_meaning.specs.World.{World, ScriptRecord, ScriptObjects, HostCounts, one_more, Lowered, Gone, Kept, lowered_at, script_lowered, host_less, host_lowered, host_given, each_given, script_given, given, give, give_all}
use Rattle.ang_meaning.specs.Counting.{Thing, KeyOf, NumberOf, names, how_many, in_lists, Counts, EnoughIn, CanGive, EachEnoughIn, CanGiveEach, IsCounted, HasKey}
use Rattle.ang_meaning.proofs.Tables.{get_without}
use Rattle.ang_meaning.proofs.Counting.{many_append, bits_name_none, key_named, more_key, more_fields, lower_host, left_of, freed_of, lower_fields}

-- ---- from counts, and of parts of the places

pub counts_enough : (e : Thing → ℕ) (vs : List Slot) (w : World) → Counts e vs w → CanGive vs w
counts_enough e vs w p = record { enough = λ d k. omega (arith, p.counts (KeyOf d k)) }

pub counted_enough : (vs : List Slot) (w : World) → IsCounted vs w → CanGive vs w
counted_enough vs w p = counts_enough (λ x. in_lists x w.globals) vs w p.counts

-- fewer places of each thing
pub enough_as : (us vs : List Slot) (os : ScriptObjects) (hs : HostCounts) → ((x : Thing) → how_many x vs ≤ how_many x us) → EnoughIn us os hs → EnoughIn vs os hs
enough_as us vs os hs h p = record { enough = λ d k. omega (arith, p.enough d k, h (KeyOf d k)) }

pub first_enough : (v : Slot) (vs : List Slot) (os : ScriptObjects) (hs : HostCounts) → EnoughIn (v ∷ vs) os hs → EnoughIn (v ∷ []) os hs
first_enough v vs os hs p = record { enough = λ d k. omega (arith, p.enough d k) }

pub rest_enough : (v : Slot) (vs : List Slot) (os : ScriptObjects) (hs : HostCounts) → EnoughIn (v ∷ vs) os hs → EnoughIn vs os hs
rest_enough v vs os hs p = record { enough = λ d k. omega (arith, p.enough d k) }

-- what stands among the places is counted
pub enough_key : (v : Slot) (vs : List Slot) (os : ScriptObjects) (hs : HostCounts) → ((x : Thing) → names x v ≤ how_many x vs) → EnoughIn vs os hs → HasKey v hs
enough_key (Bits n) vs os hs h p = tt
enough_key (Script j) vs os hs h p = tt
enough_key (Host d None) vs os hs h p = tt
enough_key (Host d (Some k)) vs os hs h p = omega (arith, p.enough d k, h (KeyOf d k), key_named d k)

pub first_key : (v : Slot) (vs : List Slot) (os : ScriptObjects) (hs : HostCounts) → EnoughIn (v ∷ vs) os hs → HasKey v hs
first_key v vs os hs p = enough_key v (v ∷ vs) os hs (λ x. omega arith) p

-- ---- each on its own

pub each_enough : (vs : List Slot) (w : World) → CanGive vs w → CanGiveEach vs w
each_enough vs w p = record { each = λ v h. enough_as vs (v ∷ []) w.objects w.hosts (λ x. let q = h x in omega (arith, q)) p }

pub each_fewer : (us vs : List Slot) (w : World) → ((x : Thing) → how_many x vs ≤ how_many x us) → CanGiveEach us w → CanGiveEach vs w
each_fewer us vs w h p = record { each = λ v k. p.each v (λ x. let q = h x in let r = k x in omega (arith, q, r)) }

pub each_key : (vs : List Slot) (os : ScriptObjects) (hs : HostCounts) → EachEnoughIn vs os hs → (v : Slot) → ((x : Thing) → names x v ≤ how_many x vs) → HasKey v hs
each_key vs os hs p v h = first_key v [] os hs (p.each v h)

pub each_none : (vs : List Slot) (w : World) → CanGiveEach vs w → CanGive [] w
each_none vs w p = rest_enough (Bits 0) [] w.objects w.hosts (p.each (Bits 0) (λ x. let q = bits_name_none 0 x in omega (arith, q)))

once_at : (b : Bool) → cond b 1 0 ≤ 1
once_at true = omega arith
once_at false = omega arith

-- a value names a thing once at most
names_once : (x : Thing) (v : Slot) → names x v ≤ 1
names_once (KeyOf d k) (Bits n) = omega arith
names_once (KeyOf d k) (Script j) = omega arith
names_once (KeyOf d k) (Host e None) = omega arith
names_once (KeyOf d k) (Host e (Some j)) = once_at (nat_eq e d && nat_eq j k)
names_once (NumberOf n) (Bits x) = omega arith
names_once (NumberOf n) (Script None) = omega arith
names_once (NumberOf n) (Script (Some j)) = once_at (nat_eq j n)
names_once (NumberOf n) (Host e j) = omega arith

-- one of them once more
pub each_again : (v : Slot) (vs : List Slot) (w : World) → ((x : Thing) → names x v ≤ how_many x vs) → CanGiveEach vs w → CanGiveEach (v ∷ vs) w
each_again v vs w h p = record { each = λ u k. p.each u (λ x. let q = h x in let r = k x in omega (arith, q, r, names_once x u)) }

-- what can be given up still, whatever else is held
pub each_still : (vs : List Slot) (w w' : World) → ((us : List Slot) → CanGive us w → CanGive us w') → CanGiveEach vs w → CanGiveEach vs w'
each_still vs w w' h p = record { each = λ v k. h (v ∷ []) (p.each v k) }

-- ---- one more place

pub more_can : (v : Slot) (vs : List Slot) (w : World) → CanGive vs w → CanGive (v ∷ vs) (one_more v w)
more_can v vs w p = record { enough = λ d k. omega (arith, p.enough d k, more_key d k v w, more_fields (KeyOf d k) v w) }

-- ---- one place fewer

-- a count that was 0 takes nothing along
none_less : (b c : Bool) (d e k j : ℕ) (hs : HostCounts) → nat_eq d e ≡ b → nat_eq k j ≡ c → map.get (hs d) k ≡ Some 0
    → count_at (hs e) j ≤ count_at (cond b (map.remove (hs d) k) (hs e)) j
none_less true true d e k j hs s t g =
    let z : count_at (hs e) j ≡ 0 = ap (λ i. count_at (hs i) j) (sym (eqb-true d e s)) ∙ ap (λ i. count_at (hs d) i) (sym (eqb-true k j t)) ∙ ap count_of g in
    omega (arith, z)
none_less true false d e k j hs s t g =
    let x : count_at (map.remove (hs d) k) j ≡ count_at (hs d) j = ap count_of (get_without (hs d) k j) ∙ ap (λ b. count_of (cond b None (map.get (hs d) j))) t in
    let y : count_at (hs d) j ≡ count_at (hs e) j = ap (λ i. count_at (hs i) j) (eqb-true d e s) in
    omega (arith, x, y)
none_less false c d e k j hs s t g = omega arith

less_key : (d e k j : ℕ) (o : Option ℕ) (hs : HostCounts) → map.get (hs d) k ≡ o
    → count_at (hs e) j ≤ count_at ((host_less d k o hs).hosts e) j + names (KeyOf e j) (Host d (Some k))
less_key d e k j None hs g = omega arith
less_key d e k j (Some zero) hs g = omega (arith, none_less (nat_eq d e) (nat_eq k j) d e k j hs refl refl g)
less_key d e k j (Some (suc c)) hs g = omega (arith, lower_host d e k j (Some (suc c)) hs g (omega arith))

pub lowered_key : (d e k j : ℕ) (hs : HostCounts) → count_at (hs e) j ≤ count_at ((host_lowered d k hs).hosts e) j + names (KeyOf e j) (Host d (Some k))
unfolding host_lowered
lowered_key d e k j hs = less_key d e k j (map.get (hs d) k) hs refl

key_can : (d k : ℕ) (vs : List Slot) (w : World) → CanGive (Host d (Some k) ∷ vs) w → CanGive vs (host_given d k (host_lowered d k w.hosts) w)
key_can d k vs w p = record { enough = λ e j. omega (arith, p.enough e j, lowered_key d e k j w.hosts) }

-- the fields that are to be given up, and what is left
lowered_can : (k : ℕ) (o : Option ScriptRecord) (vs : List Slot) (os : ScriptObjects) (hs : HostCounts) → map.get os k ≡ o → EnoughIn (Script (Some k) ∷ vs) os hs
    → EnoughIn (freed_of (lowered_at k o os) ++ vs) (left_of (lowered_at k o os)) hs
lowered_can k o vs os hs g p = record {
  enough = λ d j. omega (arith, p.enough d j, lower_fields (KeyOf d j) k os o g, many_append (KeyOf d j) (freed_of (lowered_at k o os)) vs);
}

pub script_enough : (k : ℕ) (vs : List Slot) (os : ScriptObjects) (hs : HostCounts) → EnoughIn (Script (Some k) ∷ vs) os hs
    → EnoughIn (freed_of (script_lowered k os) ++ vs) (left_of (script_lowered k os)) hs
unfolding script_lowered
script_enough k vs os hs p = lowered_can k (map.get os k) vs os hs refl p

-- what an object held that ended
pub gone_enough : (k : ℕ) (fs vs : List Slot) (os us : ScriptObjects) (hs : HostCounts) → script_lowered k os ≡ Gone fs us → EnoughIn (Script (Some k) ∷ vs) os hs → EnoughIn (fs ++ vs) us hs
gone_enough k fs vs os us hs e p = subst (λ l. EnoughIn (freed_of l ++ vs) (left_of l) hs) e (script_enough k vs os hs p)

abbrev KeepsEnough : (Slot → World → World) → Type 0
KeepsEnough go = (v : Slot) (vs : List Slot) (w : World) → CanGive (v ∷ vs) w → CanGive vs (go v w)

each_can : (go : Slot → World → World) → KeepsEnough go → (fs vs : List Slot) (w : World) → CanGive (fs ++ vs) w → CanGive vs (each_given go fs w)
each_can go h [] vs w p = p
each_can go h (f ∷ fs) vs w p = each_can go h fs vs (go f w) (h f (fs ++ vs) w p)

script_can : (go : Slot → World → World) → KeepsEnough go → (l : Lowered) (vs : List Slot) (w : World) → EnoughIn (freed_of l ++ vs) (left_of l) w.hosts → CanGive vs (script_given go l w)
script_can go h (Kept os) vs w p = p
script_can go h (Gone fs os) vs w p = each_can go h fs vs (record w { objects = os }) p

given_can : (n : ℕ) (v : Slot) (vs : List Slot) (w : World) → CanGive (v ∷ vs) w → CanGive vs (given n v w)
unfolding given
given_can n (Bits x) vs w p = rest_enough (Bits x) vs w.objects w.hosts p
given_can n (Script None) vs w p = rest_enough (Script None) vs w.objects w.hosts p
given_can n (Host d None) vs w p = rest_enough (Host d None) vs w.objects w.hosts p
given_can n (Host d (Some k)) vs w p = key_can d k vs w p
given_can zero (Script (Some k)) vs w p = rest_enough (Script (Some k)) vs w.objects w.hosts p
given_can (suc n) (Script (Some k)) vs w p = script_can (given n) (given_can n) (script_lowered k w.objects) vs w (script_enough k vs w.objects w.hosts p)

-- one place gives up its value, and there is still enough for the others
pub give_can : (v : Slot) (vs : List Slot) (w : World) → CanGive (v ∷ vs) w → CanGive vs (give v w)
unfolding give
give_can v vs w p = given_can (map.len w.objects) v vs w p

pub give_all_can : (us vs : List Slot) (w : World) → CanGive (us ++ vs) w → CanGive vs (give_all us w)
give_all_can [] vs w p = p
give_all_can (u ∷ us) vs w p = give_all_can us vs (give u w) (give_can u (us ++ vs) w p)
