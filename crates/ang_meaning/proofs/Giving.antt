-- What giving up does, without the bound on how deep it goes: as a heap does it.
use Rattle.std.proofs.Common.{◌≡◌, ℕ, zero, suc, ◌≤◌, List, [], ◌∷◌, Option, Some, None, refl, sym, ap, ◌∙◌, arith}
use Rattle.std.specs.FinMap as map
use Rattle.ang_meaning.specs.declared.slot.Slot.{Slot}
use Rattle.ang_meaning.specs.declared.slot.Slot.TheVariants.{Bits, Script, Host}
use Rattle.ang_meaning.specs.World.{World, ScriptRecord, ScriptObjects, Lowered, Gone, Kept, lowered_at, script_lowered, host_less, host_lowered, host_given, each_given, script_given, given, give, give_all}
use Rattle.ang_meaning.specs.Giving.{GivesObjects, NamesNothing, LeavesWorld}
use Rattle.ang_meaning.proofs.Counting.{left_of, freed_of, Fewer, lower_fewer, given_fewer, given_enough, empty_given}

pub give_bits : (n : ℕ) (w : World) → give (Bits n) w ≡ w
unfolding give given
give_bits n w = refl

pub give_null : (w : World) → give (Script None) w ≡ w
unfolding give given
give_null w = refl

pub give_no_key : (d : ℕ) (w : World) → give (Host d None) w ≡ w
unfolding give given
give_no_key d w = refl

pub give_key : (d k : ℕ) (w : World) → give (Host d (Some k)) w ≡ host_given d k (host_lowered d k w.hosts) w
unfolding give given
give_key d k w = refl

-- up to n objects may end one inside the other
each_give : (n : ℕ) (vs : List Slot) (w : World) → map.len w.objects ≤ n → each_given (given n) vs w ≡ give_all vs w
unfolding give
each_give n [] w le = refl
each_give n (v ∷ vs) w le =
    each_give n vs (given n v w) (omega (arith, le, given_fewer n v w))
    ∙ ap (give_all vs) (given_enough n (map.len w.objects) v w le (omega arith))

script_give : (n : ℕ) (l : Lowered) (w : World) → map.len w.objects ≤ suc n → Fewer l w.objects → script_given (given n) l w ≡ give_all (freed_of l) (record w { objects = left_of l })
script_give n (Kept os) w le lt = refl
script_give n (Gone vs os) w le lt = each_give n vs (record w { objects = os }) (omega (arith, le, lt))

script_give_of : (n : ℕ) (k : ℕ) (w : World) → map.len w.objects ≤ suc n
    → script_given (given n) (script_lowered k w.objects) w ≡ give_all (freed_of (script_lowered k w.objects)) (record w { objects = left_of (script_lowered k w.objects) })
unfolding script_lowered
script_give_of n k w le = script_give n (lowered_at k (map.get w.objects k) w.objects) w le (lower_fewer k w.objects (map.get w.objects k) refl)

with_more : (n : ℕ) (k : ℕ) (w : World) → map.len w.objects ≤ n
    → given n (Script (Some k)) w ≡ give_all (freed_of (script_lowered k w.objects)) (record w { objects = left_of (script_lowered k w.objects) })
unfolding given
with_more zero k w le =
    sym (empty_given (given 0) k w le) ∙ script_give_of 0 k w (omega (arith, le))
with_more (suc n) k w le = script_give_of n k w le

-- One reference to a script object is given up: if it was the last, the object leaves the table, and then its fields are given up, the first one first.
pub give_script : (k : ℕ) (w : World) → give (Script (Some k)) w ≡ give_all (freed_of (script_lowered k w.objects)) (record w { objects = left_of (script_lowered k w.objects) })
unfolding give
give_script k w = with_more (map.len w.objects) k w (omega arith)

-- the same by what lowering its count comes to: it was not the last reference, or none
pub give_kept : (k : ℕ) (os : ScriptObjects) (w : World) → script_lowered k w.objects ≡ Kept os → give (Script (Some k)) w ≡ record w { objects = os }
give_kept k os w e = give_script k w ∙ ap (λ l. give_all (freed_of l) (record w { objects = left_of l })) e

-- it was the last
pub give_gone : (k : ℕ) (fs : List Slot) (os : ScriptObjects) (w : World) → script_lowered k w.objects ≡ Gone fs os → give (Script (Some k)) w ≡ give_all fs (record w { objects = os })
give_gone k fs os w e = give_script k w ∙ ap (λ l. give_all (freed_of l) (record w { objects = left_of l })) e

each_all : (vs : List Slot) (w : World) → give_all vs w ≡ each_given give vs w
each_all [] w = refl
each_all (v ∷ vs) w = each_all vs (give v w)

given_by : (l : Lowered) (w : World) → give_all (freed_of l) (record w { objects = left_of l }) ≡ script_given give l w
given_by (Kept os) w = refl
given_by (Gone fs os) w = each_all fs (record w { objects = os })

pub gives_objects : GivesObjects
gives_objects = λ k w. give_script k w ∙ given_by (script_lowered k w.objects) w

-- ---- where nothing is named nothing is given up

no_object : (k : ℕ) (o : Option ScriptRecord) (w : World) → o ≡ None → script_given give (lowered_at k o w.objects) w ≡ w
no_object k None w h = refl
no_object k (Some o) w h = absurd (let x : ⊥ = cc in x)

object_given : (k : ℕ) (w : World) → map.get w.objects k ≡ None → script_given give (script_lowered k w.objects) w ≡ w
unfolding script_lowered
object_given k w h = no_object k (map.get w.objects k) w h

no_key : (d k : ℕ) (o : Option ℕ) (w : World) → o ≡ None → host_given d k (host_less d k o w.hosts) w ≡ w
no_key d k None w h = refl
no_key d k (Some n) w h = absurd (let x : ⊥ = cc in x)

key_given : (d k : ℕ) (w : World) → map.get (w.hosts d) k ≡ None → host_given d k (host_lowered d k w.hosts) w ≡ w
unfolding host_lowered
key_given d k w h = no_key d k (map.get (w.hosts d) k) w h

names_nothing : (v : Slot) (w : World) → NamesNothing v w → give v w ≡ w
names_nothing (Bits x) w h = give_bits x w
names_nothing (Script None) w h = give_null w
names_nothing (Script (Some k)) w h = gives_objects k w ∙ object_given k w h
names_nothing (Host d None) w h = give_no_key d w
names_nothing (Host d (Some k)) w h = give_key d k w ∙ key_given d k w h

pub leaves_world : LeavesWorld
leaves_world = λ v w. names_nothing v w

-- ---- where nothing lives nothing is given up

-- no object, and no key is counted
pub record IsObjectless (w : World) : Type 0 where
  pub objects : map.len w.objects ≡ 0
  pub keys : (d k : ℕ) → map.get (w.hosts d) k ≡ None

given_nothing : (v : Slot) (w : World) → IsObjectless w → given 0 v w ≡ w
unfolding given
given_nothing (Bits x) w h = refl
given_nothing (Script None) w h = refl
given_nothing (Script (Some k)) w h = refl
given_nothing (Host d None) w h = refl
given_nothing (Host d (Some k)) w h = key_given d k w (h.keys d k)

pub give_nothing : (v : Slot) (w : World) → IsObjectless w → give v w ≡ w
unfolding give
give_nothing v w h = ap (λ n. given n v w) h.objects ∙ given_nothing v w h

pub give_all_nothing : (vs : List Slot) (w : World) → IsObjectless w → give_all vs w ≡ w
give_all_nothing [] w h = refl
give_all_nothing (v ∷ vs) w h = ap (give_all vs) (give_nothing v w h) ∙ give_all_nothing vs w h
