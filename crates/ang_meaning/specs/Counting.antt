-- Counts against the places that hold what is counted: each variable, parameter, field and value in flight that holds an object counts once
-- (docs/CLAIMS.md, "The world of a run"; the AngelScript manual, "Memory management").
use Rattle.std.specs.Prelude.{ℕ, ◌+◌, ◌<◌, ◌≤◌, ◌≡◌, cond, ◌&&◌, nat_eq, List, [], ◌∷◌, Option, Some, None}
use Rattle.std.specs.Ordering.{nat_cmp}
use Rattle.std.specs.FinMap as map
use Rattle.ang_host.specs.State.{State, count_at}
use Rattle.ang_host.specs.Members.{state_at}
use Rattle.ang_meaning.specs.declared.slot.Slot.{Slot}
use Rattle.ang_meaning.specs.declared.slot.Slot.TheVariants.{Bits, Script, Host}
use Rattle.ang_meaning.specs.World.{World, ScriptRecord, ScriptObjects, HostCounts}

-- what a place can name: a key of a driver, or a script object's number
pub data Thing : Type 0 where
  KeyOf : ℕ → ℕ → Thing
  NumberOf : ℕ → Thing

-- 1 where the slot names it, and else 0
abbrev pub names : Thing → Slot → ℕ
names (KeyOf d k) (Host e (Some j)) = cond (nat_eq e d && nat_eq j k) 1 0
names (NumberOf n) (Script (Some j)) = cond (nat_eq j n) 1 0
names _ _ = 0

-- how many of these places hold it
abbrev pub how_many : Thing → List Slot → ℕ
how_many x [] = 0
how_many x (v ∷ vs) = names x v + how_many x vs

-- of several lists, as those of the globals
abbrev pub in_lists : Thing → List (List Slot) → ℕ
in_lists x [] = 0
in_lists x (l ∷ ls) = how_many x l + in_lists x ls

-- the sum over the entries of a table
abbrev pub sum_entries : {X : Type 0} → (X → ℕ) → List (ℕ × X) → ℕ
sum_entries f [] = 0
sum_entries f (e ∷ es) = f e.1 + sum_entries f es

unfoldable pub sum_over : {X : Type 0} → (X → ℕ) → map.FinMap nat_cmp X → ℕ
sum_over f m = sum_entries f (map.entries m)

-- how many fields of all script objects hold it
abbrev pub in_fields : Thing → ScriptObjects → ℕ
in_fields x os = sum_over (λ o. how_many x o.fields) os

-- its count, which is 0 where it is not there
abbrev pub count_of_object : Option ScriptRecord → ℕ
count_of_object None = 0
count_of_object (Some o) = o.count

abbrev pub count_by : Thing → ScriptObjects → HostCounts → ℕ
count_by (KeyOf d k) os hs = count_at (hs d) k
count_by (NumberOf n) os hs = count_of_object (map.get os n)

abbrev pub count_in : Thing → World → ℕ
count_in x w = count_by x w.objects w.hosts

-- Each count is that of elsewhere, and of the places among vs and all fields. This and what is said with it below speak of parts of a world, so that what
-- a run was told and has listed does not matter.
pub record CountsIn (elsewhere : Thing → ℕ) (vs : List Slot) (os : ScriptObjects) (hs : HostCounts) : Type 0 where
  pub counts : (x : Thing) → count_by x os hs ≡ elsewhere x + (how_many x vs + in_fields x os)

abbrev pub Counts : (Thing → ℕ) → List Slot → World → Type 0
Counts elsewhere vs w = CountsIn elsewhere vs w.objects w.hosts

-- an object that a field holds is of a lower rank
abbrev pub IsBelow : ScriptObjects → ℕ → Slot → Type 0
IsBelow os r (Script (Some n)) = (o : ScriptRecord) → map.get os n ≡ Some o → o.rank < r
IsBelow os r _ = Unit {0}

abbrev pub AreBelow : ScriptObjects → ℕ → List Slot → Type 0
AreBelow os r [] = Unit {0}
AreBelow os r (v ∷ vs) = IsBelow os r v × AreBelow os r vs

-- each script object is held somewhere, and ranks fall along fields
pub record AreSoundObjects (os : ScriptObjects) : Type 0 where
  pub alive : (n : ℕ) (o : ScriptRecord) → map.get os n ≡ Some o → 0 < o.count
  pub falls : (n : ℕ) (o : ScriptRecord) → map.get os n ≡ Some o → AreBelow os o.rank o.fields

-- the counts are the numbers of places, among vs, the globals and all fields
pub record CountedIn (vs : List Slot) (os : ScriptObjects) (hs : HostCounts) (gs : List (List Slot)) : Type 0 where
  pub counts : CountsIn (λ x. in_lists x gs) vs os hs
  pub ordered : AreSoundObjects os

abbrev pub IsCounted : List Slot → World → Type 0
IsCounted vs w = CountedIn vs w.objects w.hosts w.globals

-- A count at least for each of these places and each field, of host objects alone: all that a driver asks where a reference is given up. A script object
-- needs none: one that is not there is given up without a change.
pub record EnoughIn (vs : List Slot) (os : ScriptObjects) (hs : HostCounts) : Type 0 where
  pub enough : (d k : ℕ) → how_many (KeyOf d k) vs + in_fields (KeyOf d k) os ≤ count_at (hs d) k

abbrev pub CanGive : List Slot → World → Type 0
CanGive vs w = EnoughIn vs w.objects w.hosts

-- The same for each of these on its own: several may be held by one place, which need not be among them. It is all that a driver asks of what it is handed.
pub record EachEnoughIn (vs : List Slot) (os : ScriptObjects) (hs : HostCounts) : Type 0 where
  pub each : (v : Slot) → ((x : Thing) → names x v ≤ how_many x vs) → EnoughIn (v ∷ []) os hs

abbrev pub CanGiveEach : List Slot → World → Type 0
CanGiveEach vs w = EachEnoughIn vs w.objects w.hosts

-- where the value names a host object, that is counted: what a driver asks before it adds a reference
abbrev pub HasKey : Slot → HostCounts → Type 0
HasKey (Bits n) hs = Unit {0}
HasKey (Script j) hs = Unit {0}
HasKey (Host d None) hs = Unit {0}
HasKey (Host d (Some k)) hs = 0 < count_at (hs d) k

-- the counts of drivers in these states: what the world has of host objects is read off the drivers
abbrev pub counts_by : List State → HostCounts
counts_by ss = λ d. (state_at ss d).counts

-- Where no place outside the fields holds anything there is no script object, and no host object is counted.
abbrev pub NoRoots : Type 0
NoRoots = (w : World) → IsCounted [] w → ((x : Thing) → in_lists x w.globals ≡ 0) → (w.objects ≡ map.empty) × ((d k : ℕ) → count_at (w.hosts d) k ≡ 0)
