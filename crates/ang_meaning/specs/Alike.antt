-- Worlds that are equal up to the numbers of script objects, and inputs that are equal but for those of new ones.
use Rattle.std.specs.Prelude.{ℕ, ◌≡◌, List, Option, Some, None, map as list_map}
use Rattle.std.specs.FinMap as map
use Rattle.ang_meaning.specs.declared.slot.Slot.{Slot}
use Rattle.ang_meaning.specs.declared.slot.Slot.TheVariants.{Bits, Script, Host}
use Rattle.ang_meaning.specs.World.{World, ScriptRecord, ScriptObjects, Input, Room, Said, Tallied, Fresh}

-- a permutation of the numbers of script objects
pub record Renaming : Type 0 where
  pub to : ℕ → ℕ
  pub from : ℕ → ℕ
  pub there : (n : ℕ) → from (to n) ≡ n
  pub back : (n : ℕ) → to (from n) ≡ n

-- none has another number
abbrev pub unchanged : Renaming
unchanged = record { to = λ n. n; from = λ n. n; there = λ n i. n; back = λ n i. n }

abbrev pub renamed_number : Renaming → Option ℕ → Option ℕ
renamed_number r None = None
renamed_number r (Some n) = Some (r.to n)

abbrev pub renamed : Renaming → Slot → Slot
renamed r (Bits n) = Bits n
renamed r (Script k) = Script (renamed_number r k)
renamed r (Host d k) = Host d k

abbrev pub renamed_all : Renaming → List Slot → List Slot
renamed_all r vs = list_map (renamed r) vs

abbrev pub renamed_lists : Renaming → List (List Slot) → List (List Slot)
renamed_lists r ls = list_map (renamed_all r) ls

abbrev pub renamed_record : Renaming → Option ScriptRecord → Option ScriptRecord
renamed_record r None = None
renamed_record r (Some o) = Some (record o { fields = renamed_all r o.fields })

-- each object has its record under its new number, and there are no others
pub record Tables (r : Renaming) (os ps : ScriptObjects) : Type 0 where
  pub has : (n : ℕ) → map.get ps (r.to n) ≡ renamed_record r (map.get os n)
  pub size : map.len ps ≡ map.len os

-- an input, with the same number for each new object
abbrev pub without_number : Input → Input
without_number (Room b) = Room b
without_number (Said reply) = Said reply
without_number (Tallied b) = Tallied b
without_number (Fresh n) = Fresh 0

-- the same inputs, but for the numbers of new objects
abbrev pub SameButNumbers : List Input → List Input → Type 0
SameButNumbers is js = list_map without_number is ≡ list_map without_number js

-- the second world is the first one renamed
pub record Alike (r : Renaming) (v w : World) : Type 0 where
  pub objects : Tables r v.objects w.objects
  pub hosts : w.hosts ≡ v.hosts
  pub globals : w.globals ≡ renamed_lists r v.globals
  pub events : w.events ≡ v.events
  pub reserved : w.reserved ≡ v.reserved
  pub spent : w.spent ≡ v.spent
  pub bounds : w.bounds ≡ v.bounds
  pub inputs : SameButNumbers v.inputs w.inputs
