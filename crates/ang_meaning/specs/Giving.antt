-- What giving up comes to, without the bound on how many objects end one inside the other.
use Rattle.std.specs.Prelude.{◌≡◌, ℕ, Some, None}
use Rattle.std.specs.FinMap as map
use Rattle.ang_meaning.specs.declared.slot.Slot.{Slot}
use Rattle.ang_meaning.specs.declared.slot.Slot.TheVariants.{Bits, Script, Host}
use Rattle.ang_meaning.specs.World.{World, script_lowered, script_given, give}

-- One place fewer holds a script object: where it was the last one, the object leaves the world, and then its fields are given up.
abbrev pub GivesObjects : Type 0
GivesObjects = (k : ℕ) (w : World) → give (Script (Some k)) w ≡ script_given give (script_lowered k w.objects) w

-- the value is a number or null, or what it names is not there
abbrev pub NamesNothing : Slot → World → Type 0
NamesNothing (Bits n) w = Unit {0}
NamesNothing (Script None) w = Unit {0}
NamesNothing (Script (Some k)) w = map.get w.objects k ≡ None
NamesNothing (Host d None) w = Unit {0}
NamesNothing (Host d (Some k)) w = map.get (w.hosts d) k ≡ None

-- giving up such a value changes nothing
abbrev pub LeavesWorld : Type 0
LeavesWorld = (v : Slot) (w : World) → NamesNothing v w → give v w ≡ w
