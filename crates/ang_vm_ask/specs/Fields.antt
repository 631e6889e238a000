-- Objects as their operations see them.
use Rattle.std.specs.Prelude.{ℕ, nat_eq, nat_lt, Bool, false, Option, Some, None}
use Rattle.std.specs.List.{list_any}
use Rattle.ang_meaning.specs.declared.slot.Slot.{Slot}
use Rattle.ang_meaning.specs.declared.slot.Slot.TheVariants.{Bits, Script, Host}
use Rattle.ang_meaning.specs.Environment.{Environment, class_in}

-- the number of the script object that a value names, where it names one
abbrev pub number_in : Slot → Option ℕ
number_in (Bits n) = None
number_in (Script k) = k
number_in (Host d k) = None

-- both are there, and the first is the lower one
abbrev pub is_lower_rank : Option ℕ → Option ℕ → Bool
is_lower_rank None r = false
is_lower_rank (Some v) None = false
is_lower_rank (Some v) (Some r) = nat_lt v r

-- a class is or stands under class or interface c, where there is a class
abbrev pub is_class_under : Environment → ℕ → ℕ → Option ℕ → Bool
is_class_under z m c None = false
is_class_under z m c (Some k) = list_any (nat_eq c) (class_in (z.class m k)).under
