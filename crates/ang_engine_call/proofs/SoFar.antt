-- The arguments of a call, one by one.
use Rattle.std.specs.Prelude.{List, ◌++◌, Option, Some, None}
use Rattle.ang_meaning.specs.declared.slot.Slot.{Slot}

-- what was found so far, in front of what is found of the rest
abbrev pub all_in_front : List Slot → Option (List Slot) → Option (List Slot)
all_in_front xs None = None
all_in_front xs (Some others) = Some (xs ++ others)
