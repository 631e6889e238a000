-- Values that may be handed to a driver, whatever lives there.
use Rattle.std.specs.Prelude.{Bool, true, false, Some, None}
use Rattle.ang_kinds.specs.declared.value.Value.{Value}
use Rattle.ang_kinds.specs.declared.value.Value.TheVariants.{Int, Uint, Bool as BoolValue, Key}

-- a value that is not the key of an object
abbrev pub is_bare : Value → Bool
is_bare (Int n) = true
is_bare (Uint n) = true
is_bare (BoolValue b) = true
is_bare (Key None) = true
is_bare (Key (Some k)) = false
