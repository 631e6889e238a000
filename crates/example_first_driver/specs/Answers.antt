-- The answers that a driver without objects may give to a host call that it counts.
use Rattle.std.specs.Prelude.{Bool, true, false}
use Rattle.ang_kinds.specs.declared.value.Value.TheVariants.{Int, Uint, Bool as BoolValue, Key}
use Rattle.ang_host.specs.declared.answer.Answer.{Answer}
use Rattle.ang_host.specs.declared.answer.Answer.TheVariants.{Void, Gave, Fault, Memory, Full}

-- an answer that is no key and not `Full`
abbrev pub is_plain : Answer → Bool
is_plain Void = true
is_plain (Gave (Int n)) = true
is_plain (Gave (Uint n)) = true
is_plain (Gave (BoolValue b)) = true
is_plain (Gave (Key k)) = false
is_plain (Fault n) = true
is_plain Memory = true
is_plain Full = false
