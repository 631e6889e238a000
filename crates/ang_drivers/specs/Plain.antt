-- Answers that name no key and are not for want of a tally.
use Rattle.ang_kinds.specs.declared.value.Value.TheVariants.{Int, Uint, Bool as Truth, Key as KeyValue}
use Rattle.ang_host.specs.declared.answer.Answer.{Answer}
use Rattle.ang_host.specs.declared.answer.Answer.TheVariants.{Void, Gave, Fault, Memory, Full}

abbrev pub IsPlain : Answer → Type 0
IsPlain Void = Unit {0}
IsPlain (Gave (Int z)) = Unit {0}
IsPlain (Gave (Uint n)) = Unit {0}
IsPlain (Gave (Truth b)) = Unit {0}
IsPlain (Gave (KeyValue k)) = ⊥
IsPlain (Fault n) = Unit {0}
IsPlain Memory = Unit {0}
IsPlain Full = ⊥
