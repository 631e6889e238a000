-- Parameters that want an object.
use Rattle.std.specs.Prelude.{Bool, false}
use Rattle.ang_meaning.specs.declared.slot.Slot.{Slot}
use Rattle.ang_meaning.specs.declared.routine.Passing.{Passing}
use Rattle.ang_meaning.specs.declared.routine.Passing.TheVariants.{In, Out, Object}
use Rattle.ang_meaning.specs.Environment.{is_null}

-- a parameter that wants an object has none
abbrev pub misses : Passing → Slot → Bool
misses In v = false
misses Out v = false
misses Object v = is_null v
