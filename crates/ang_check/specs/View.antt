-- The call of a base class's constructor without where it lies in memory.
use Rattle.std.specs.Prelude.{map}
use Rattle.ang_typed.specs.View.{view_arg}
use Rattle.ang_check.specs.declared.constructors.BaseCall.{BaseCall}
use Rattle.ang_check.specs.Typing.{Base}

abbrev pub view_base : BaseCall → Base
view_base b = (b.body, map view_arg b.arguments)
