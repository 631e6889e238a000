-- Primitive types and ways of passing by number, to compare them.
use Rattle.std.specs.Prelude.{ℕ}
use Rattle.ang_kinds.specs.declared.primitive.Primitive.{Primitive}
use Rattle.ang_kinds.specs.declared.primitive.Primitive.TheVariants.{I8, I16, I32, I64, U8, U16, U32, U64, Bool as Truth}
use Rattle.ang_kinds.specs.declared.types.Pass.{Pass}
use Rattle.ang_kinds.specs.declared.types.Pass.TheVariants.{Value, RefIn, RefOut, RefInOut}

-- the primitive types by number, to compare them
abbrev pub primitive_number : Primitive → ℕ
primitive_number I8 = 0
primitive_number I16 = 1
primitive_number I32 = 2
primitive_number I64 = 3
primitive_number U8 = 4
primitive_number U16 = 5
primitive_number U32 = 6
primitive_number U64 = 7
primitive_number Truth = 8

-- the ways of passing by number
abbrev pub pass_number : Pass → ℕ
pass_number Value = 0
pass_number RefIn = 1
pass_number RefOut = 2
pass_number RefInOut = 3
