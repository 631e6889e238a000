-- The primitive types: how many bits a value has, and which are signed.
use Rattle.std.specs.Prelude.{ℕ, Bool, true, false}
use Rattle.ang_kinds.specs.declared.primitive.Primitive.{Primitive}
use Rattle.ang_kinds.specs.declared.primitive.Primitive.TheVariants.{I8, I16, I32, I64, U8, U16, U32, U64, Bool as Truth}

-- the number of bits of a type
abbrev pub width_of : Primitive → ℕ
width_of I8 = 8
width_of I16 = 16
width_of I32 = 32
width_of I64 = 64
width_of U8 = 8
width_of U16 = 16
width_of U32 = 32
width_of U64 = 64
width_of Truth = 1

abbrev pub is_signed : Primitive → Bool
is_signed I8 = true
is_signed I16 = true
is_signed I32 = true
is_signed I64 = true
is_signed _ = false
