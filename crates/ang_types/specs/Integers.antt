-- The integer types, and the type in which two of them meet (the AngelScript manual, "Primitives" and
-- "Math operators"; raising and the common type are this profile's own).
use Rattle.std.specs.Prelude.{ℕ, Bool, true, false, ◌==◌, nat_lt, if◌then◌else◌, IsTrue, Option, Some, None}
use Rattle.std.proofs.Math.Bool.{beq}
use Rattle.ang_kinds.specs.declared.primitive.Primitive.{Primitive}
use Rattle.ang_kinds.specs.declared.primitive.Primitive.TheVariants.{I8, I16, I32, U8, U16, U32, Bool as Truth}
use Rattle.ang_kinds.specs.Primitives.{is_signed, width_of}

-- Every primitive type but `bool` is an integer type.
abbrev pub is_integer : Primitive → Bool
is_integer Truth = false
is_integer _ = true

abbrev pub IsInteger : Primitive → Type 0
IsInteger p = IsTrue (is_integer p)

-- An integer is raised to at least 32 bits and keeps its signedness.
abbrev pub raised : Primitive → Primitive
raised I8 = I32
raised I16 = I32
raised U8 = U32
raised U16 = U32
raised p = p

-- the wider of two integer types; of two equally wide ones the unsigned, if either is
abbrev pub wider : Primitive → Primitive → Primitive
wider a b =
    if nat_lt (width_of a) (width_of b) then b
    else (if nat_lt (width_of b) (width_of a) then a
    else (if is_signed a then b else a))

-- The common type of two integers: the wider of both, each raised.
abbrev pub common_type : Primitive → Primitive → Primitive
common_type a b = wider (raised a) (raised b)

-- The rank of a conversion between integers: 0 to the same type, 2 to a wider one of equal signedness, 3 to any other.
abbrev pub integer_rank : Primitive → Primitive → ℕ
integer_rank from to =
    if beq (is_signed from) (is_signed to)
    then (if width_of from == width_of to then 0 else (if nat_lt (width_of from) (width_of to) then 2 else 3))
    else 3

-- `bool` stands apart: it converts to itself alone.
abbrev pub primitive_rank : Primitive → Primitive → Option ℕ
primitive_rank from to =
    if is_integer from
    then (if is_integer to then Some (integer_rank from to) else None)
    else (if is_integer to then None else Some 0)
