-- What a type is: `void`, or one whose values are numbers (docs/LANGUAGE.md, "Values of operators").
use Rattle.std.specs.Prelude.{Bool, true, false, Option, Some, None}
use Rattle.ang_kinds.specs.declared.primitive.Primitive.{Primitive}
use Rattle.ang_kinds.specs.declared.primitive.Primitive.TheVariants.{I32}
use Rattle.ang_types.specs.declared.arg_type.ArgType.{ArgType}
use Rattle.ang_types.specs.declared.arg_type.ArgType.TheVariants.{Void, Plain, Enumeration}

abbrev pub is_void : ArgType → Bool
is_void Void = true
is_void _ = false

-- the primitive type that it is, if it is one; a value of an enumeration is an `int`
abbrev pub primitive_of : ArgType → Option Primitive
primitive_of (Plain p) = Some p
primitive_of (Enumeration n) = Some I32
primitive_of _ = None
