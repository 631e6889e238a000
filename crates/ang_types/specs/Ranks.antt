-- Implicit conversions and what they cost (the AngelScript manual, "Conversions", "Object handles" and
-- "Parameter references"; the ranks are this profile's own).
use Rattle.std.specs.Prelude.{ℕ, Bool, true, false, ◌==◌, if◌then◌else◌, max, List, [], Option, Some, None, slice_index_or}
use Rattle.std.specs.List.{list_any}
use Rattle.ang_kinds.specs.declared.primitive.Primitive.{Primitive}
use Rattle.ang_kinds.specs.declared.primitive.Primitive.TheVariants.{I32, Bool as Truth}
use Rattle.ang_kinds.specs.declared.types.Pass.{Pass}
use Rattle.ang_kinds.specs.declared.types.Pass.TheVariants.{RefOut}
use Rattle.ang_types.specs.declared.arg_type.ArgType.{ArgType}
use Rattle.ang_types.specs.declared.arg_type.ArgType.TheVariants.{Void, Null, Plain, Enumeration, Object, Handle}
use Rattle.ang_types.specs.Integers.{primitive_rank}

-- For each object type, by its number, the numbers of the types above it: its base classes and its interfaces.
abbrev pub Ancestors : Type 0
Ancestors = List (List ℕ)

-- the types above one type
abbrev pub types_above : Ancestors → ℕ → List ℕ
types_above ancestors n = slice_index_or ancestors n []

abbrev pub is_above : Ancestors → ℕ → ℕ → Bool
is_above ancestors n m = list_any (λ k. k == m) (types_above ancestors n)

-- From one object type to another: 0 to the same, 4 from a derived class to a base or an interface, and to no other.
abbrev pub class_rank : Ancestors → ℕ → ℕ → Option ℕ
class_rank ancestors from to =
    if from == to then Some 0 else (if is_above ancestors from to then Some 4 else None)

-- `const` may be added, which is 1, and is never lost.
abbrev pub const_rank : Bool → Bool → Option ℕ
const_rank false true = Some 1
const_rank true false = None
const_rank _ _ = Some 0

-- The greatest rank that applies counts; where one part has none the whole has none.
abbrev pub greatest : ℕ → Option ℕ → Option ℕ → Option ℕ
greatest form (Some constness) (Some class) = Some (max form (max constness class))
greatest form _ _ = None

-- From an enumeration's value, which is a number of 32 bits with a sign: 2 to `int`, 3 to any other integer type.
abbrev pub number_rank : Primitive → Option ℕ
number_rank I32 = Some 2
number_rank Truth = None
number_rank _ = Some 3

-- The rank of the implicit conversion from one type to another, or none: 0 the same type; 1 an object to a handle,
-- a handle to an object, `const` added, null to a handle; 2 and 3 between integers, and from an enumeration to an
-- integer; 4 a derived class to a base or an interface. Of several that apply the greatest counts. There is no other implicit conversion.
abbrev pub rank_of : Ancestors → ArgType → ArgType → Option ℕ
rank_of ancestors Void Void = Some 0
rank_of ancestors Null Null = Some 0
rank_of ancestors Null (Handle m s) = Some 1
rank_of ancestors (Plain p) (Plain q) = primitive_rank p q
rank_of ancestors (Enumeration n) (Plain q) = number_rank q
rank_of ancestors (Enumeration n) (Enumeration m) = if n == m then Some 0 else None
rank_of ancestors (Object n r) (Object m s) = greatest 0 (const_rank r s) (class_rank ancestors n m)
rank_of ancestors (Object n r) (Handle m s) = greatest 1 (const_rank r s) (class_rank ancestors n m)
rank_of ancestors (Handle n r) (Object m s) = greatest 1 (const_rank r s) (class_rank ancestors n m)
rank_of ancestors (Handle n r) (Handle m s) = greatest 0 (const_rank r s) (class_rank ancestors n m)
rank_of ancestors from to = None

-- The rank of an argument for a parameter of this type and passing. What goes in converts from the argument to the
-- parameter; what comes out by `&out` converts from the parameter to the variable.
abbrev pub argument_rank : Ancestors → ArgType → Pass → ArgType → Option ℕ
argument_rank ancestors param RefOut argument = rank_of ancestors param argument
argument_rank ancestors param _ argument = rank_of ancestors argument param
