-- What a call from outside hands to a function and gets from it (docs/HOST.md, "Commands"; the AngelScript manual, "Calling a
-- script function"; that only primitives and enumerations by value pass is this profile's own). An enumeration is a primitive here, with the
-- range of `int`.
use Rattle.std.specs.Prelude.{◌≡◌, Bool, ◌&&◌, ◌||◌, is_some, List, [], ◌∷◌, Option, Some, None, option_map, Vec}
use Rattle.std.specs.List.{list_all}
use Rattle.std.specs.declared.alloc.Global.{Global}
use Rattle.ang_kinds.specs.declared.primitive.Primitive.{Primitive}
use Rattle.ang_kinds.specs.declared.value.Value.{Value}
use Rattle.ang_meaning.specs.declared.slot.Slot.{Slot}
use Rattle.ang_meaning.specs.declared.host.HostValueType.TheVariants.{Plain as PlainType}
use Rattle.ang_meaning.specs.Hosts.{slot_of, value_of}
use Rattle.ang_types.specs.ArgTypes.{is_void, primitive_of}
use Rattle.ang_names_known.specs.declared.names.ScriptFunction.{ScriptFunction}
use Rattle.ang_names_known.specs.declared.names.ScriptParameter.{ScriptParameter}
use Rattle.ang_names_listed.specs.Types.{is_by_value}

-- a primitive by value
abbrev pub is_plain_parameter : ScriptParameter → Bool
is_plain_parameter p = is_by_value p.pass && is_some (primitive_of p.written.ty)

-- Whether it can be called from outside: each parameter is a primitive by value, and the result is a primitive or `void`.
unfoldable pub is_callable : ScriptFunction → Bool
is_callable f = list_all is_plain_parameter f.params && (is_void f.result.ty || is_some (primitive_of f.result.ty))

-- ---- values, which are those of no driver: for a primitive type a driver's number plays no part

abbrev pub plain_slot : Option Primitive → Value → Option Slot
plain_slot None v = None
plain_slot (Some p) v = slot_of 0 (PlainType p) v

-- the slot of a value for a parameter, if the value is of its type and in its range
abbrev pub argument_of : ScriptParameter → Value → Option Slot
argument_of p v = plain_slot (primitive_of p.written.ty) v

abbrev pub in_front : Option Slot → Option (List Slot) → Option (List Slot)
in_front (Some x) (Some xs) = Some (x ∷ xs)
in_front _ _ = None

abbrev pub arguments_for : List ScriptParameter → List Value → Option (List Slot)
arguments_for [] [] = Some []
arguments_for (p ∷ ps) (v ∷ vs) = in_front (argument_of p v) (arguments_for ps vs)
arguments_for _ _ = None

-- the arguments of a call with these values, in order: a value for each parameter, each of its type and in its range
unfoldable pub arguments_of : ScriptFunction → List Value → Option (List Slot)
arguments_of f vs = arguments_for f.params vs

-- the slots that are found for a call: these, or none where the values don't fit
abbrev pub AreArguments : Option (Vec Slot Global) → Option (List Slot) → Type 0
AreArguments None found = found ≡ None
AreArguments (Some slots) found = found ≡ Some slots.items

-- the value of a function's result, where its type is a primitive one
unfoldable pub result_of : ScriptFunction → Slot → Option Value
result_of f x = option_map (λ p. value_of 0 (PlainType p) x) (primitive_of f.result.ty)
