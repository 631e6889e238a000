-- Which declarations hosts can use, and what they declare (docs/HOST.md, "Declarations"; the AngelScript manual,
-- "Registering a function" and "Object handles to the application").
use Rattle.std.specs.Prelude.{ℕ, Bool, false, not, ◌&&◌, ◌||◌, is_some, is_none, if◌then◌else◌, List, [], map, Option, Some, None}
use Rattle.std.specs.List.{list_all}
use Rattle.ang_kinds.specs.declared.types.Param.{Param}
use Rattle.ang_kinds.specs.declared.types.Pass.TheVariants as pass
use Rattle.ang_kinds.specs.declared.types.Shape.{Shape}
use Rattle.ang_kinds.specs.declared.types.Shape.TheVariants as shape
use Rattle.ang_kinds.specs.declared.types.Signature.{Signature}
use Rattle.ang_kinds.specs.declared.types.TypeRef.{TypeRef}
use Rattle.ang_kinds.specs.declared.types.TypeRef.TheVariants as type
use Rattle.ang_lex.specs.declared.token.TokenKind.{TokenKind}
use Rattle.ang_lex.specs.declared.token.TokenKind.TheVariants as k
use Rattle.ang_lex.specs.Text.{text_of, name_of}
use Rattle.ang_tree.specs.Kinds.{primitive_kind}
use Rattle.ang_parse_read.specs.Tokens.{is_name}
use Rattle.ang_decl.specs.declared.tree.HostType.{HostType}
use Rattle.ang_decl.specs.declared.tree.HostHandle.{HostHandle}
use Rattle.ang_decl.specs.declared.tree.HostParameter.{HostParameter}
use Rattle.ang_decl.specs.declared.tree.HostFunction.{HostFunction}
use Rattle.ang_decl.specs.declared.tree.HostProperty.{HostProperty}
use Rattle.ang_decl.specs.Grammar.{is_void, is_plain_handle}

-- ---- what is left out

-- `@+`, without `const` after it
abbrev pub is_auto_handle : Option HostHandle → Bool
is_auto_handle None = false
is_auto_handle (Some h) = is_some h.plus && is_none h.constant

-- the word of a primitive type, or a name, which may be an enumeration's
abbrev pub is_value_kind : TokenKind → Bool
is_value_kind kind = primitive_kind kind || is_name kind

-- A parameter's type is a primitive type, a bare name, `T@+` or `const T@+`. Whether an enumeration has the name is the
-- registry's to say.
abbrev pub is_parameter_type : HostType → Bool
is_parameter_type y =
    (is_value_kind y.name.kind && is_none y.constant && is_none y.handle) || (is_name y.name.kind && is_auto_handle y.handle)

-- A result's type may be `void` too.
abbrev pub is_result_type : HostType → Bool
is_result_type y = (is_void y.name.kind && is_none y.constant && is_none y.handle) || is_parameter_type y

-- A property's type is a primitive type or a bare name, which may be `const`.
abbrev pub is_property_type : HostType → Bool
is_property_type y = is_value_kind y.name.kind && is_none y.handle

-- A parameter is passed by value.
abbrev pub is_parameter : HostParameter → Bool
is_parameter p = is_none p.reference && is_parameter_type p.declared_type

abbrev pub are_parameters : HostFunction → Bool
are_parameters f = list_all is_parameter f.parameters.items

-- a function or a method
abbrev pub is_function_left_out : HostFunction → Bool
is_function_left_out f = not (is_result_type f.result && are_parameters f)

-- A factory's result is `T@` by its form.
abbrev pub is_factory_left_out : HostFunction → Bool
is_factory_left_out f = not (are_parameters f)

abbrev pub is_property_left_out : HostProperty → Bool
is_property_left_out p = not (is_property_type p.declared_type)

-- A type that stands alone is left out where no declaration can have it.
abbrev pub is_type_left_out : HostType → Bool
is_type_left_out y = not (is_result_type y || is_property_type y || is_plain_handle y)

-- ---- what is declared

-- `T`, `T@` or `T@+`
abbrev pub shape_of : Option HostHandle → Shape
shape_of None = shape.ByValue
shape_of (Some h) = if is_some h.plus then shape.AutoHandle else shape.Handle

-- `T@ const`
abbrev pub is_const_handle : Option HostHandle → Bool
is_const_handle None = false
is_const_handle (Some h) = is_some h.constant

abbrev pub object_of : List ℕ → HostType → TypeRef
object_of text y = type.Object (text_of text y.name) (shape_of y.handle) (is_some y.constant) (is_const_handle y.handle)

abbrev pub type_by : List ℕ → HostType → TokenKind → TypeRef
type_by text y (k.Primitive p) = type.Plain p
type_by text y k.Void = type.Void
type_by text y _ = object_of text y

-- The type that is written. `int32` is `int`, and `uint32` is `uint`. A bare name is an object by value, whatever has the name.
abbrev pub type_of : List ℕ → HostType → TypeRef
type_of text y = type_by text y y.name.kind

-- A parameter that is not left out is passed by value.
abbrev pub param_of : List ℕ → HostParameter → Param
param_of text p = record { ty = type_of text p.declared_type; pass = pass.Value; read_only = false; name = name_of text p.name }

-- A function's, a method's or a factory's. A `const` method is read only.
abbrev pub function_signature : List ℕ → HostFunction → Signature
function_signature text f = record {
  name = text_of text f.name;
  result = type_of text f.result;
  params = map (param_of text) f.parameters.items;
  read_only = is_some f.constant;
}

-- A primitive type or a bare name has its `const` in front of it: what is of that type is read only.
abbrev pub is_const_value : HostType → Bool
is_const_value y = is_value_kind y.name.kind && is_none y.handle && is_some y.constant

-- A property has its type as the result.
abbrev pub property_signature : List ℕ → HostProperty → Signature
property_signature text p = record {
  name = text_of text p.name;
  result = type_of text p.declared_type;
  params = [];
  read_only = is_const_value p.declared_type;
}

-- A type that stands alone declares what a property of that type would, without a name.
abbrev pub type_signature : List ℕ → HostType → Signature
type_signature text y = record { name = []; result = type_of text y; params = []; read_only = is_const_value y }
