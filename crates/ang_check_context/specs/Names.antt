-- Bare names, values of enumerations, and `this` (docs/LANGUAGE.md, "Expressions"; the AngelScript manual, "Variables", "Enums" and "Script
-- classes").
use Rattle.std.specs.Prelude.{ℕ, Bool, true, ◌||◌, List, option_map, option_and_then, Option, Some, None, Ok, Err, slice_get, ℤ}
use Rattle.std.specs.Int.{w64, cast_unsigned}
use Rattle.ang_kinds.specs.declared.error.ErrorKind.TheVariants as kind
use Rattle.ang_kinds.specs.declared.place.Place.{Place}
use Rattle.ang_kinds.specs.declared.primitive.Primitive.TheVariants as p
use Rattle.ang_lex.specs.declared.token.Token.{Token}
use Rattle.ang_types.specs.declared.arg_type.ArgType.{ArgType}
use Rattle.ang_types.specs.declared.arg_type.ArgType.TheVariants as type
use Rattle.ang_types.specs.declared.asks.Asks.TheVariants as asks
use Rattle.ang_typed.specs.declared.expression.TypedVariable.{TypedVariable}
use Rattle.ang_typed.specs.declared.expression.TypedVariable.TheVariants as variable
use Rattle.ang_typed.specs.Typed as t
use Rattle.ang_names_known.specs.declared.names.FoundField.{FoundField}
use Rattle.ang_check_context.specs.declared.scope.LocalVariable.{LocalVariable}
use Rattle.ang_check_context.specs.declared.scope.Within.{Within}
use Rattle.ang_check_uses.specs.declared.uses.EnumerationValue.{EnumerationValue}
use Rattle.ang_check_uses.specs.declared.uses.Resolution.{Resolution}
use Rattle.ang_check_uses.specs.declared.uses.Resolution.TheVariants as resolution
use Rattle.ang_names_known.specs.Lookup.{is_read_only, field_named}
use Rattle.ang_names_known.specs.Spaces.{family_type}
use Rattle.ang_check_operators.specs.Operands.{Operand, operand, reading}
use Rattle.ang_check_operators.specs.Refusals.{Typing, refused, use_refused}
use Rattle.ang_check_context.specs.Access.{if_reached}
use Rattle.ang_check_context.specs.Scope.{BodyContext, scope_of, last_named, is_there}
use Rattle.ang_check_uses.specs.Uses.{resolution_of, value_of, why}
use Rattle.ang_lex.specs.Text.{text_of}

-- ---- `this`

abbrev pub own_type : Within → ArgType
own_type w = type.Object (family_type w.family) w.read_only

-- `this`, which is local 0
abbrev pub this_operand : Place → Within → Operand
this_operand place w = operand place (own_type w) (t.read (t.named (variable.Local 0)) (own_type w))

abbrev pub this_in : Token → Option Within → Typing Operand
this_in x None = Err (refused kind.UnknownName x)
this_in x (Some w) = Ok (this_operand x.place w)

-- `this`, in a method or a constructor
unfoldable pub this_typing : BodyContext → Token → Typing Operand
this_typing s x = this_in x s.within

-- ---- values of enumerations

-- The 64 bits in which an `int` is kept: two's complement.
abbrev pub int_bits : ℤ → ℕ
int_bits z = cast_unsigned w64 z

-- a value of an enumeration: a number, in which its entry is named
abbrev pub value_operand : Place → EnumerationValue → Operand
value_operand place v = operand place (type.Enumeration v.enumeration) (t.naming v.entity (t.number p.I32 (int_bits v.number)))

abbrev pub value_or_unknown : Token → Token → Option EnumerationValue → Typing Operand
value_or_unknown e x None = Err (refused kind.UnknownName x)
value_or_unknown e x (Some v) = Ok (value_operand e.place v)

abbrev pub scoped_name_use : BodyContext → Token → Token → Bool → Resolution → Typing Operand
scoped_name_use s e x there (resolution.Enumeration n) = value_or_unknown e x (value_of s.view n (text_of s.text x))
scoped_name_use s e x there r = Err (use_refused (why r) e asks.Enumeration there)

-- `E::V`: a value by the names of its enumeration and of itself. A local or member of the enumeration's name plays no part.
unfoldable pub scoped_name_typing : BodyContext → List LocalVariable → Token → Token → Typing Operand
scoped_name_typing s ps e x =
    let name = text_of s.text e in scoped_name_use s e x (is_there s ps name) (resolution_of (scope_of s) name asks.Enumeration)

-- ---- a bare name

abbrev pub variable_at : Token → TypedVariable → ArgType → Bool → Operand
variable_at x v ty read_only = reading x.place (t.named v) ty (record { read_only = read_only; bare = true; name = x })

abbrev pub value_use : BodyContext → Token → Bool → Resolution → Typing Operand
value_use s x there (resolution.Variable v ty read_only) = Ok (variable_at x v ty read_only)
value_use s x there (resolution.Value v) = Ok (value_operand x.place v)
value_use s x there r = Err (use_refused (why r) x asks.Value there)

-- the field of this name that `this` has, with the body's class
abbrev pub field_within : BodyContext → Option Within → List ℕ → Option (Within × FoundField)
field_within s None name = None
field_within s (Some w) name = option_map (λ f. (w, f)) (field_named s.names.families w.family name)

abbrev pub field_or_global : BodyContext → Token → Bool → Option (Within × FoundField) → Typing Operand
field_or_global s x there None = value_use s x there (resolution_of (scope_of s) (text_of s.text x) asks.Value)
field_or_global s x there (Some f) =
    if_reached s x f.1.owner f.1.access (Ok (variable_at x (variable.Field f.1.number) f.1.written.ty (is_read_only f.1.written || f.0.read_only)))

abbrev pub local_at : Token → ℕ → LocalVariable → Operand
local_at x n p = variable_at x (variable.Local n) p.ty p.read_only

-- the innermost local or parameter of this name
abbrev pub local_named : Token → List ℕ → List LocalVariable → Option Operand
local_named x name ps = option_and_then (λ n. option_map (local_at x n) (slice_get ps n)) (last_named name 0 ps)

abbrev pub local_or : Option Operand → Typing Operand → Typing Operand
local_or None otherwise = otherwise
local_or (Some a) otherwise = Ok a

-- A bare name: the innermost local or parameter, else a field of the class, else a global or a value of an enumeration. A method of the name is
-- none of these.
unfoldable pub name_typing : BodyContext → List LocalVariable → Token → Typing Operand
name_typing s ps x =
    let name = text_of s.text x in
    local_or (local_named x name ps) (field_or_global s x (is_there s ps name) (field_within s s.within name))
