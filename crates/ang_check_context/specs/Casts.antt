-- Types that are written in a body, and casts (docs/LANGUAGE.md, "Expressions"; the AngelScript manual, "Object handles" and "Inheritance").
use Rattle.std.specs.Prelude.{ℕ, ◌==◌, Bool, ◌||◌, if◌then◌else◌, List, Option, Some, None, Ok, Err}
use Rattle.ang_kinds.specs.declared.error.ErrorKind.TheVariants as kind
use Rattle.ang_kinds.specs.declared.place.Place.{Place}
use Rattle.ang_lex.specs.declared.token.Token.{Token}
use Rattle.ang_tree.specs.declared.type_name.TypeName.{TypeName}
use Rattle.ang_types.specs.declared.arg_type.ArgType.{ArgType}
use Rattle.ang_types.specs.declared.arg_type.ArgType.TheVariants as type
use Rattle.ang_types.specs.declared.asks.Asks.TheVariants as asks
use Rattle.ang_typed.specs.Typed as t
use Rattle.ang_check_context.specs.declared.scope.LocalVariable.{LocalVariable}
use Rattle.ang_names_listed.specs.declared.role.TypePosition.TheVariants as role
use Rattle.ang_names_known.specs.Spaces.{family_of_type}
use Rattle.ang_check_operators.specs.Operands.{Operand, operand, object_of}
use Rattle.ang_check_operators.specs.Refusals.{Typing, fault, refused, use_refused}
use Rattle.ang_check_context.specs.Scope.{BodyContext, space_of, is_there}
use Rattle.ang_lex.specs.Text.{text_of}
use Rattle.ang_names_listed.specs.Types.{TypeOrError, type_in, is_unknown_type}

-- a type that is refused at its name: an unknown name is a use of it
abbrev pub type_or_refusal : BodyContext → List LocalVariable → Token → TypeOrError → Typing ArgType
type_or_refusal s ps x (Ok ty) = Ok ty
type_or_refusal s ps x (Err k) =
    if is_unknown_type k then Err (use_refused k x asks.Type (is_there s ps (text_of s.text x))) else Err (refused k x)

-- the type between the `<` and `>` of a cast
unfoldable pub cast_type : BodyContext → List LocalVariable → TypeName → Typing ArgType
cast_type s ps y = type_or_refusal s ps y.name (type_in (space_of s) role.Cast s.text y)

abbrev pub cast_between : Place → ℕ → Bool → Operand → ℕ → Option ℕ → Option ℕ → Typing Operand
cast_between place n c a m (Some d) (Some own) = Ok (operand place (type.Handle n c) (t.cast d a.tree))
cast_between place n c a m None None =
    if n == m then Ok (operand place (type.Handle n c) (t.naming (record { 0 = n }) a.tree)) else Err (fault kind.BadConversion a.place)
cast_between place n c a m _ _ = Err (fault kind.BadConversion a.place)

abbrev pub cast_from : Place → ℕ → Bool → Operand → Option (ℕ × Bool) → Typing Operand
cast_from place n c a None = Err (fault kind.BadConversion a.place)
cast_from place n c a (Some o) = cast_between place n (c || o.1) a o.0 (family_of_type n) (family_of_type o.0)

abbrev pub cast_by : Place → Operand → Option (ℕ × Bool) → Typing Operand
cast_by place a None = Err (fault kind.BadConversion a.place)
cast_by place a (Some wanted) = cast_from place wanted.0 wanted.1 a (object_of a.ty)

-- Between types of the scripts a cast asks the object; a host type is cast to itself alone. What is `const` stays so.
unfoldable pub cast_typing : Token → ArgType → Operand → Typing Operand
cast_typing word ty a = cast_by word.place a (object_of ty)
