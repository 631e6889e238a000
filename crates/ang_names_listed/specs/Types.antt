-- What written types mean, and where they can stand (docs/LANGUAGE.md, "Names of a build"; the AngelScript manual, "Data types", "Object
-- handles" and "Parameter references"; what can stand where is this profile's own). Object types and enumerations go by number.
use Rattle.std.specs.Prelude.{ℕ, Bool, true, false, if◌then◌else◌, is_some, List, Option, Some, None, Result, Ok, Err}
use Rattle.std.specs.Option.{option_map_or}
use Rattle.ang_kinds.specs.declared.error.ErrorKind.{ErrorKind}
use Rattle.ang_kinds.specs.declared.error.ErrorKind.TheVariants.{UnknownType, BadType, ByValue, BadImport}
use Rattle.ang_kinds.specs.declared.types.Pass.{Pass}
use Rattle.ang_kinds.specs.declared.types.Pass.TheVariants as pass
use Rattle.ang_lex.specs.declared.token.Token.{Token}
use Rattle.ang_lex.specs.declared.token.TokenKind.{TokenKind}
use Rattle.ang_lex.specs.declared.token.TokenKind.TheVariants as k
use Rattle.ang_tree.specs.declared.type_name.TypeName.{TypeName}
use Rattle.ang_tree.specs.declared.type_name.Handle.{Handle}
use Rattle.ang_tree.specs.declared.declaration.Reference.{Reference}
use Rattle.ang_tree.specs.declared.declaration.Parameter.{Parameter}
use Rattle.ang_types.specs.declared.arg_type.ArgType.{ArgType}
use Rattle.ang_types.specs.declared.arg_type.ArgType.TheVariants as type
use Rattle.ang_names_known.specs.declared.names.Written.{Written}
use Rattle.ang_names_listed.specs.declared.role.TypePosition.{TypePosition}
use Rattle.ang_names_listed.specs.declared.role.TypePosition.TheVariants as role
use Rattle.ang_names_known.specs.declared.space.Named.{Named}
use Rattle.ang_names_known.specs.declared.space.Named.TheVariants as named
use Rattle.ang_names_known.specs.Spaces.{Space, type_of_name, is_family_type}
use Rattle.ang_lex.specs.Text.{text_of}

-- a type, or why what is written is none
abbrev pub TypeOrError : Type 0
TypeOrError = Result ArgType ErrorKind

-- ---- what is written

-- a primitive type, an enumeration and `void` have no handles
abbrev pub without_handle : ArgType → Option Handle → TypeOrError
without_handle t None = Ok t
without_handle t (Some h) = Err BadType

-- `T` and `T@`, const or not, by what T means
abbrev pub object_type : Named → Bool → Option Handle → TypeOrError
object_type named.Unknown constant handle = Err UnknownType
object_type (named.Object n) constant None = Ok (type.Object n constant)
object_type (named.Object n) constant (Some h) = Ok (type.Handle n constant)
object_type (named.Enumeration n) constant handle = without_handle (type.Enumeration n) handle

abbrev pub written_type : Space → List ℕ → TypeName → TokenKind → TypeOrError
written_type E text y (k.Primitive p) = without_handle (type.Plain p) y.handle
written_type E text y k.Void = without_handle type.Void y.handle
written_type E text y _ = object_type (type_of_name E (text_of text y.name)) (is_some y.constant) y.handle

-- ---- where it can stand

-- any type but `void`
abbrev pub no_void : ArgType → TypeOrError
no_void type.Void = Err BadType
no_void t = Ok t

-- no object by value
abbrev pub no_object : ArgType → TypeOrError
no_object (type.Object n c) = Err ByValue
no_object t = Ok t

-- what `&in` takes: no object but a `const` one
abbrev pub taken_in : ArgType → TypeOrError
taken_in (type.Object n c) = if c then Ok (type.Object n c) else Err ByValue
taken_in t = Ok t

-- what `&inout` takes: objects alone
abbrev pub changed : ArgType → TypeOrError
changed (type.Object n c) = Ok (type.Object n c)
changed _ = Err BadType

abbrev pub passed : Pass → ArgType → TypeOrError
passed pass.Value t = no_object t
passed pass.RefIn t = taken_in t
passed pass.RefOut t = no_object t
passed pass.RefInOut t = changed t

-- what passes between modules: a handle to a host type, and a primitive or an enumeration by value
abbrev pub crossing : Bool → ArgType → TypeOrError
crossing by_value type.Void = Ok type.Void
crossing by_value (type.Plain p) = if by_value then Ok (type.Plain p) else Err BadImport
crossing by_value (type.Enumeration n) = if by_value then Ok (type.Enumeration n) else Err BadImport
crossing by_value (type.Handle n c) = if is_family_type n then Err BadImport else Ok (type.Handle n c)
crossing by_value _ = Err BadImport

abbrev pub is_by_value : Pass → Bool
is_by_value pass.Value = true
is_by_value _ = false

-- a cast gives a handle, whether `@` is written or not
abbrev pub cast_to : ArgType → TypeOrError
cast_to (type.Object n c) = Ok (type.Handle n c)
cast_to (type.Handle n c) = Ok (type.Handle n c)
cast_to _ = Err BadType

infixl 10 ◌and_then◌
abbrev pub ◌and_then◌ : TypeOrError → (ArgType → TypeOrError) → TypeOrError
(Ok t) and_then f = f t
(Err e) and_then f = Err e

abbrev pub admitted : TypePosition → ArgType → TypeOrError
admitted role.Result t = no_object t
admitted role.Variable t = no_void t
admitted role.Field t = no_void t and_then no_object
admitted (role.Parameter p) t = no_void t and_then passed p
admitted role.ImportResult t = no_object t and_then crossing true
admitted (role.ImportParameter p) t = no_void t and_then passed p and_then crossing (is_by_value p)
admitted role.Cast t = cast_to t

-- The type that is written where it has this role. `UnknownType` where the name is that of no type, `BadType` of a handle to a
-- primitive type, an enumeration or `void`, of `void` that is no result, and of `&inout` of what is no object; `ByValue` of an object where none
-- can be by value, and `BadImport` of what does not pass between modules.
unfoldable pub type_in : Space → TypePosition → List ℕ → TypeName → TypeOrError
type_in E r text y = written_type E text y y.name.kind and_then admitted r

-- a name that means no type; an entry of the host could help there
abbrev pub is_unknown_type : ErrorKind → Bool
is_unknown_type UnknownType = true
is_unknown_type _ = false

-- ---- parameters

abbrev pub pass_by : TokenKind → Pass
pass_by k.In = pass.RefIn
pass_by k.Out = pass.RefOut
pass_by _ = pass.RefInOut

-- how an argument is passed; `&` alone is `&inout`
abbrev pub pass_of : Option Reference → Pass
pass_of None = pass.Value
pass_of (Some r) = option_map_or (λ (t : Token). pass_by t.kind) r.direction pass.RefInOut

-- ---- a type with its `const`

abbrev pub is_const_handle : Option Handle → Bool
is_const_handle None = false
is_const_handle (Some h) = is_some h.constant

-- the type that is meant; `Void` where there is none, which is not met where no phase refuses
abbrev pub settled : TypeOrError → ArgType
settled (Ok t) = t
settled (Err e) = type.Void

-- a type as it is written, with what it means
abbrev pub written_in : Space → TypePosition → List ℕ → TypeName → Written
written_in E r text y = record { ty = settled (type_in E r text y); constant = is_some y.constant; const_handle = is_const_handle y.handle }
