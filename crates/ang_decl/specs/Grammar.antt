-- Host declarations as they are written, and the tokens that spell them. (docs/HOST.md, "Declarations": types, parameters
-- and names are those of docs/LANGUAGE.md, "Grammar", with `@+` beside `@`; `@+` is two tokens.)
use Rattle.std.specs.Prelude.{◌≡◌, Bool, true, false, ◌&&◌, is_none, List, [], ◌∷◌, Option, Some, None}
use Rattle.ang_lex.specs.declared.token.Token.{Token}
use Rattle.ang_lex.specs.declared.token.TokenKind.{TokenKind}
use Rattle.ang_lex.specs.declared.token.TokenKind.TheVariants as k
use Rattle.ang_tree.specs.Kinds.{Is, IsA, IfWritten, optional, type_kind}
use Rattle.ang_tree.specs.Stmt.{each, Every, Parted}
use Rattle.ang_tree.specs.Declarations.{spelled_reference, FitsReference}
use Rattle.ang_parse_read.specs.Tokens.{is_name}
use Rattle.ang_decl.specs.declared.tree.HostType.{HostType}
use Rattle.ang_decl.specs.declared.tree.HostHandle.{HostHandle}
use Rattle.ang_decl.specs.declared.tree.HostParameter.{HostParameter}
use Rattle.ang_decl.specs.declared.tree.HostParameters.{HostParameters}
use Rattle.ang_decl.specs.declared.tree.HostFunction.{HostFunction}
use Rattle.ang_decl.specs.declared.tree.HostProperty.{HostProperty}

-- ---- types

-- [ "@" [ "+" ] [ "const" ] ]
abbrev pub spelled_handle : Option HostHandle → List Token → List Token
spelled_handle None after = after
spelled_handle (Some h) after = h.at ∷ optional h.plus (optional h.constant after)

-- [ "const" ] ( PRIM | "void" | NAME ) [ "@" [ "+" ] [ "const" ] ]
abbrev pub spelled_type : HostType → List Token → List Token
spelled_type y after = optional y.constant (y.name ∷ spelled_handle y.handle after)

abbrev pub FitsHandle : Option HostHandle → Type 0
FitsHandle None = Unit {0}
FitsHandle (Some h) = Is k.At h.at × IfWritten k.Plus h.plus × IfWritten k.Const h.constant

abbrev pub FitsType : HostType → Type 0
FitsType y = IfWritten k.Const y.constant × IsA type_kind y.name × FitsHandle y.handle

-- ---- parameters

-- type [ "&" [ "in" | "out" | "inout" ] ] [ NAME ]
abbrev pub spelled_param : HostParameter → List Token → List Token
spelled_param p after = optional p.comma (spelled_type p.declared_type (spelled_reference p.reference (optional p.name after)))

-- "(" [ "void" | param { "," param } ] ")"
abbrev pub spelled_params : HostParameters → List Token → List Token
spelled_params ps after = ps.open ∷ optional ps.void_word (each spelled_param ps.items (ps.close ∷ after))

abbrev pub FitsParam : HostParameter → Type 0
FitsParam p = FitsType p.declared_type × FitsReference p.reference × IfWritten k.Name p.name

abbrev pub is_void : TokenKind → Bool
is_void k.Void = true
is_void _ = false

-- the parameter is the word `void`, and nothing else
abbrev pub is_bare_void : HostParameter → Bool
is_bare_void p =
    is_void p.declared_type.name.kind && is_none p.declared_type.constant && is_none p.declared_type.handle && is_none p.reference && is_none p.name

abbrev pub is_void_alone : List HostParameter → Bool
is_void_alone [] = false
is_void_alone (p ∷ []) = is_bare_void p
is_void_alone (p ∷ q ∷ ps) = false

-- `(void)` is the empty list of parameters, so the word `void` alone is no parameter.
abbrev pub FitsItems : Option Token → List HostParameter → Type 0
FitsItems (Some word) items = Is k.Void word × (items ≡ [])
FitsItems None items = Parted (λ (p : HostParameter). p.comma) items × Every FitsParam items × (is_void_alone items ≡ false)

abbrev pub FitsParams : HostParameters → Type 0
FitsParams ps = Is k.LeftParen ps.open × FitsItems ps.void_word ps.items × Is k.RightParen ps.close

-- ---- declarations

-- type NAME params [ "const" ]
abbrev pub spelled_function : HostFunction → List Token → List Token
spelled_function f after = spelled_type f.result (f.name ∷ spelled_params f.parameters (optional f.constant after))

-- type NAME
abbrev pub spelled_property : HostProperty → List Token → List Token
spelled_property p after = spelled_type p.declared_type (p.name ∷ after)

-- A type.
pub record SpellsType (y : HostType) (tokens : List Token) : Type 0 where
  pub fits : FitsType y
  pub text : tokens ≡ spelled_type y []

-- A property: type NAME
pub record SpellsProperty (p : HostProperty) (tokens : List Token) : Type 0 where
  pub declared_type : FitsType p.declared_type
  pub name : Is k.Name p.name
  pub text : tokens ≡ spelled_property p []

-- A method: type NAME params [ "const" ]
pub record SpellsMethod (f : HostFunction) (tokens : List Token) : Type 0 where
  pub result : FitsType f.result
  pub name : Is k.Name f.name
  pub parameters : FitsParams f.parameters
  pub constant : IfWritten k.Const f.constant
  pub text : tokens ≡ spelled_function f []

-- A function: type NAME params
pub record SpellsFunction (f : HostFunction) (tokens : List Token) : Type 0 where
  pub method : SpellsMethod f tokens
  pub no_const : is_none f.constant ≡ true

-- `@`, with neither `+` nor `const` after it
abbrev pub is_bare_handle : Option HostHandle → Bool
is_bare_handle None = false
is_bare_handle (Some h) = is_none h.plus && is_none h.constant

-- the type is `T@`
abbrev pub is_plain_handle : HostType → Bool
is_plain_handle y = is_name y.name.kind && is_none y.constant && is_bare_handle y.handle

-- A factory: T@ NAME params
pub record SpellsFactory (f : HostFunction) (tokens : List Token) : Type 0 where
  pub function : SpellsFunction f tokens
  pub handle : is_plain_handle f.result ≡ true
