-- Declarations as they are written, and the tokens that spell a script. (docs/LANGUAGE.md, "Grammar": `script` to `function`,
-- `params`, `param`.)
use Rattle.std.specs.Prelude.{◌≡◌, List, [], ◌∷◌, Option, Some, None}
use Rattle.ang_lex.specs.declared.token.Token.{Token}
use Rattle.ang_lex.specs.declared.token.TokenKind.TheVariants as k
use Rattle.ang_tree.specs.declared.type_name.TypeName.{TypeName}
use Rattle.ang_tree.specs.declared.declaration.Parameter.{Parameter}
use Rattle.ang_tree.specs.declared.declaration.Reference.{Reference}
use Rattle.ang_tree.specs.declared.declaration.BaseName.{BaseName}
use Rattle.ang_tree.specs.declared.declaration.FieldName.{FieldName}
use Rattle.ang_tree.specs.Kinds.{Is, IsA, IfWritten, IfWrittenA, optional, direction_kind, access_kind, attribute_kind}
use Rattle.ang_tree.specs.TypeNames.{spelled_type, FitsType}
use Rattle.ang_tree.specs.Tree.{Args, spelled_args, FitsArgs}
use Rattle.ang_tree.specs.Stmt.{each, Every, Parted, Filled, Vars, spelled_vars, FitsVars, Body, Stmts, spelled_body, spelled_stmts, FitsBody, FitsStmts}
use Rattle.ang_tree.specs.Depth.{too_deep}

-- ---- parameters

-- "(" [ "void" | param { "," param } ] ")"
pub record Params : Type 0 where
  pub left : Token
  pub void_word : Option Token
  pub items : List Parameter
  pub right : Token

-- [ "&" [ "in" | "out" | "inout" ] ]
abbrev pub spelled_reference : Option Reference → List Token → List Token
spelled_reference None after = after
spelled_reference (Some r) after = r.ampersand ∷ optional r.direction after

-- type [ "&" [ "in" | "out" | "inout" ] ] [ NAME ]
abbrev pub spelled_param : Parameter → List Token → List Token
spelled_param p after = optional p.comma (spelled_type p.declared_type (spelled_reference p.reference (optional p.name after)))

abbrev pub spelled_params : Params → List Token → List Token
spelled_params ps after = ps.left ∷ optional ps.void_word (each spelled_param ps.items (ps.right ∷ after))

abbrev pub FitsReference : Option Reference → Type 0
FitsReference None = Unit {0}
FitsReference (Some r) = Is k.Ampersand r.ampersand × IfWrittenA direction_kind r.direction

abbrev pub FitsParam : Parameter → Type 0
FitsParam p = FitsType p.declared_type × FitsReference p.reference × IfWritten k.Name p.name

-- the parameter is the word `void`, and nothing else
pub record IsBareVoid (p : Parameter) : Type 0 where
  pub constant : p.declared_type.constant ≡ None
  pub word : Is k.Void p.declared_type.name
  pub handle : p.declared_type.handle ≡ None
  pub reference : p.reference ≡ None
  pub name : p.name ≡ None

-- `(void)` is the empty list of parameters, so the word `void` alone is no parameter.
abbrev pub FitsItems : Option Token → List Parameter → Type 0
FitsItems (Some word) items = Is k.Void word × (items ≡ [])
FitsItems None items = Parted (λ (p : Parameter). p.comma) items × Every FitsParam items × ((p : Parameter) → items ≡ p ∷ [] → IsBareVoid p → ⊥)

pub record FitsParams (ps : Params) : Type 0 where
  pub left : Is k.LeftParen ps.left
  pub items : FitsItems ps.void_word ps.items
  pub right : Is k.RightParen ps.right

-- ---- classes and interfaces

-- "super" args ";"
pub record SuperTree : Type 0 where
  pub word : Token
  pub arguments : Args
  pub semicolon : Token

abbrev pub spelled_super : Option SuperTree → List Token → List Token
spelled_super None after = after
spelled_super (Some s) after = s.word ∷ spelled_args s.arguments (s.semicolon ∷ after)

abbrev pub FitsSuper : Option SuperTree → Type 0
FitsSuper None = Unit {0}
FitsSuper (Some s) = Is k.Super s.word × FitsArgs s.arguments × Is k.Semicolon s.semicolon

pub data MemberTree : Type 0 where
  -- access type NAME { "," NAME } ";"
  fields : Option Token → TypeName → List FieldName → Token → MemberTree
  -- access type NAME params [ "const" ] { "final" | "override" } block
  method : Option Token → TypeName → Token → Params → Option Token → List Token → Body → MemberTree
  -- NAME params "{" [ "super" args ";" ] { stmt } "}"
  constructor : Token → Params → Token → Option SuperTree → Stmts → Token → MemberTree

abbrev pub spelled_field : FieldName → List Token → List Token
spelled_field f after = optional f.comma (f.name ∷ after)

abbrev pub spelled_word : Token → List Token → List Token
spelled_word t after = t ∷ after

abbrev pub spelled_member : MemberTree → List Token → List Token
spelled_member (fields access y names semicolon) after = optional access (spelled_type y (each spelled_field names (semicolon ∷ after)))
spelled_member (method access y x ps constant attributes b) after = optional access (spelled_type y (x ∷ spelled_params ps (optional constant (each spelled_word attributes (spelled_body b after)))))
spelled_member (constructor x ps left s ss right) after = x ∷ spelled_params ps (left ∷ spelled_super s (spelled_stmts ss (right ∷ after)))

abbrev pub FitsMember : MemberTree → Type 0
FitsMember (fields access y names semicolon) = IfWrittenA access_kind access × FitsType y × Filled names × Parted (λ (f : FieldName). f.comma) names × Every (λ (f : FieldName). Is k.Name f.name) names × Is k.Semicolon semicolon
FitsMember (method access y x ps constant attributes b) = IfWrittenA access_kind access × FitsType y × Is k.Name x × FitsParams ps × IfWritten k.Const constant × Every (IsA attribute_kind) attributes × FitsBody b
FitsMember (constructor x ps left s ss right) = Is k.Name x × FitsParams ps × Is k.LeftBrace left × FitsSuper s × FitsStmts ss × Is k.RightBrace right

-- type NAME params [ "const" ] ";"
pub record MethodTree : Type 0 where
  pub result_type : TypeName
  pub name : Token
  pub parameters : Params
  pub constant : Option Token
  pub semicolon : Token

abbrev pub spelled_method : MethodTree → List Token → List Token
spelled_method m after = spelled_type m.result_type (m.name ∷ spelled_params m.parameters (optional m.constant (m.semicolon ∷ after)))

pub record FitsMethod (m : MethodTree) : Type 0 where
  pub result_type : FitsType m.result_type
  pub name : Is k.Name m.name
  pub parameters : FitsParams m.parameters
  pub constant : IfWritten k.Const m.constant
  pub semicolon : Is k.Semicolon m.semicolon

abbrev pub spelled_base : BaseName → List Token → List Token
spelled_base b after = b.separator ∷ b.name ∷ after

-- [ ":" NAME { "," NAME } ]
abbrev pub FitsBases : List BaseName → Type 0
FitsBases [] = Unit {0}
FitsBases (b ∷ bs) = Is k.Colon b.separator × Is k.Name b.name × Every (λ (c : BaseName). Is k.Comma c.separator × Is k.Name c.name) bs

-- ---- declarations

pub data Decl : Type 0 where
  -- [ "final" ] "class" NAME [ ":" NAME { "," NAME } ] "{" { member } "}"
  class : Option Token → Token → Token → List BaseName → Token → List MemberTree → Token → Decl
  -- "interface" NAME [ ":" NAME { "," NAME } ] "{" { type NAME params [ "const" ] ";" } "}"
  interface : Token → Token → List BaseName → Token → List MethodTree → Token → Decl
  -- "import" type NAME params "from" TEXT ";"
  import : Token → TypeName → Token → Params → Token → Token → Token → Decl
  -- type NAME params block
  function : TypeName → Token → Params → Body → Decl
  -- vars
  globals : Vars → Decl
  -- ";"
  empty : Token → Decl

-- The tokens of a declaration, and those that follow it.
abbrev pub spelled_decl : Decl → List Token → List Token
spelled_decl (class final word x bases left members right) after = optional final (word ∷ x ∷ each spelled_base bases (left ∷ each spelled_member members (right ∷ after)))
spelled_decl (interface word x bases left methods right) after = word ∷ x ∷ each spelled_base bases (left ∷ each spelled_method methods (right ∷ after))
spelled_decl (import word y x ps from text semicolon) after = word ∷ spelled_type y (x ∷ spelled_params ps (from ∷ text ∷ semicolon ∷ after))
spelled_decl (function y x ps b) after = spelled_type y (x ∷ spelled_params ps (spelled_body b after))
spelled_decl (globals vs) after = spelled_vars vs after
spelled_decl (empty semicolon) after = semicolon ∷ after

abbrev pub FitsDecl : Decl → Type 0
FitsDecl (class final word x bases left members right) = IfWritten k.Final final × Is k.Class word × Is k.Name x × FitsBases bases × Is k.LeftBrace left × Every FitsMember members × Is k.RightBrace right
FitsDecl (interface word x bases left methods right) = Is k.Interface word × Is k.Name x × FitsBases bases × Is k.LeftBrace left × Every FitsMethod methods × Is k.RightBrace right
FitsDecl (import word y x ps from text semicolon) = Is k.Import word × FitsType y × Is k.Name x × FitsParams ps × Is k.From from × Is k.Text text × Is k.Semicolon semicolon
FitsDecl (function y x ps b) = FitsType y × Is k.Name x × FitsParams ps × FitsBody b
FitsDecl (globals vs) = FitsVars vs
FitsDecl (empty semicolon) = Is k.Semicolon semicolon

-- ---- scripts

-- The grammar: the declarations of a script spell these tokens. A list in the state `TooDeep` is spelled by no tree.
pub record SpellsScript (declarations : List Decl) (tokens : List Token) : Type 0 where
  pub fits : Every FitsDecl declarations
  pub text : tokens ≡ each spelled_decl declarations []
  pub shallow : too_deep tokens ≡ None
