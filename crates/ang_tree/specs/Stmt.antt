-- Statements as they are written, and the tokens that spell them. (docs/LANGUAGE.md, "Grammar": `vars`, `block`, `stmt`.)
use Rattle.std.specs.Prelude.{◌≡◌, Bool, true, false, List, [], ◌∷◌, Option, Some, None}
use Rattle.ang_lex.specs.declared.token.Token.{Token}
use Rattle.ang_lex.specs.declared.token.TokenKind.TheVariants as k
use Rattle.ang_tree.specs.declared.type_name.TypeName.{TypeName}
use Rattle.ang_tree.specs.Kinds.{Is, IsComma, optional}
use Rattle.ang_tree.specs.TypeNames.{spelled_type, FitsType}
use Rattle.ang_tree.specs.Tree.{Tree, Args, Trees, spelled, spelled_args, listed, Fits, FitsArgs, AllFit}

-- ---- lists of items, one after the other

abbrev pub each : {A : Type 0} → (A → List Token → List Token) → List A → List Token → List Token
each spell [] after = after
each spell (x ∷ xs) after = spell x (each spell xs after)

abbrev pub Every : {A : Type 0} → (A → Type 0) → List A → Type 0
Every P [] = Unit {0}
Every P (x ∷ xs) = P x × Every P xs

-- no comma in front of the first item, one in front of each other
abbrev pub Parted : {A : Type 0} → (A → Option Token) → List A → Type 0
Parted comma [] = Unit {0}
Parted comma (x ∷ xs) = (comma x ≡ None) × Every (λ y. IsComma (comma y)) xs

-- there is an item
abbrev pub Filled : {A : Type 0} → List A → Type 0
Filled [] = ⊥
Filled (x ∷ xs) = Unit {0}

-- ---- variables: type NAME [ "=" assign | args ] { "," NAME [ "=" assign | args ] } ";"

pub data Init : Type 0 where
  absent : Init
  value : Token → Tree → Init
  constructor : Args → Init

pub record Var : Type 0 where
  pub comma : Option Token
  pub name : Token
  pub initializer : Init

pub record Vars : Type 0 where
  pub declared_type : TypeName
  pub items : List Var
  pub semicolon : Token

abbrev pub spelled_init : Init → List Token → List Token
spelled_init absent after = after
spelled_init (value equals e) after = equals ∷ spelled e after
spelled_init (constructor es) after = spelled_args es after

abbrev pub spelled_var : Var → List Token → List Token
spelled_var v after = optional v.comma (v.name ∷ spelled_init v.initializer after)

abbrev pub spelled_vars : Vars → List Token → List Token
spelled_vars vs after = spelled_type vs.declared_type (each spelled_var vs.items (vs.semicolon ∷ after))

abbrev pub FitsInit : Init → Type 0
FitsInit absent = Unit {0}
FitsInit (value equals e) = Is k.Assign equals × Fits e
FitsInit (constructor es) = FitsArgs es

abbrev pub FitsVar : Var → Type 0
FitsVar v = Is k.Name v.name × FitsInit v.initializer

pub record FitsVars (vs : Vars) : Type 0 where
  pub of_type : FitsType vs.declared_type
  pub filled : Filled vs.items
  pub parted : Parted (λ (v : Var). v.comma) vs.items
  pub items : Every FitsVar vs.items
  pub semicolon : Is k.Semicolon vs.semicolon

-- ---- statements

-- vars | [ assign ] ";" : what `for (` begins with
pub data Start : Type 0 where
  with_variables : Vars → Start
  with_expression : Option Tree → Token → Start

mutual
  pub data Stmt : Type 0 where
    block : Body → Stmt
    variables : Vars → Stmt
    expression : Option Tree → Token → Stmt
    break : Token → Token → Stmt
    continue : Token → Token → Stmt
    return : Token → Option Tree → Token → Stmt
    when : Token → Token → Tree → Token → Stmt → Stmt
    either : Token → Token → Tree → Token → Stmt → Token → Stmt → Stmt
    while : Token → Token → Tree → Token → Stmt → Stmt
    do_while : Token → Stmt → Token → Token → Tree → Token → Token → Stmt
    for : Token → Token → Start → Option Tree → Token → Trees → Token → Stmt → Stmt

  -- "{" { stmt } "}"
  pub data Body : Type 0 where
    body : Token → Stmts → Token → Body

  pub data Stmts : Type 0 where
    end : Stmts
    then : Stmt → Stmts → Stmts

-- with one more at the end
abbrev pub added_stmt : Stmts → Stmt → Stmts
added_stmt end s = then s end
added_stmt (then r ss) s = then r (added_stmt ss s)

-- [ assign ]
abbrev pub spelled_option : Option Tree → List Token → List Token
spelled_option None after = after
spelled_option (Some e) after = spelled e after

abbrev pub FitsOption : Option Tree → Type 0
FitsOption None = Unit {0}
FitsOption (Some e) = Fits e

abbrev pub spelled_start : Start → List Token → List Token
spelled_start (with_variables vs) after = spelled_vars vs after
spelled_start (with_expression e semicolon) after = spelled_option e (semicolon ∷ after)

abbrev pub FitsStart : Start → Type 0
FitsStart (with_variables vs) = FitsVars vs
FitsStart (with_expression e semicolon) = FitsOption e × Is k.Semicolon semicolon

-- The tokens of a statement, and those that follow it.
abbrev mutual
  pub spelled_stmt : Stmt → List Token → List Token
  spelled_stmt (block b) after = spelled_body b after
  spelled_stmt (variables vs) after = spelled_vars vs after
  spelled_stmt (expression e semicolon) after = spelled_option e (semicolon ∷ after)
  spelled_stmt (break word semicolon) after = word ∷ semicolon ∷ after
  spelled_stmt (continue word semicolon) after = word ∷ semicolon ∷ after
  spelled_stmt (return word e semicolon) after = word ∷ spelled_option e (semicolon ∷ after)
  spelled_stmt (when word left c right s) after = word ∷ left ∷ spelled c (right ∷ spelled_stmt s after)
  spelled_stmt (either word left c right s otherwise u) after = word ∷ left ∷ spelled c (right ∷ spelled_stmt s (otherwise ∷ spelled_stmt u after))
  spelled_stmt (while word left c right s) after = word ∷ left ∷ spelled c (right ∷ spelled_stmt s after)
  spelled_stmt (do_while word s again left c right semicolon) after = word ∷ spelled_stmt s (again ∷ left ∷ spelled c (right ∷ semicolon ∷ after))
  spelled_stmt (for word left start c semicolon steps right s) after = word ∷ left ∷ spelled_start start (spelled_option c (semicolon ∷ listed steps (right ∷ spelled_stmt s after)))

  pub spelled_body : Body → List Token → List Token
  spelled_body (body left ss right) after = left ∷ spelled_stmts ss (right ∷ after)

  pub spelled_stmts : Stmts → List Token → List Token
  spelled_stmts end after = after
  spelled_stmts (then s ss) after = spelled_stmt s (spelled_stmts ss after)

-- The statement ends with an `if` that an `else` after it would join.
abbrev pub open_if : Stmt → Bool
open_if (when word left c right s) = true
open_if (either word left c right s otherwise u) = open_if u
open_if (while word left c right s) = open_if s
open_if (for word left start c semicolon steps right s) = open_if s
open_if _ = false

-- Each token is of its kind, and each part fits. An `else` goes with the nearest `if`: what stands between an `if` and its
-- `else` ends with no `if` that could take it.
abbrev mutual
  pub FitsStmt : Stmt → Type 0
  FitsStmt (block b) = FitsBody b
  FitsStmt (variables vs) = FitsVars vs
  FitsStmt (expression e semicolon) = FitsOption e × Is k.Semicolon semicolon
  FitsStmt (break word semicolon) = Is k.Break word × Is k.Semicolon semicolon
  FitsStmt (continue word semicolon) = Is k.Continue word × Is k.Semicolon semicolon
  FitsStmt (return word e semicolon) = Is k.Return word × FitsOption e × Is k.Semicolon semicolon
  FitsStmt (when word left c right s) = Is k.If word × Is k.LeftParen left × Fits c × Is k.RightParen right × FitsStmt s
  FitsStmt (either word left c right s otherwise u) = Is k.If word × Is k.LeftParen left × Fits c × Is k.RightParen right × FitsStmt s × (open_if s ≡ false) × Is k.Else otherwise × FitsStmt u
  FitsStmt (while word left c right s) = Is k.While word × Is k.LeftParen left × Fits c × Is k.RightParen right × FitsStmt s
  FitsStmt (do_while word s again left c right semicolon) = Is k.Do word × FitsStmt s × Is k.While again × Is k.LeftParen left × Fits c × Is k.RightParen right × Is k.Semicolon semicolon
  FitsStmt (for word left start c semicolon steps right s) = Is k.For word × Is k.LeftParen left × FitsStart start × FitsOption c × Is k.Semicolon semicolon × AllFit steps × Is k.RightParen right × FitsStmt s

  pub FitsBody : Body → Type 0
  FitsBody (body left ss right) = Is k.LeftBrace left × FitsStmts ss × Is k.RightBrace right

  pub FitsStmts : Stmts → Type 0
  FitsStmts end = Unit {0}
  FitsStmts (then s ss) = FitsStmt s × FitsStmts ss

-- The grammar of statements.
pub record SpellsStmt (s : Stmt) (tokens : List Token) : Type 0 where
  pub fits : FitsStmt s
  pub text : tokens ≡ spelled_stmt s []
