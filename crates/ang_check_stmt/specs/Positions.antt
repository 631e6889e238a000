-- Where statements stand: at their first tokens (docs/LANGUAGE.md, "Grammar").
use Rattle.std.specs.Prelude.{◌≡◌, List, [], ◌∷◌, ◌++◌, Option, Some, None}
use Rattle.ang_kinds.specs.declared.place.Place.{Place}
use Rattle.ang_kinds.specs.declared.position.Position.{Position}
use Rattle.ang_kinds.specs.Positions.{position_of}
use Rattle.ang_lex.specs.declared.token.Token.{Token}
use Rattle.ang_tree.specs.declared.type_name.TypeName.{TypeName}
use Rattle.ang_tree.specs.Tree.{Tree, literal, name, call, scoped_call, scoped_name, cast, convert, group, postfix, member, method_call, prefix, binary, conditional, assignment}
use Rattle.ang_tree.specs.Stmt.{Start, with_variables, with_expression, Stmt, Body, Stmts, block, variables, expression, break, continue, return, when, either, while, do_while, for, body, end}
use Rattle.ang_tree.specs.Stmt as written

-- the first token of an expression
abbrev pub first_token : Tree → Token
first_token (literal t) = t
first_token (name x) = x
first_token (call x es) = x
first_token (scoped_call c s x es) = c
first_token (scoped_name c s x) = c
first_token (cast word less y greater left e right) = word
first_token (convert p left e right) = p
first_token (group left e right) = left
first_token (postfix e op) = first_token e
first_token (member e dot x) = first_token e
first_token (method_call e dot x es) = first_token e
first_token (prefix op e) = op
first_token (binary l op r) = first_token l
first_token (conditional c question l colon r) = first_token c
first_token (assignment l op r) = first_token l

-- of a type: its `const`, else its name
abbrev pub token_or : Option Token → Token → Token
token_or None x = x
token_or (Some t) x = t

abbrev pub type_token : TypeName → Token
type_token y = token_or y.constant y.name

-- of an expression that need not be there, and a `;`
abbrev pub simple_token : Option Tree → Token → Token
simple_token None semicolon = semicolon
simple_token (Some e) semicolon = first_token e

-- of what a `for` begins with
abbrev pub start_token : Start → Token
start_token (with_variables vs) = type_token vs.declared_type
start_token (with_expression e semicolon) = simple_token e semicolon

-- of a statement
abbrev pub body_token : Body → Token
body_token (body left ss right) = left

abbrev pub stmt_token : Stmt → Token
stmt_token (block b) = body_token b
stmt_token (variables vs) = type_token vs.declared_type
stmt_token (expression e semicolon) = simple_token e semicolon
stmt_token (break word semicolon) = word
stmt_token (continue word semicolon) = word
stmt_token (return word e semicolon) = word
stmt_token (when word left c right s) = word
stmt_token (either word left c right s otherwise u) = word
stmt_token (while word left c right s) = word
stmt_token (do_while word s again left c right semicolon) = word
stmt_token (for word left b c semicolon steps right s) = word

abbrev pub token_position : Token → Position
token_position t = position_of t.place

-- A statement and those inside it, in the order of the text. What a `for` begins with is one of these.
abbrev mutual
  pub positions_in : Stmt → List Position
  positions_in (block b) = body_positions b
  positions_in (variables vs) = token_position (type_token vs.declared_type) ∷ []
  positions_in (expression e semicolon) = token_position (simple_token e semicolon) ∷ []
  positions_in (break word semicolon) = token_position word ∷ []
  positions_in (continue word semicolon) = token_position word ∷ []
  positions_in (return word e semicolon) = token_position word ∷ []
  positions_in (when word left c right s) = token_position word ∷ positions_in s
  positions_in (either word left c right s otherwise u) = token_position word ∷ (positions_in s ++ positions_in u)
  positions_in (while word left c right s) = token_position word ∷ positions_in s
  positions_in (do_while word s again left c right semicolon) = token_position word ∷ positions_in s
  positions_in (for word left b c semicolon steps right s) = token_position word ∷ token_position (start_token b) ∷ positions_in s

  pub body_positions : Body → List Position
  body_positions (body left ss right) = token_position left ∷ positions_of ss

  pub positions_of : Stmts → List Position
  positions_of end = []
  positions_of (written.then s ss) = positions_in s ++ positions_of ss

-- the statements of a body alone
abbrev pub inner_positions : Body → List Position
inner_positions (body left ss right) = positions_of ss

-- a list begins with this
abbrev pub IsFirst : {A : Type 0} → A → List A → Type 0
IsFirst x [] = ⊥
IsFirst x (y ∷ ys) = x ≡ y
