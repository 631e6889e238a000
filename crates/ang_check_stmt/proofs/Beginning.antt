-- A statement stands at the first of the tokens that spell it.
use Rattle.std.proofs.Common.{◌≡◌, refl, List, ◌∷◌, Option, Some, None}
use Rattle.ang_lex.specs.declared.token.Token.{Token}
use Rattle.ang_tree.specs.declared.type_name.TypeName.{TypeName}
use Rattle.ang_tree.specs.Kinds.{optional}
use Rattle.ang_tree.specs.TypeNames.{spelled_handle, spelled_type}
use Rattle.ang_tree.specs.Tree.{Tree, literal, name, call, scoped_call, scoped_name, cast, convert, group, postfix, member, method_call, prefix, binary, conditional, assignment, spelled, spelled_args}
use Rattle.ang_tree.specs.Stmt.{Start, with_variables, with_expression, Stmt, Body, Stmts, block, variables, expression, break, continue, return, when, either, while, do_while, for, body, each, spelled_var, spelled_option, spelled_start, spelled_stmt}
use Rattle.ang_check_stmt.specs.Positions.{first_token, token_or, type_token, simple_token, start_token, stmt_token, token_position, positions_in, IsFirst}

pub expr_first : (e : Tree) (after : List Token) → IsFirst (first_token e) (spelled e after)
expr_first (literal t) after = refl
expr_first (name x) after = refl
expr_first (call x es) after = refl
expr_first (scoped_call c s x es) after = refl
expr_first (scoped_name c s x) after = refl
expr_first (cast word less y greater left e right) after = refl
expr_first (convert p left e right) after = refl
expr_first (group left e right) after = refl
expr_first (postfix e op) after = expr_first e (op ∷ after)
expr_first (member e dot x) after = expr_first e (dot ∷ x ∷ after)
expr_first (method_call e dot x es) after = expr_first e (dot ∷ x ∷ spelled_args es after)
expr_first (prefix op e) after = refl
expr_first (binary l op r) after = expr_first l (op ∷ spelled r after)
expr_first (conditional c question l colon r) after = expr_first c (question ∷ spelled l (colon ∷ spelled r after))
expr_first (assignment l op r) after = expr_first l (op ∷ spelled r after)

optional_first : (c : Option Token) (x : Token) (after : List Token) → IsFirst (token_or c x) (optional c (x ∷ after))
optional_first None x after = refl
optional_first (Some t) x after = refl

type_first : (y : TypeName) (after : List Token) → IsFirst (type_token y) (spelled_type y after)
type_first y after = optional_first y.constant y.name (spelled_handle y.handle after)

simple_first : (e : Option Tree) (semicolon : Token) (after : List Token) → IsFirst (simple_token e semicolon) (spelled_option e (semicolon ∷ after))
simple_first None semicolon after = refl
simple_first (Some e) semicolon after = expr_first e (semicolon ∷ after)

pub start_first : (b : Start) (after : List Token) → IsFirst (start_token b) (spelled_start b after)
start_first (with_variables vs) after = type_first vs.declared_type (each spelled_var vs.items (vs.semicolon ∷ after))
start_first (with_expression e semicolon) after = simple_first e semicolon after

pub stmt_first : (s : Stmt) (after : List Token) → IsFirst (stmt_token s) (spelled_stmt s after)
stmt_first (block (body left ss right)) after = refl
stmt_first (variables vs) after = type_first vs.declared_type (each spelled_var vs.items (vs.semicolon ∷ after))
stmt_first (expression e semicolon) after = simple_first e semicolon after
stmt_first (break word semicolon) after = refl
stmt_first (continue word semicolon) after = refl
stmt_first (return word e semicolon) after = refl
stmt_first (when word left c right s) after = refl
stmt_first (either word left c right s otherwise u) after = refl
stmt_first (while word left c right s) after = refl
stmt_first (do_while word s again left c right semicolon) after = refl
stmt_first (for word left b c semicolon steps right s) after = refl

pub stmt_at : (s : Stmt) → IsFirst (token_position (stmt_token s)) (positions_in s)
stmt_at (block (body left ss right)) = refl
stmt_at (variables vs) = refl
stmt_at (expression e semicolon) = refl
stmt_at (break word semicolon) = refl
stmt_at (continue word semicolon) = refl
stmt_at (return word e semicolon) = refl
stmt_at (when word left c right s) = refl
stmt_at (either word left c right s otherwise u) = refl
stmt_at (while word left c right s) = refl
stmt_at (do_while word s again left c right semicolon) = refl
stmt_at (for word left b c semicolon steps right s) = refl
