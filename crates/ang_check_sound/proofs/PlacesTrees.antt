-- What holds of each token that spells a tree, and of those that follow, holds of those that follow; and a statement and those inside it
-- stand at some of these tokens.
use Rattle.std.specs.Prelude.{List, [], ◌∷◌, Option, Some, None}
use Rattle.std.proofs.Common.{sym, subst}
use Rattle.ang_kinds.specs.declared.position.Position.{Position}
use Rattle.ang_lex.specs.declared.token.Token.{Token}
use Rattle.ang_tree.specs.declared.type_name.TypeName.{TypeName}
use Rattle.ang_tree.specs.declared.type_name.Handle.{Handle}
use Rattle.ang_tree.specs.Kinds.{optional}
use Rattle.ang_tree.specs.TypeNames.{spelled_handle, spelled_type}
use Rattle.ang_tree.specs.Tree.{Tree, Args, Trees, literal, name, call, scoped_call, scoped_name, cast, convert, group, postfix, member, method_call, prefix, binary, conditional, assignment, arguments, none, more, spelled, spelled_args, listed}
use Rattle.ang_tree.specs.Stmt.{Init, absent, value, constructor, Var, Vars, Start, with_variables, with_expression, Stmt, Body, Stmts, block, variables, expression, break, continue, return, when, either, while, do_while, for, body, end, each, Every, spelled_init, spelled_var, spelled_vars, spelled_option, spelled_start, spelled_stmt, spelled_body, spelled_stmts}
use Rattle.ang_tree.specs.Stmt as written
use Rattle.ang_check_stmt.specs.Positions.{token_position, stmt_token, start_token, positions_in, body_positions, positions_of, inner_positions, IsFirst}
use Rattle.ang_check_stmt.proofs.Beginning.{start_first, stmt_first}
use Rattle.ang_check_sound.proofs.Items.{every_joined}

-- Of any tokens:
module _ (Q : Token → Type 0) where
  -- ---- what follows a tree

  pub optional_rest : (t : Option Token) (after : List Token) → Every Q (optional t after) → Every Q after
  optional_rest None after h = h
  optional_rest (Some t) after h = h.1

  -- what follows items, where it does so for each of them
  pub each_rest : {A : Type 0} (spell : A → List Token → List Token) → ((x : A) (ts : List Token) → Every Q (spell x ts) → Every Q ts)
      → (xs : List A) (after : List Token) → Every Q (each spell xs after) → Every Q after
  each_rest spell one [] after h = h
  each_rest spell one (x ∷ xs) after h = each_rest spell one xs after (one x (each spell xs after) h)

  handle_rest : (o : Option Handle) (after : List Token) → Every Q (spelled_handle o after) → Every Q after
  handle_rest None after h = h
  handle_rest (Some a) after h = optional_rest a.constant after h.1

  pub type_rest : (y : TypeName) (after : List Token) → Every Q (spelled_type y after) → Every Q after
  type_rest y after h = handle_rest y.handle after (optional_rest y.constant (y.name ∷ spelled_handle y.handle after) h).1

  mutual
    expr_rest : (e : Tree) (after : List Token) → Every Q (spelled e after) → Every Q after
    expr_rest (literal t) after h = h.1
    expr_rest (name x) after h = h.1
    expr_rest (call x es) after h = args_rest es after h.1
    expr_rest (scoped_call c s x es) after h = args_rest es after h.1.1.1
    expr_rest (scoped_name c s x) after h = h.1.1.1
    expr_rest (cast word less y greater left e right) after h =
        (expr_rest e (right ∷ after) (type_rest y (greater ∷ left ∷ spelled e (right ∷ after)) h.1.1).1.1).1
    expr_rest (convert p left e right) after h = (expr_rest e (right ∷ after) h.1.1).1
    expr_rest (group left e right) after h = (expr_rest e (right ∷ after) h.1).1
    expr_rest (postfix e op) after h = (expr_rest e (op ∷ after) h).1
    expr_rest (member e dot x) after h = (expr_rest e (dot ∷ x ∷ after) h).1.1
    expr_rest (method_call e dot x es) after h = args_rest es after (expr_rest e (dot ∷ x ∷ spelled_args es after) h).1.1
    expr_rest (prefix op e) after h = expr_rest e after h.1
    expr_rest (binary l op r) after h = expr_rest r after (expr_rest l (op ∷ spelled r after) h).1
    expr_rest (conditional c question l colon r) after h =
        expr_rest r after (expr_rest l (colon ∷ spelled r after) (expr_rest c (question ∷ spelled l (colon ∷ spelled r after)) h).1).1
    expr_rest (assignment l op r) after h = expr_rest r after (expr_rest l (op ∷ spelled r after) h).1

    args_rest : (es : Args) (after : List Token) → Every Q (spelled_args es after) → Every Q after
    args_rest (arguments left es right) after h = (list_rest es (right ∷ after) h.1).1

    list_rest : (es : Trees) (after : List Token) → Every Q (listed es after) → Every Q after
    list_rest none after h = h
    list_rest (more comma e es) after h =
        list_rest es after (expr_rest e (listed es after) (optional_rest comma (spelled e (listed es after)) h))

  pub arguments_rest : (es : Args) (after : List Token) → Every Q (spelled_args es after) → Every Q after
  arguments_rest es after h = args_rest es after h

  init_rest : (i : Init) (after : List Token) → Every Q (spelled_init i after) → Every Q after
  init_rest absent after h = h
  init_rest (value equals e) after h = expr_rest e after h.1
  init_rest (constructor es) after h = args_rest es after h

  pub var_rest : (v : Var) (after : List Token) → Every Q (spelled_var v after) → Every Q after
  var_rest v after h = init_rest v.initializer after (optional_rest v.comma (v.name ∷ spelled_init v.initializer after) h).1

  pub vars_rest : (vs : Vars) (after : List Token) → Every Q (spelled_vars vs after) → Every Q after
  vars_rest vs after h =
      (each_rest spelled_var var_rest vs.items (vs.semicolon ∷ after)
      (type_rest vs.declared_type (each spelled_var vs.items (vs.semicolon ∷ after)) h)).1

  option_rest : (e : Option Tree) (after : List Token) → Every Q (spelled_option e after) → Every Q after
  option_rest None after h = h
  option_rest (Some e) after h = expr_rest e after h

  start_rest : (b : Start) (after : List Token) → Every Q (spelled_start b after) → Every Q after
  start_rest (with_variables vs) after h = vars_rest vs after h
  start_rest (with_expression e semicolon) after h = (option_rest e (semicolon ∷ after) h).1

  mutual
    stmt_rest : (s : Stmt) (after : List Token) → Every Q (spelled_stmt s after) → Every Q after
    stmt_rest (block b) after h = body_rest b after h
    stmt_rest (variables vs) after h = vars_rest vs after h
    stmt_rest (expression e semicolon) after h = (option_rest e (semicolon ∷ after) h).1
    stmt_rest (break word semicolon) after h = h.1.1
    stmt_rest (continue word semicolon) after h = h.1.1
    stmt_rest (return word e semicolon) after h = (option_rest e (semicolon ∷ after) h.1).1
    stmt_rest (when word left c right s) after h = stmt_rest s after (expr_rest c (right ∷ spelled_stmt s after) h.1.1).1
    stmt_rest (either word left c right s otherwise u) after h =
        stmt_rest u after
        (stmt_rest s (otherwise ∷ spelled_stmt u after) (expr_rest c (right ∷ spelled_stmt s (otherwise ∷ spelled_stmt u after)) h.1.1).1).1
    stmt_rest (while word left c right s) after h = stmt_rest s after (expr_rest c (right ∷ spelled_stmt s after) h.1.1).1
    stmt_rest (do_while word s again left c right semicolon) after h =
        (expr_rest c (right ∷ semicolon ∷ after) (stmt_rest s (again ∷ left ∷ spelled c (right ∷ semicolon ∷ after)) h.1).1.1).1.1
    stmt_rest (for word left b c semicolon steps right s) after h =
        let last = right ∷ spelled_stmt s after in
        let middle = semicolon ∷ listed steps last in
        stmt_rest s after (list_rest steps last (option_rest c middle (start_rest b (spelled_option c middle) h.1.1)).1).1

    body_rest : (b : Body) (after : List Token) → Every Q (spelled_body b after) → Every Q after
    body_rest (body left ss right) after h = (stmts_rest ss (right ∷ after) h.1).1

    stmts_rest : (ss : Stmts) (after : List Token) → Every Q (spelled_stmts ss after) → Every Q after
    stmts_rest end after h = h
    stmts_rest (written.«then» s ss) after h = stmts_rest ss after (stmt_rest s (spelled_stmts ss after) h)

  pub block_rest : (b : Body) (after : List Token) → Every Q (spelled_body b after) → Every Q after
  block_rest b after h = body_rest b after h

  pub statements_rest : (ss : Stmts) (after : List Token) → Every Q (spelled_stmts ss after) → Every Q after
  statements_rest ss after h = stmts_rest ss after h

  -- ---- where statements stand

  first_is : (x : Token) (ts : List Token) → IsFirst x ts → Every Q ts → Q x
  first_is x [] first h = absurd first
  first_is x (t ∷ ts) first h = subst Q (sym first) h.0

  -- Of places that tokens of these have:
  module _ (R : Position → Type 0) (at : (t : Token) → Q t → R (token_position t)) where
    own : (s : Stmt) (after : List Token) → Every Q (spelled_stmt s after) → R (token_position (stmt_token s))
    own s after h = at (stmt_token s) (first_is (stmt_token s) (spelled_stmt s after) (stmt_first s after) h)

    start_own : (b : Start) (after : List Token) → Every Q (spelled_start b after) → R (token_position (start_token b))
    start_own b after h = at (start_token b) (first_is (start_token b) (spelled_start b after) (start_first b after) h)

    mutual
      stmt_stands : (s : Stmt) (after : List Token) → Every Q (spelled_stmt s after) → Every R (positions_in s)
      stmt_stands (block b) after h = body_stands b after h
      stmt_stands (variables vs) after h = (own (variables vs) after h, tt)
      stmt_stands (expression e semicolon) after h = (own (expression e semicolon) after h, tt)
      stmt_stands (break word semicolon) after h = (at word h.0, tt)
      stmt_stands (continue word semicolon) after h = (at word h.0, tt)
      stmt_stands (return word e semicolon) after h = (at word h.0, tt)
      stmt_stands (when word left c right s) after h = (at word h.0, stmt_stands s after (expr_rest c (right ∷ spelled_stmt s after) h.1.1).1)
      stmt_stands (either word left c right s otherwise u) after h =
          let others = otherwise ∷ spelled_stmt u after in
          let inside = (expr_rest c (right ∷ spelled_stmt s others) h.1.1).1 in (
            at word h.0,
            every_joined R (positions_in s) (positions_in u) (stmt_stands s others inside) (stmt_stands u after (stmt_rest s others inside).1),
          )
      stmt_stands (while word left c right s) after h = (at word h.0, stmt_stands s after (expr_rest c (right ∷ spelled_stmt s after) h.1.1).1)
      stmt_stands (do_while word s again left c right semicolon) after h =
          (at word h.0, stmt_stands s (again ∷ left ∷ spelled c (right ∷ semicolon ∷ after)) h.1)
      stmt_stands (for word left b c semicolon steps right s) after h =
          let last = right ∷ spelled_stmt s after in
          let middle = semicolon ∷ listed steps last in
          let inside = (list_rest steps last (option_rest c middle (start_rest b (spelled_option c middle) h.1.1)).1).1 in
          (at word h.0, (start_own b (spelled_option c middle) h.1.1, stmt_stands s after inside))

      body_stands : (b : Body) (after : List Token) → Every Q (spelled_body b after) → Every R (body_positions b)
      body_stands (body left ss right) after h = (at left h.0, stmts_stand ss (right ∷ after) h.1)

      stmts_stand : (ss : Stmts) (after : List Token) → Every Q (spelled_stmts ss after) → Every R (positions_of ss)
      stmts_stand end after h = tt
      stmts_stand (written.«then» s ss) after h =
          every_joined R (positions_in s) (positions_of ss) (stmt_stands s (spelled_stmts ss after) h) (stmts_stand ss after (stmt_rest s (spelled_stmts ss after) h))

    pub statements_stand : (ss : Stmts) (after : List Token) → Every Q (spelled_stmts ss after) → Every R (positions_of ss)
    statements_stand ss after h = stmts_stand ss after h

    -- those of a body
    pub inner_stand : (b : Body) (after : List Token) → Every Q (spelled_body b after) → Every R (inner_positions b)
    inner_stand (body left ss right) after h = stmts_stand ss (right ∷ after) h.1
