-- Something is spelled: how many tokens follow it.
use Rattle.std.proofs.Common.{◌<◌, ◌≤◌, List, ◌∷◌, length, arith}
use Rattle.ang_lex.specs.declared.token.Token.{Token}
use Rattle.ang_tree.specs.Tree.{spelled, listed}
use Rattle.ang_tree.specs.Stmt.{spelled_option, Stmt, Body, Stmts, block, variables, expression, break, continue, return, when, either, while, do_while, for, body, end, then, spelled_stmt, spelled_body, spelled_stmts}
use Rattle.ang_parse_expr.proofs.Sound.{spelled-length, listed-length}
use Rattle.ang_parse_stmt.proofs.VariableLengths.{option-length, vars-length, start-length}

mutual
  pub stmt-length : (x : Stmt) (s : List Token) → length s < length (spelled_stmt x s)
  stmt-length (block b) s = body-length b s
  stmt-length (variables vs) s = vars-length vs s
  stmt-length (expression e semicolon) s = omega (arith, option-length e (semicolon ∷ s))
  stmt-length (break word semicolon) s = omega arith
  stmt-length (continue word semicolon) s = omega arith
  stmt-length (return word e semicolon) s = omega (arith, option-length e (semicolon ∷ s))
  stmt-length (when word left c right x) s = omega (arith, spelled-length c (right ∷ spelled_stmt x s), stmt-length x s)
  stmt-length (either word left c right x otherwise y) s = omega (arith, spelled-length c (right ∷ spelled_stmt x (otherwise ∷ spelled_stmt y s)), stmt-length x (otherwise ∷ spelled_stmt y s), stmt-length y s)
  stmt-length (while word left c right x) s = omega (arith, spelled-length c (right ∷ spelled_stmt x s), stmt-length x s)
  stmt-length (do_while word x again left c right semicolon) s = omega (arith, stmt-length x (again ∷ left ∷ spelled c (right ∷ semicolon ∷ s)), spelled-length c (right ∷ semicolon ∷ s))
  stmt-length (for word left b c semicolon steps right x) s = omega (arith, start-length b (spelled_option c (semicolon ∷ listed steps (right ∷ spelled_stmt x s))), option-length c (semicolon ∷ listed steps (right ∷ spelled_stmt x s)), listed-length steps (right ∷ spelled_stmt x s), stmt-length x s)

  pub body-length : (b : Body) (s : List Token) → length s < length (spelled_body b s)
  body-length (body left ss right) s = omega (arith, stmts-length ss (right ∷ s))

  pub stmts-length : (ss : Stmts) (s : List Token) → length s ≤ length (spelled_stmts ss s)
  stmts-length end s = omega arith
  stmts-length (then x ss) s = omega (arith, stmt-length x (spelled_stmts ss s), stmts-length ss s)
