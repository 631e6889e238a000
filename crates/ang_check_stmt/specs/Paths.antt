-- Where a path through a function ends (docs/LANGUAGE.md, "Where a path ends"; the AngelScript manual, "Statements"): at `return`, at an `if`
-- whose both branches end, at a block of which some statement ends, at `while (true)` without a `break` of its own.
use Rattle.std.specs.Prelude.{Bool, true, false, not, ◌&&◌, ◌||◌}
use Rattle.ang_lex.specs.declared.token.TokenKind.{TokenKind}
use Rattle.ang_lex.specs.declared.token.TokenKind.TheVariants as k
use Rattle.ang_tree.specs.Tree.{Tree, literal}
use Rattle.ang_tree.specs.Stmt.{Stmt, Body, Stmts, block, break, return, when, either, while, body, end, then}

abbrev pub is_true : TokenKind → Bool
is_true k.True = true
is_true _ = false

-- the word `true` alone
abbrev pub is_true_word : Tree → Bool
is_true_word (literal x) = is_true x.kind
is_true_word _ = false

-- The statement has a `break` that leaves the loop around it. A loop inside takes its own.
abbrev mutual
  pub breaks : Stmt → Bool
  breaks (block b) = body_breaks b
  breaks (break word semicolon) = true
  breaks (when word left c right s) = breaks s
  breaks (either word left c right s otherwise u) = breaks s || breaks u
  breaks _ = false

  pub body_breaks : Body → Bool
  body_breaks (body left ss right) = some_break ss

  pub some_break : Stmts → Bool
  some_break end = false
  some_break (then s ss) = breaks s || some_break ss

-- Each path through the statement ends in it.
abbrev mutual
  pub ends : Stmt → Bool
  ends (block b) = body_ends b
  ends (return word e semicolon) = true
  ends (either word left c right s otherwise u) = ends s && ends u
  ends (while word left c right s) = is_true_word c && not (breaks s)
  ends _ = false

  pub body_ends : Body → Bool
  body_ends (body left ss right) = some_ends ss

  pub some_ends : Stmts → Bool
  some_ends end = false
  some_ends (then s ss) = ends s || some_ends ss
