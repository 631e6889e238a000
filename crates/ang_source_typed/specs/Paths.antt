-- Where a path through a body ends: at `return`, at an `if` whose both branches end, at a block of which some statement ends, and at `while (true)` without a
-- `break` of its own (docs/LANGUAGE.md, "Where a path ends").
use Rattle.std.specs.Prelude.{Bool, true, false, ◌&&◌, ◌||◌, not}
use Rattle.ang_typed.specs.Typed as t

abbrev pub is_true : t.Expr → Bool
is_true (t.truth b) = b
is_true _ = false

-- whether a `break` in it leaves the loop around it
abbrev mutual
  pub breaks : t.Stmt → Bool
  breaks (t.block ss) = some_breaks ss
  breaks (t.locals ls) = false
  breaks (t.expression e) = false
  breaks t.break = true
  breaks t.continue = false
  breaks (t.return e) = false
  breaks (t.either c ss otherwise) = some_breaks ss || some_breaks otherwise
  breaks (t.while c ss) = false
  breaks (t.do_while ss c) = false
  breaks (t.for start c steps ss) = some_breaks start

  pub some_breaks : t.Stmts → Bool
  some_breaks t.end = false
  some_breaks (t.then s ss) = breaks s || some_breaks ss

-- each path through it ends in it
abbrev mutual
  pub ends : t.Stmt → Bool
  ends (t.block ss) = some_ends ss
  ends (t.locals ls) = false
  ends (t.expression e) = false
  ends t.break = false
  ends t.continue = false
  ends (t.return e) = true
  ends (t.either c ss otherwise) = some_ends ss && some_ends otherwise
  ends (t.while c ss) = is_true c && not (some_breaks ss)
  ends (t.do_while ss c) = false
  ends (t.for start c steps ss) = false

  pub some_ends : t.Stmts → Bool
  some_ends t.end = false
  some_ends (t.then s ss) = ends s || some_ends ss
