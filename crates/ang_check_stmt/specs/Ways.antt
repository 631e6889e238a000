-- How a path through statements can leave them (the AngelScript manual, "Statements"). Each test may come out either way, but that the
-- word `true` alone and a test that is not written never come out false.
use Rattle.std.specs.Prelude.{◌≡◌, ◌≢◌, ◌⊎◌, false, Option, Some, None}
use Rattle.ang_tree.specs.Tree.{Tree}
use Rattle.ang_tree.specs.Stmt.{Stmt, Body, Stmts, block, variables, expression, break, continue, return, when, either, while, do_while, for, body, end, then}
use Rattle.ang_check_stmt.specs.Paths.{is_true_word}

-- to what stands after it, to what stands after the loop around, to the next pass of that loop, or out of the function
pub data Exit : Type 0 where
  ahead : Exit
  out : Exit
  around : Exit
  home : Exit

abbrev pub CanFail : Tree → Type 0
CanFail c = is_true_word c ≡ false

abbrev pub CanFailWhereWritten : Option Tree → Type 0
CanFailWhereWritten None = ⊥
CanFailWhereWritten (Some c) = CanFail c

-- Some path through the statement leaves it this way. A loop is left ahead where a test fails, which a pass has come to, or by its own
-- `break`.
abbrev mutual
  pub Leaves : Exit → Stmt → Type 0
  Leaves w (block b) = LeavesBody w b
  Leaves w (variables vs) = w ≡ ahead
  Leaves w (expression e semicolon) = w ≡ ahead
  Leaves w (break word semicolon) = w ≡ out
  Leaves w (continue word semicolon) = w ≡ around
  Leaves w (return word e semicolon) = w ≡ home
  Leaves w (when word left c right s) = ((w ≡ ahead) × CanFail c) ⊎ Leaves w s
  Leaves w (either word left c right s otherwise u) = Leaves w s ⊎ (CanFail c × Leaves w u)
  Leaves w (while word left c right s) = ((w ≡ ahead) × (CanFail c ⊎ Leaves out s)) ⊎ ((w ≡ home) × Leaves home s)
  Leaves w (do_while word s again left c right semicolon) =
      ((w ≡ ahead) × ((CanFail c × (Leaves ahead s ⊎ Leaves around s)) ⊎ Leaves out s)) ⊎ ((w ≡ home) × Leaves home s)
  Leaves w (for word left start c semicolon steps right s) = ((w ≡ ahead) × (CanFailWhereWritten c ⊎ Leaves out s)) ⊎ ((w ≡ home) × Leaves home s)

  pub LeavesBody : Exit → Body → Type 0
  LeavesBody w (body left ss right) = LeavesAll w ss

  -- one statement after the other
  pub LeavesAll : Exit → Stmts → Type 0
  LeavesAll w end = w ≡ ahead
  LeavesAll w (then s ss) = (Leaves ahead s × LeavesAll w ss) ⊎ ((w ≢ ahead) × Leaves w s)
