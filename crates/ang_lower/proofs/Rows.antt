-- A row of statements in a core tree, and the list of its items.
use Rattle.std.proofs.Common.{◌≡◌, refl, ap, ◌∙◌, map as list_map}
use Rattle.std.specs.declared.vec.Vec.{Vec}
use Rattle.std.specs.declared.alloc.Global.{Global}
use Rattle.ang_core.specs.declared.tree.CoreStatement.{CoreStatement, Row_of-CoreStatement, end_of-CoreStatement, more_of-CoreStatement, items-the_row-CoreStatement, items_hidden-the_row-CoreStatement-0}
use Rattle.ang_core.specs.declared.tree.CoreStatement.TheVariants.{Block}
use Rattle.ang_lower.specs.Tree as stmt
use Rattle.ang_lower.specs.Plain.{plain_stmt, plain_stmts}

stmts_are : {r : _} → (k : Row_of-CoreStatement r) → plain_stmts k ≡ stmt.stmts (list_map plain_stmt (items-the_row-CoreStatement r k))
stmts_are end_of-CoreStatement = refl
stmts_are (more_of-CoreStatement s rest) = ap (stmt.«then» (plain_stmt s)) (stmts_are rest)

pub in_block : (v : Vec CoreStatement Global) → plain_stmt (Block v) ≡ stmt.block (stmt.stmts (list_map plain_stmt v.items))
in_block v =
    let row = Rattle.ang_core.specs.declared.tree.CoreStatement.TheBlock.hidden-the_row-CoreStatement-0 v in
    ap (λ ss. stmt.block ss) (stmts_are row ∙ ap (λ l. stmt.stmts (list_map plain_stmt l)) (items_hidden-the_row-CoreStatement-0 v))
