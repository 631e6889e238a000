-- Statements as they are made, without where they lie in memory.
use Rattle.std.proofs.Common.{◌≡◌, List, [], ◌∷◌, ◌++◌, Option, Some, None, refl, ap, sym, ◌∙◌}
use Rattle.std.specs.Prelude.{option_map}
use Rattle.ang_lex.specs.declared.token.Token.{Token}
use Rattle.std.specs.declared.boxed.Box.{Box}
use Rattle.std.specs.declared.alloc.Global.{Global}
use Rattle.ang_tree.specs.declared.statement.Statement.{Statement, fold-roll-Statement}
use Rattle.ang_tree.specs.declared.statement.Statement.TheVariants.{If, rolls-If, While, rolls-While, DoWhile, rolls-DoWhile, For, rolls-For, Block, rolls-Block}
use Rattle.ang_tree.specs.declared.statement.Statement.TheOpen.{Statement-F}
use Rattle.ang_tree.specs.declared.statement.Else.{Else, roll-Else, fold-roll-Else}
use Rattle.ang_tree.specs.declared.statement.Block as blocks
use Rattle.ang_tree.specs.declared.statement.Guard.{Guard}
use Rattle.ang_tree.specs.declared.statement.Ending.{Ending}
use Rattle.ang_tree.specs.declared.statement.Head.{Head}
use Rattle.ang_tree.specs.Stmt.{Stmt, Body, then, block, added_stmt}
use Rattle.ang_tree.specs.View.{Branch, guarded_of, while_of, do_while_of, for_of, statement_step, block_step, else_step, view_body, view_stmt, view_stmts, view_else}

pub view_stmts_push : (ss : List Statement) (s : Statement) → view_stmts (ss ++ s ∷ []) ≡ added_stmt (view_stmts ss) (view_stmt s)
view_stmts_push [] s = refl
view_stmts_push (r ∷ ss) s = ap (then (view_stmt r)) (view_stmts_push ss s)

pub else_made : (word : Token) (s : Box Statement Global) → view_else (roll-Else record { word = word; branch = s }) ≡ (word, view_stmt s.value)
else_made word s = fold-roll-Else Stmt Body Branch statement_step block_step else_step (record { word = word; branch = s })

pub if_made : (h : Box Guard Global) (s : Box Statement Global) (o : Option (Box Else Global))
    → view_stmt (If h s o) ≡ guarded_of h.value (view_stmt s.value) (option_map (λ e. view_else e.value) o)
if_made h s None = ap view_stmt (sym (rolls-If h s None)) ∙ fold-roll-Statement Stmt Body Branch statement_step block_step else_step (Statement-F.If h s None)
if_made h s (Some e) = ap view_stmt (sym (rolls-If h s (Some e))) ∙ fold-roll-Statement Stmt Body Branch statement_step block_step else_step (Statement-F.If h s (Some e))

pub while_made : (h : Box Guard Global) (s : Box Statement Global) → view_stmt (While h s) ≡ while_of h.value (view_stmt s.value)
while_made h s = ap view_stmt (sym (rolls-While h s)) ∙ fold-roll-Statement Stmt Body Branch statement_step block_step else_step (Statement-F.While h s)

pub do_while_made : (s : Box Statement Global) (e : Box Ending Global) → view_stmt (DoWhile s e) ≡ do_while_of (view_stmt s.value) e.value
do_while_made s e = ap view_stmt (sym (rolls-DoWhile s e)) ∙ fold-roll-Statement Stmt Body Branch statement_step block_step else_step (Statement-F.DoWhile s e)

pub for_made : (h : Box Head Global) (s : Box Statement Global) → view_stmt (For h s) ≡ for_of h.value (view_stmt s.value)
for_made h s = ap view_stmt (sym (rolls-For h s)) ∙ fold-roll-Statement Stmt Body Branch statement_step block_step else_step (Statement-F.For h s)

pub block_made : (b : Box blocks.Block Global) → view_stmt (Block b) ≡ block (view_body b.value)
block_made b = ap view_stmt (sym (rolls-Block b)) ∙ fold-roll-Statement Stmt Body Branch statement_step block_step else_step (Statement-F.Block b)
