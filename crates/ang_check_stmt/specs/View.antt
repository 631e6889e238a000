-- Resolved statements in boxes without where they lie in memory.
use Rattle.std.specs.declared.boxed.Box.{Box}
use Rattle.std.specs.declared.alloc.Global.{Global}
use Rattle.ang_typed.specs.declared.statement.TypedStatement.{TypedStatement}
use Rattle.ang_typed.specs.Typed as t
use Rattle.ang_typed.specs.View.{view_stmt}

abbrev pub view_boxed : Box TypedStatement Global → t.Stmt
view_boxed b = view_stmt b.value
