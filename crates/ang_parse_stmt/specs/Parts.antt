-- The parts of statements without where they lie in memory.
use Rattle.ang_tree.specs.declared.statement.Guard as guards
use Rattle.ang_tree.specs.declared.statement.Ending as endings
use Rattle.ang_tree.specs.declared.statement.Head as heads
use Rattle.ang_parse_stmt.specs.declared.parts.Guarded as parts
use Rattle.ang_tree.specs.View.{view_expr, view_items, view_option, view_start, view_stmt}
use Rattle.ang_parse_stmt.specs.ReadStmt.{Condition, Ending, Head, Guarded}

abbrev pub view_condition : guards.Guard → Condition
view_condition c = record { left = c.open; value = view_expr c.condition; right = c.close }

abbrev pub view_ending : endings.Ending → Ending
view_ending e = record { word = e.while_word; condition = record { left = e.open; value = view_expr e.condition; right = e.close }; semicolon = e.semicolon }

abbrev pub view_head : heads.Head → Head
view_head h = record { left = h.open; start = view_start h.start; condition = view_option h.condition; semicolon = h.semicolon; steps = view_items h.steps.items; right = h.close }

abbrev pub view_guarded : parts.Guarded → Guarded
view_guarded g = record { condition = view_condition g.head.value; statement = view_stmt g.statement.value }
