use Rattle.std.proofs.Common.{◌≡◌, drop, map as list_map}
use Rattle.ang_tree.specs.View.{view_var}
use Rattle.ang_typed.specs.View.{view_local}
use Rattle.ang_check_stmt.specs.Typing.{Keeps, each_local}
use Rattle.ang_check_stmt.proofs.SoFar.{locals_behind}
use Rattle.ang_check_stmt.proofs.locals.local_variables.Given as goal

abbrev pub invariant-loop-variable : goal.invariant-loop-variable
invariant-loop-variable l = record {
  left : each_local l.frame l.start l.initial.locals l.variables.declared_type l.ty (list_map view_var l.variables.items.items)
      ≡ locals_behind (list_map view_local l.found.items)
      (each_local l.frame l.start l.locals l.variables.declared_type l.ty (list_map view_var (drop l.variable-index l.variables.items.items)));
  kept : Keeps l.initial.locals l.locals;
}
