use Rattle.std.proofs.Common.{◌≡◌, ◌++◌, drop, map as list_map}
use Rattle.ang_tree.specs.View.{view_var}
use Rattle.ang_names_listed.specs.Declarations.{globals_from}
use Rattle.ang_names_listed.proofs.listing.list_globals.Given as goal

abbrev pub invariant-loop-variable : goal.invariant-loop-variable
invariant-loop-variable l =
    l.initial.found.items ++ globals_from l.script l.text l.declaration l.variables.declared_type 0 (list_map view_var l.variables.items.items)
    ≡ l.found.items ++ globals_from l.script l.text l.declaration l.variables.declared_type l.variable (list_map view_var (drop l.variable l.variables.items.items))
