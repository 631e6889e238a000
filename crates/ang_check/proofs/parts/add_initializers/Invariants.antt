use Rattle.std.proofs.Common.{take, map as list_map}
use Rattle.ang_tree.specs.View.{view_var}
use Rattle.ang_check.specs.Judging.{Initializes}
use Rattle.ang_check.proofs.parts.add_initializers.Given as goal

abbrev pub invariant-loop-variable : goal.invariant-loop-variable
invariant-loop-variable l =
    Initializes l.build.view.now l.build.names.now l.initial.left l.left l.initial.found l.found
    l.text l.written.declared_type (list_map view_var (take l.variable-index l.written.items.items))
