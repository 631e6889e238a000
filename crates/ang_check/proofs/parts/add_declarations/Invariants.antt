use Rattle.std.proofs.Common.{take, map as list_map}
use Rattle.ang_tree.specs.View.{view_decl}
use Rattle.ang_check.specs.Judging.{Judges}
use Rattle.ang_check.proofs.parts.add_declarations.Given as goal

abbrev pub invariant-loop-declaration : goal.invariant-loop-declaration
invariant-loop-declaration l =
    Judges l.build.view.now l.build.names.now l.initial.left l.left l.initial.found l.found
    (list_map (λ d. (l.text, d)) (list_map view_decl (take l.declaration-index l.declarations)))
