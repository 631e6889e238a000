use Rattle.std.proofs.Common.{◌≡◌, ◌++◌, drop, map as list_map}
use Rattle.ang_tree.specs.View.{view_decl}
use Rattle.ang_names_listed.specs.Declarations.{declared_from}
use Rattle.ang_names_listed.proofs.listing.list_script.Given as goal

abbrev pub invariant-loop-place : goal.invariant-loop-place
invariant-loop-place l =
    l.initial.found.items ++ declared_from l.number l.script.source.items 0 (list_map view_decl l.script.declarations.items)
    ≡ l.found.items ++ declared_from l.number l.script.source.items l.place (list_map view_decl (drop l.place l.script.declarations.items))
