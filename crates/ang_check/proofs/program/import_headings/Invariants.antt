use Rattle.std.proofs.Common.{◌≡◌, ◌++◌, drop, map as list_map}
use Rattle.ang_check.specs.Bodies.{import_heading}
use Rattle.ang_check.proofs.program.import_headings.Given as goal

abbrev pub invariant-loop-import : goal.invariant-loop-import
invariant-loop-import l = list_map import_heading l.imports ≡ l.headings.items ++ list_map import_heading (drop l.import-index l.imports)
