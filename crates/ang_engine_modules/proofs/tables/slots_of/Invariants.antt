use Rattle.std.proofs.Common.{◌≡◌, ◌++◌, drop, map as list_map}
use Rattle.ang_engine_modules.specs.Trees.{headings_in}
use Rattle.ang_engine_modules.proofs.tables.slots_of.Given as goal

abbrev pub invariant-loop-heading : goal.invariant-loop-heading
invariant-loop-heading l = list_map (λ y. y.items) l.slots.items ++ headings_in (drop l.heading-index l.headings) ≡ headings_in l.headings
