use Rattle.std.proofs.Common.{◌≡◌, ◌++◌, drop, Option, None, map as list_map}
use Rattle.ang_meaning.specs.declared.routine.Routine.{Routine}
use Rattle.ang_engine_modules.specs.Trees.{headings_in}
use Rattle.ang_engine_modules.proofs.tables.imports_of.Given as goal

abbrev pub invariant-loop-heading : goal.invariant-loop-heading
invariant-loop-heading l = record {
  params : list_map (λ y. y.params.items) l.imports.items ++ headings_in (drop l.heading-index l.headings) ≡ headings_in l.headings;
  bound : list_map (λ y. y.bound) l.imports.items ++ list_map {B = Option Routine} (λ h. None) (drop l.heading-index l.headings)
      ≡ list_map {B = Option Routine} (λ h. None) l.headings;
}
