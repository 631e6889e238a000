-- What stands beside the lists of names, so that no look-up goes through them.
use Rattle.std.specs.Prelude.{ℕ}
use Rattle.ang_index.specs.Rows.{Rows}
use Rattle.ang_names_known.specs.declared.crowded.CrowdedMethods.{CrowdedMethods}
use Rattle.ang_names_known.specs.declared.names.Names.{Names}
use Rattle.ang_names_known.specs.declared.numbering.ParameterKinds.{ParameterKinds}
use Rattle.ang_names_known.specs.Crowded.{AreRight}
use Rattle.ang_names_known.specs.NameIndex.{IndexesFields, IndexesKinds, IndexesMethods}
use Rattle.ang_names_known.specs.Numbering.{AreKinds}

-- three tables have all names that look-ups ask for, lists of methods are right, and each parameter's kind has its number
pub record Indexes (N : Names) (kinds fields methods : Rows ℕ) (crowded : CrowdedMethods) (numbering : ParameterKinds) : Type 0 where
  pub of_kinds : IndexesKinds N kinds
  pub of_fields : IndexesFields N.families fields
  pub of_methods : IndexesMethods N.families methods
  pub of_crowded : AreRight N.families crowded
  pub of_parameters : AreKinds N numbering
