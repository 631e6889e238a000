use Rattle.ang_names_classes.specs.Hierarchy.{is_base}
use Rattle.ang_names_classes.proofs.families.base_of.Goals as goal

pub returns : goal.returns
returns c = record { exact = c.first_of.ensures.exact (is_base c.args.families.now) c.requires.bases }
