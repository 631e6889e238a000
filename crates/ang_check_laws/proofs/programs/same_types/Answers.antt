use Rattle.ang_check_laws.proofs.SameTypes.{same_types}
use Rattle.ang_check_laws.proofs.programs.same_types.Goals as goal

pub returns : goal.returns
returns c = record { each = same_types }
