use Rattle.ang_check_laws.proofs.NarrowedBuilds.{builds_typed, seen_typed, unbuilt_typed}
use Rattle.ang_check_laws.proofs.Whole.{program_typed}
use Rattle.ang_check_laws.proofs.narrowed.builds_are_typed.Goals as goal

pub returns : goal.returns
returns c = record { built = builds_typed program_typed; seen = seen_typed program_typed; unbuilt = unbuilt_typed }
