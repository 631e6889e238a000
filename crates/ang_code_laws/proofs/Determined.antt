-- A run has one end.
use Rattle.std.proofs.Common.{ap}
use Rattle.ang_code.specs.Machine.{Config, At, Over, Outcome, Stuck}
use Rattle.ang_code.proofs.Steps.{one_end}
use Rattle.ang_code_laws.specs.Determined.{HasOneEnd}

-- the end of a configuration that is over
abbrev outcome : Config → Outcome
outcome (At f pc room s fr t w) = Stuck
outcome (Over o) = o

pub has_one_end : HasOneEnd
has_one_end z code m n c o p e h = ap outcome (one_end z code m n c o p e h)
