use Rattle.ang_names.proofs.Ranks.{ancestors, cycles, ranks}
use Rattle.ang_names.proofs.laws.ranks_fall.Goals as goal

pub returns : goal.returns
returns c = record { ancestors = ancestors; cycles = cycles; falls = ranks }
