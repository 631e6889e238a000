use Rattle.ang_names_graph.proofs.Closure.{falls}
use Rattle.ang_names_graph.proofs.laws.rank_falls.Goals as goal

pub returns : goal.returns
returns c = record { falls = falls }
