use Rattle.ang_names_graph.proofs.Closure.{least}
use Rattle.ang_names_graph.proofs.laws.closure_is_least.Goals as goal

pub returns : goal.returns
returns c = record { least = least }
