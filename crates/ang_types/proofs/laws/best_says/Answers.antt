use Rattle.ang_types.proofs.BestLaws.{best_of-says}
use Rattle.ang_types.proofs.laws.best_says.Goals as goal

pub returns : goal.returns
returns c = record {
  one = λ l cs args i. (best_of-says l cs args).one i;
  no_viable = λ l cs args. (best_of-says l cs args).no_viable;
  ambiguous = λ l cs args. (best_of-says l cs args).ambiguous;
}
