use Rattle.ang_lower.proofs.Follows.{everywhere, builds_same}
use Rattle.ang_lower.proofs.laws.everywhere_same.Goals as goal

pub returns : goal.returns
returns c = record {
  each = λ z M bodies codes are links g. everywhere z M bodies codes are links g;
  initializers = λ z M bodies codes are links gs t w none. builds_same z M bodies codes are links gs t w none;
}
