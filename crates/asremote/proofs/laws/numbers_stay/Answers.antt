use Rattle.asremote.proofs.Numbers.{turns_stay, turns_gone}
use Rattle.asremote.proofs.laws.numbers_stay.Goals as goal

pub returns : goal.returns
returns c = record {
  kept = λ s after turns h number p there. turns_stay number p s after turns h there;
  gone = λ s after turns h p begun gone. (turns_gone p s after turns h (begun, gone)).1;
}
