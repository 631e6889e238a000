use Rattle.ang_check_contest.proofs.Adding.{types_of_added, types_of_seen_with}
use Rattle.ang_check_contest.proofs.laws.types_stay.Goals as goal

pub returns : goal.returns
returns c = record {
  seen = λ R m x y s f name h. (types_of_seen_with R m x y s f name h).0;
  seen_enumeration = λ R m x y s f name h. (types_of_seen_with R m x y s f name h).1;
  own = λ R m x y at f name h. (types_of_added R m x y at f name h).0;
  own_enumeration = λ R m x y at f name h. (types_of_added R m x y at f name h).1;
}
