-- What a loop has so far, in front of what is left.
use Rattle.std.specs.Prelude.{List, ◌++◌, Ok, Err}
use Rattle.ang_check_operators.specs.Refusals.{Typing}

abbrev pub all_behind : {A : Type 0} → List A → Typing (List A) → Typing (List A)
all_behind xs (Err r) = Err r
all_behind xs (Ok ys) = Ok (xs ++ ys)
