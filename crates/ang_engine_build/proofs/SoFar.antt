-- What a loop has so far, in front of what is left.
use Rattle.std.specs.Prelude.{List, ◌++◌, Result, Ok, Err}
use Rattle.ang_kinds.specs.declared.error.Error.{Error}
use Rattle.ang_names_listed.specs.Sources.{Source}

abbrev pub all_joined : List Source → Result (List Source) Error → Result (List Source) Error
all_joined ss (Err e) = Err e
all_joined ss (Ok others) = Ok (ss ++ others)
