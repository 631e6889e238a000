-- What a loop has so far, in front of what is left.
use Rattle.std.specs.Prelude.{List, ◌++◌, Option, Some, None}
use Rattle.ang_kinds.specs.declared.types.Pass.{Pass}
use Rattle.ang_types.specs.declared.arg_type.ArgType.{ArgType}

abbrev pub all_in_front : List (ArgType × Pass) → Option (List (ArgType × Pass)) → Option (List (ArgType × Pass))
all_in_front ps None = None
all_in_front ps (Some others) = Some (ps ++ others)
