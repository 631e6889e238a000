use Rattle.std.proofs.Common.{◌≡◌, ◌++◌, drop}
use Rattle.std.specs.List.{flat_map}
use Rattle.asremote.specs.Posted.{number_for}
use Rattle.asremote.proofs.posted.numbers_for.Given as goal

abbrev pub invariant-loop-function : goal.invariant-loop-function
invariant-loop-function l =
    flat_map (number_for l.driver) l.functions
    ≡ l.numbers.items ++ flat_map (number_for l.driver) (drop l.function-index l.functions)
