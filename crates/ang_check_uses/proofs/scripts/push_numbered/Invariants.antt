use Rattle.std.proofs.Common.{◌≡◌, ◌++◌, drop}
use Rattle.std.specs.List.{flat_map}
use Rattle.ang_check_uses.specs.CallableKinds.{function_in}
use Rattle.ang_check_uses.specs.Uses.{callable_at}
use Rattle.ang_check_uses.proofs.scripts.push_numbered.Given as goal

abbrev pub invariant-loop-number : goal.invariant-loop-number
invariant-loop-number l =
    l.initial.found ++ flat_map (callable_at (function_in l.declared) l.functions) l.numbers
    ≡ l.found ++ flat_map (callable_at (function_in l.declared) l.functions) (drop l.number-index l.numbers)
