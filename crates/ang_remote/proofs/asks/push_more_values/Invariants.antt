use Rattle.std.proofs.Common.{◌≡◌, ◌++◌, take, flat_map, codes}
use Rattle.ang_remote.specs.Asks.{value_text}
use Rattle.ang_remote.proofs.asks.push_more_values.Given as goal

abbrev pub invariant-loop-value : goal.invariant-loop-value
invariant-loop-value l = l.out.items ≡ l.initial.out.items ++ flat_map ((λ w. codes "," ++ value_text w)) (take l.value-index l.values)
