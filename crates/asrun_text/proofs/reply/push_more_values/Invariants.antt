use Rattle.std.proofs.Common.{◌≡◌, ◌++◌, take, flat_map, codes}
use Rattle.asrun_text.specs.Text.{value_text}
use Rattle.asrun_text.proofs.reply.push_more_values.Given as goal

abbrev pub invariant-loop-value : goal.invariant-loop-value
invariant-loop-value l = l.out.items ≡ l.initial.out.items ++ flat_map ((λ w. codes "," ++ value_text w)) (take l.value-index l.values)
