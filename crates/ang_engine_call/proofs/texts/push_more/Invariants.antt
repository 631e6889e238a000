use Rattle.std.proofs.Common.{◌≡◌, ◌++◌, take, flat_map, codes}
use Rattle.ang_engine_call.specs.Texts.{parameter_text}
use Rattle.ang_engine_call.proofs.texts.push_more.Given as goal

abbrev pub invariant-loop-param : goal.invariant-loop-param
invariant-loop-param l = l.out.items ≡ l.initial.out.items ++ flat_map (λ q. codes ", " ++ parameter_text l.view l.families q) (take l.param-index l.params)
