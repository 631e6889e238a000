use Rattle.std.specs.List.{flat_map}
use Rattle.std.proofs.Common.{◌≡◌, ◌++◌, drop}
use Rattle.ang_kinds.specs.declared.types.Param.{Param}
use Rattle.ang_check_added.specs.Brought.{unmet_spelled}
use Rattle.ang_check_added.proofs.brought.push_params.Given as goal

abbrev pub invariant-loop-param : goal.invariant-loop-param
invariant-loop-param l =
    l.initial.numbers.items ++ flat_map (λ (p : Param). unmet_spelled l.whole l.mask.0 p.ty) l.params
    ≡ l.numbers.items ++ flat_map (λ (p : Param). unmet_spelled l.whole l.mask.0 p.ty) (drop l.param-index l.params)
