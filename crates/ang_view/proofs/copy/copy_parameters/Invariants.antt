use Rattle.std.proofs.Common.{◌≡◌, take}
use Rattle.ang_view.proofs.copy.copy_parameters.Given as goal

abbrev pub invariant-loop-param : goal.invariant-loop-param
invariant-loop-param l = l.copies.items ≡ take l.param-index l.params
