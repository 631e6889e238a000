use Rattle.std.proofs.Common.{◌≡◌, map, take}
use Rattle.ang_decl.specs.Signatures as spec
use Rattle.ang_decl.proofs.signatures.params_of.Given as goal

abbrev pub invariant-loop-item : goal.invariant-loop-item
invariant-loop-item l = l.params.items ≡ map (spec.param_of l.text) (take l.item-index l.items)
