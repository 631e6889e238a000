use Rattle.std.proofs.Common.{◌≡◌, drop}
use Rattle.ang_names.specs.Heirs.{first_refused, method_refusal}
use Rattle.ang_names.proofs.heirs.methods_refusal.Given as goal

abbrev pub invariant-loop-method : goal.invariant-loop-method
invariant-loop-method l =
    first_refused (method_refusal l.families l.family) l.methods ≡ first_refused (method_refusal l.families l.family) (drop l.method-index l.methods)
