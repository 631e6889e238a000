use Rattle.std.proofs.Common.{◌≡◌, drop}
use Rattle.ang_names.specs.Refusals.{parameters_refusal}
use Rattle.ang_names.proofs.headings.parameters_refusal.Given as goal

abbrev pub invariant-loop-param : goal.invariant-loop-param
invariant-loop-param l =
    parameters_refusal l.space l.text l.imported l.params ≡ parameters_refusal l.space l.text l.imported (drop l.param-index l.params)
