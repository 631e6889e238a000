use Rattle.std.proofs.Common.{◌≡◌, drop}
use Rattle.ang_typed.specs.Uses.{marked, parameter_uses}
use Rattle.ang_typed.specs.Marked.{each_marks}
use Rattle.ang_typed.proofs.uses.modules.mark_parameters.Given as goal

abbrev pub invariant-loop-parameter : goal.invariant-loop-parameter
invariant-loop-parameter l = each_marks (λ p. marked (parameter_uses p)) (drop l.parameter-index l.parameters) l.marks.items ≡ each_marks (λ p. marked (parameter_uses p)) l.parameters l.initial.marks.items
