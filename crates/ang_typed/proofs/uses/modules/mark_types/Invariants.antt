use Rattle.std.proofs.Common.{◌≡◌, drop}
use Rattle.ang_typed.specs.Uses.{marked, type_uses}
use Rattle.ang_typed.specs.Marked.{each_marks}
use Rattle.ang_typed.proofs.uses.modules.mark_types.Given as goal

abbrev pub invariant-loop-ty : goal.invariant-loop-ty
invariant-loop-ty l = each_marks (λ ty. marked (type_uses ty)) (drop l.ty-index l.types) l.marks.items ≡ each_marks (λ ty. marked (type_uses ty)) l.types l.initial.marks.items
