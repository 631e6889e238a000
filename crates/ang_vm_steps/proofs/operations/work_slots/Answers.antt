use Rattle.std.proofs.Common.{◌∷◌, [], ap, ◌∙◌}
use Rattle.ang_meaning.specs.declared.slot.Slot.TheVariants.{Bits}
use Rattle.ang_meaning.specs.declared.operation.Operation.TheVariants.{Binary}
use Rattle.ang_meaning.specs.Perform.{perform}
use Rattle.ang_vm_steps.proofs.operations.work_slots.Goals as goal

pub returns-in-Bits-x : goal.returns-in-Bits-x
returns-in-Bits-x c =
    let o = Binary c.args.what c.args.at in
    record { exact = λ z m w. ap (λ s. perform z m o (s ∷ c.args.x ∷ []) w) c.in-Bits.is ∙ ap (λ s. perform z m o (Bits c.in-Bits.second ∷ s ∷ []) w) c.in-Bits-x.is ∙ c.work_bits.ensures.exact z m w }
