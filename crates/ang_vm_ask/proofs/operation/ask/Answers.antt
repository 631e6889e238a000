use Rattle.std.proofs.Common.{◌≡◌, true, false, sym, ◌∙◌}
use Rattle.ang_vm_ask.proofs.operation.ask.Goals as goal

pub returns-in_default-clause-told : goal.returns-in_default-clause-told
returns-in_default-clause-told g c = λ nesting is fit count.
    let none : true ≡ false = sym fit ∙ c.in_default.ensures.none is nesting in
    absurd (let x : ⊥ = cc in x)
