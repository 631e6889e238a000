-- What an operator's answer says of the operation.
use Rattle.std.proofs.Common.{◌≡◌, ℕ, [], ◌∷◌, refl, sym, ap, ◌∙◌, Result, Ok, Err}
use Rattle.ang_kinds.specs.declared.primitive.Primitive.{Primitive}
use Rattle.ang_kinds.specs.declared.fault.Fault.{Fault}
use Rattle.ang_meaning.specs.declared.slot.Slot.TheVariants.{Bits}
use Rattle.ang_kinds.specs.declared.operator.Operator.{Operator}
use Rattle.ang_meaning.specs.declared.operation.Operation.TheVariants.{Binary}
use Rattle.ang_meaning.specs.Numbers.{Worked, Is, Cannot, binary_result}
use Rattle.ang_meaning.specs.World.{World}
use Rattle.ang_meaning.specs.Environment.{Environment}
use Rattle.ang_meaning.specs.Hosts.{Done, Fine, Fails}
use Rattle.ang_meaning.specs.Perform.{perform, work_done}
use Rattle.ang_vm_numbers.specs.Answers.{answer_of}

-- the end that an answer in code stands for
abbrev pub ends_with : Result ℕ Fault → World → Done
ends_with (Ok n) w = Fine (Bits n) w
ends_with (Err f) w = Fails f w

ends_same : (o : Worked) (w : World) → work_done o w ≡ ends_with (answer_of o) w
ends_same (Is n) w = refl
ends_same (Cannot f) w = refl

pub work_ends : (what : Operator) (p : Primitive) (x y : ℕ) (r : Result ℕ Fault) → r ≡ answer_of (binary_result what p x y) → (z : Environment) (m : ℕ) (w : World) → perform z m (Binary what p) (Bits y ∷ Bits x ∷ []) w ≡ ends_with r w
unfolding perform
work_ends what p x y r e z m w = ends_same (binary_result what p x y) w ∙ ap (λ o. ends_with o w) (sym e)
