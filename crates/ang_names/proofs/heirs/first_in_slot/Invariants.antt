use Rattle.std.proofs.Common.{◌≡◌, ◌==◌, drop, find}
use Rattle.ang_names_known.specs.declared.names.ScriptMethod.{ScriptMethod}
use Rattle.ang_names.specs.ByNumber.{methods_at}
use Rattle.ang_names.proofs.heirs.first_in_slot.Given as goal

abbrev pub invariant-loop-number : goal.invariant-loop-number
invariant-loop-number l =
    find (λ (m : ScriptMethod). m.slot == l.slot) (methods_at l.families l.order)
    ≡ find (λ (m : ScriptMethod). m.slot == l.slot) (methods_at l.families (drop l.number-index l.order))
