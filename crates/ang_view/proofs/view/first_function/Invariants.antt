use Rattle.std.proofs.Common.{◌≡◌, ℕ, drop}
use Rattle.ang_view.specs.Registration.{entry_at, is_function_named, seen_entry}
use Rattle.ang_view.specs.Named.{first_of}
use Rattle.ang_view.proofs.view.first_function.Given as goal

abbrev pub invariant-loop-number : goal.invariant-loop-number
invariant-loop-number l =
    first_of (λ (n : ℕ). is_function_named l.name (seen_entry l.list l.mask.0 (entry_at l.list n))) l.numbers
    ≡ first_of (λ (n : ℕ). is_function_named l.name (seen_entry l.list l.mask.0 (entry_at l.list n))) (drop l.number-index l.numbers)
