use Rattle.std.proofs.Common.{◌≡◌, ℕ, drop}
use Rattle.ang_view.specs.Registration.{entry_at}
use Rattle.ang_view.specs.Types.{is_enumeration_named}
use Rattle.ang_view.specs.Named.{first_of}
use Rattle.ang_view.proofs.view.first_enumeration.Given as goal

abbrev pub invariant-loop-number : goal.invariant-loop-number
invariant-loop-number l =
    first_of (λ (n : ℕ). is_enumeration_named l.name (entry_at l.entries n)) l.numbers
    ≡ first_of (λ (n : ℕ). is_enumeration_named l.name (entry_at l.entries n)) (drop l.number-index l.numbers)
