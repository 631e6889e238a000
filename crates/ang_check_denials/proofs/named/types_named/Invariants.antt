use Rattle.std.specs.Prelude.{filter}
use Rattle.std.proofs.Common.{◌≡◌, take}
use Rattle.ang_view.specs.Registration.{entry_at}
use Rattle.ang_check_denials.specs.Names.{is_a_type_named}
use Rattle.ang_check_denials.proofs.named.types_named.Given as goal

abbrev pub invariant-loop-number : goal.invariant-loop-number
invariant-loop-number l = l.numbers.items ≡ filter (λ k. is_a_type_named l.name (entry_at l.masked.list k)) (take l.number-index l.types)
