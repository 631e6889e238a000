use Rattle.std.specs.Prelude.{filter}
use Rattle.std.specs.List.{range_with_len}
use Rattle.std.proofs.Common.{◌≡◌}
use Rattle.ang_view.specs.Named.{is_type_entry}
use Rattle.ang_view.specs.Registration.{entry_at}
use Rattle.ang_check_added.proofs.brought.all_types.Given as goal

abbrev pub invariant-loop-number : goal.invariant-loop-number
invariant-loop-number l = l.numbers.items ≡ filter (λ k. is_type_entry (entry_at l.whole k)) (range_with_len 0 l.number)
