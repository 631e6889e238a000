use Rattle.std.specs.List.{range_with_len}
use Rattle.std.proofs.Common.{◌≡◌, map}
use Rattle.ang_view.specs.Registration.{entry_at}
use Rattle.ang_check_added.specs.Made.{made_of}
use Rattle.ang_check_added.proofs.made.all_made.Given as goal

abbrev pub invariant-loop-number : goal.invariant-loop-number
invariant-loop-number l = l.all.items ≡ map (λ n. made_of l.whole n (entry_at l.whole n)) (range_with_len 0 l.number)
