use Rattle.std.proofs.Common.{◌≡◌, false, not, ◌&&◌}
use Rattle.std.specs.List.{list_any, range_with_len}
use Rattle.ang_view.specs.Groups.{is_in, names_into}
use Rattle.ang_view.specs.Registration.{entry_at}
use Rattle.ang_view.proofs.group.is_named_outside.Given as goal

abbrev pub invariant-loop-number : goal.invariant-loop-number
invariant-loop-number l =
    list_any (λ n. not (is_in l.group n) && names_into l.list l.group (entry_at l.list n)) (range_with_len 0 l.number) ≡ false
