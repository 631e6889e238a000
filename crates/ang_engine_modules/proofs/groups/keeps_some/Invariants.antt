use Rattle.std.proofs.Common.{◌≡◌, ◌-◌}
use Rattle.std.specs.List.{list_any, range_with_len}
use Rattle.ang_engine_modules.specs.Keeping.{keeps, keeps_some}
use Rattle.ang_engine_modules.proofs.groups.keeps_some.Given as goal

abbrev pub invariant-loop-number : goal.invariant-loop-number
invariant-loop-number l =
    list_any (keeps l.view) (range_with_len l.number (l.group.after - l.number)) ≡ keeps_some l.group l.view
