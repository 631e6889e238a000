use Rattle.std.proofs.Common.{◌≡◌, length, take}
use Rattle.ang_check_context.specs.Numbered.{AreNumbered}
use Rattle.ang_check_context.proofs.scope.cut.Given as goal

abbrev pub invariant-loop-list : goal.invariant-loop-list
invariant-loop-list l = record {
  numbered : AreNumbered l.list.items l.numbers;
  same : take l.left l.list.items ≡ take l.left l.initial.list.items;
}

abbrev pub decreases-loop-list : goal.decreases-loop-list
decreases-loop-list l = length l.list.items
