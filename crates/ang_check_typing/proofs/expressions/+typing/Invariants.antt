use Rattle.std.proofs.Common.{◌≡◌, drop}
use Rattle.ang_tree.specs.View.{view_items}
use Rattle.ang_check_operators.specs.View.{view_operands}
use Rattle.ang_check_typing.specs.Typing.{typing_of_all}
use Rattle.ang_check_typing.proofs.SoFar.{all_behind}
use Rattle.ang_check_typing.proofs.expressions.+typing.Given as goal

abbrev pub invariant-typing_of_all-loop-item : goal.invariant-typing_of_all-loop-item
invariant-typing_of_all-loop-item l =
    typing_of_all l.context l.locals (view_items l.items)
    ≡ all_behind (view_operands l.found.items) (typing_of_all l.context l.locals (view_items (drop l.item-index l.items)))
