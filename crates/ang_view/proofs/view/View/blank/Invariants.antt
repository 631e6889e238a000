use Rattle.std.proofs.Common.{◌≡◌, ◌≤◌}
use Rattle.ang_view.specs.Blanks.{left_outside_range}
use Rattle.ang_view.specs.Only.{only}
use Rattle.ang_view.proofs.view.View.blank.Given as goal

abbrev pub invariant-loop-number : goal.invariant-loop-number
invariant-loop-number l = (l.self ≡ only (left_outside_range l.first l.number) l.initial.self) × (l.after ≤ l.first → l.number ≤ l.first)
