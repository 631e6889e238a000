use Rattle.std.proofs.Common.{◌≡◌, ◌++◌, drop, is_some, map}
use Rattle.ang_check.proofs.denying.marks_of.Given as goal

abbrev pub invariant-loop-entry : goal.invariant-loop-entry
invariant-loop-entry l = map is_some l.fn.view ≡ l.marks.items ++ map is_some (drop l.entry-index l.entry-items)
