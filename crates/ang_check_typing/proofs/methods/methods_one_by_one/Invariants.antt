use Rattle.std.proofs.Common.{◌≡◌, drop}
use Rattle.ang_check_contest.specs.Contest.{after, fresh}
use Rattle.ang_check_typing.specs.Methods.{method_entries}
use Rattle.ang_check_typing.proofs.methods.methods_one_by_one.Given as goal

abbrev pub invariant-loop-place : goal.invariant-loop-place
invariant-loop-place l =
    after l.lineage l.args l.contest (method_entries l.dispatch l.number l.place (drop l.place l.methods.methods))
    ≡ after l.lineage l.args fresh (method_entries l.dispatch l.number 0 l.methods.methods)
