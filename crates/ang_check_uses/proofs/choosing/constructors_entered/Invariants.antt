use Rattle.std.proofs.Common.{◌≡◌, drop}
use Rattle.ang_check_uses.specs.Choosing.{constructor_entries}
use Rattle.ang_check_contest.specs.Contest.{after, fresh}
use Rattle.ang_check_uses.proofs.choosing.constructors_entered.Given as goal

abbrev pub invariant-loop-constructor : goal.invariant-loop-constructor
invariant-loop-constructor l =
    (l.place ≡ l.constructor-index)
    × (after l.lineage l.args fresh (constructor_entries 0 l.constructors)
    ≡ after l.lineage l.args l.contest (constructor_entries l.place (drop l.constructor-index l.constructors)))
