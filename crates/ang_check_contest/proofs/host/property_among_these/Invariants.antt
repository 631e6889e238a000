use Rattle.std.proofs.Common.{◌≡◌, drop}
use Rattle.ang_check_contest.specs.Among.{property_among}
use Rattle.ang_check_contest.proofs.host.property_among_these.Given as goal

abbrev pub invariant-loop-number : goal.invariant-loop-number
invariant-loop-number l =
    property_among l.wanted l.view l.numbers ≡ property_among l.wanted l.view (drop l.number-index l.numbers)
