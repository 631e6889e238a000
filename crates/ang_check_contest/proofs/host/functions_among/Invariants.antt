use Rattle.std.proofs.Common.{◌≡◌, ◌++◌, drop}
use Rattle.ang_check_contest.specs.Among.{found_among}
use Rattle.ang_check_contest.proofs.host.functions_among.Given as goal

abbrev pub invariant-loop-number : goal.invariant-loop-number
invariant-loop-number l =
    found_among l.wanted l.view l.numbers ≡ l.functions.items ++ found_among l.wanted l.view (drop l.number-index l.numbers)
