use Rattle.std.proofs.Common.{◌≡◌, drop}
use Rattle.std.specs.List.{flat_map}
use Rattle.ang_check_uses.specs.Choosing.{host_entry}
use Rattle.ang_check_contest.specs.Contest.{after}
use Rattle.ang_check_uses.proofs.told_hosts.enter_entries.Given as goal

abbrev pub invariant-loop-number : goal.invariant-loop-number
invariant-loop-number l =
    after l.scope.ancestors l.args l.initial.contest (flat_map (host_entry l.usage l.wanted l.scope.view) l.numbers)
    ≡ after l.scope.ancestors l.args l.contest (flat_map (host_entry l.usage l.wanted l.scope.view) (drop l.number-index l.numbers))
