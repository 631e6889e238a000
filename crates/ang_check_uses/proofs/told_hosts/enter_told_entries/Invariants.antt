use Rattle.std.proofs.Common.{◌≡◌, drop}
use Rattle.std.specs.List.{flat_map}
use Rattle.ang_check_uses.specs.Choosing.{host_entry}
use Rattle.ang_check_contest.specs.Contest.{after}
use Rattle.ang_check_uses.proofs.told_hosts.enter_told_entries.Given as goal

abbrev pub invariant-loop-number : goal.invariant-loop-number
invariant-loop-number l = record {
  same : l.contest.telling ≡ l.initial.contest.telling;
  entered :
      after l.initial.contest.telling.ancestors l.initial.contest.telling.args l.initial.contest.standing (flat_map (host_entry l.usage l.wanted l.view) l.numbers)
      ≡ after l.initial.contest.telling.ancestors l.initial.contest.telling.args l.contest.standing (flat_map (host_entry l.usage l.wanted l.view) (drop l.number-index l.numbers));
}
