use Rattle.std.proofs.Common.{◌≡◌, drop, is_some}
use Rattle.ang_check_contest.specs.Host.{host_parameters}
use Rattle.ang_check_uses.proofs.told_hosts.are_seen.Given as goal

abbrev pub invariant-loop-param : goal.invariant-loop-param
invariant-loop-param l = is_some (host_parameters l.view l.params) ≡ is_some (host_parameters l.view (drop l.param-index l.params))
