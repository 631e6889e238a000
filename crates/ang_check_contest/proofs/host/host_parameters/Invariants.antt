use Rattle.std.proofs.Common.{◌≡◌, drop}
use Rattle.ang_check_contest.specs.Host.{host_parameters}
use Rattle.ang_names_known.proofs.SoFar.{all_in_front}
use Rattle.ang_check_contest.proofs.host.host_parameters.Given as goal

abbrev pub invariant-loop-param : goal.invariant-loop-param
invariant-loop-param l = host_parameters l.view l.params ≡ all_in_front l.found.items (host_parameters l.view (drop l.param-index l.params))
