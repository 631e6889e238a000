use Rattle.std.proofs.Common.{◌≡◌, ◌++◌, map as list_map}
use Rattle.ang_check_uses.specs.CallableKinds.{host_callable_as}
use Rattle.ang_check_uses.proofs.hosts.push_hosts.Given as goal

abbrev pub invariant-loop-host : goal.invariant-loop-host
invariant-loop-host l = l.found ≡ l.initial.found ++ list_map (host_callable_as l.usage) l.yielded
