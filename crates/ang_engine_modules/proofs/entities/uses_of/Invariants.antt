use Rattle.std.proofs.Common.{◌≡◌, take}
use Rattle.std.specs.Prelude.{map as list_map}
use Rattle.ang_source.specs.Hosts.{asked_as}
use Rattle.ang_engine_modules.proofs.entities.uses_of.Given as goal

abbrev pub invariant-loop-number : goal.invariant-loop-number
invariant-loop-number l = l.uses.items ≡ list_map asked_as (take l.number l.view)
