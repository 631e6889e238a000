use Rattle.std.proofs.Common.{◌≡◌, ◌++◌, drop}
use Rattle.ang_names_listed.specs.Declarations.{base_names}
use Rattle.ang_names_listed.proofs.members.base_names.Given as goal

abbrev pub invariant-loop-base : goal.invariant-loop-base
invariant-loop-base l = base_names l.bases ≡ l.names.items ++ base_names (drop l.base-index l.bases)
