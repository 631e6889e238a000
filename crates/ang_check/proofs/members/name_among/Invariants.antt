use Rattle.std.proofs.Common.{◌≡◌, drop, find}
use Rattle.ang_check.specs.Bodies.{names_family}
use Rattle.ang_check.proofs.members.name_among.Given as goal

abbrev pub invariant-loop-base : goal.invariant-loop-base
invariant-loop-base l = find (names_family l.text l.family) l.bases ≡ find (names_family l.text l.family) (drop l.base-index l.bases)
