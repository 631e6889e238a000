use Rattle.std.proofs.Common.{◌≡◌, drop, Some}
use Rattle.ang_check_contest.specs.Levels.{greater, levels_in, worst}
use Rattle.ang_check_contest.proofs.levels.worst_level.Given as goal

abbrev pub invariant-loop-place : goal.invariant-loop-place
invariant-loop-place l = greater (Some l.worst) (worst (levels_in (drop l.place l.levels)) (drop l.place l.numbers)) ≡ worst (levels_in l.levels) l.numbers
