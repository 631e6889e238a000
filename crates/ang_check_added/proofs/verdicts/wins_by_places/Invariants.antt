use Rattle.std.proofs.Common.{◌≡◌, drop}
use Rattle.ang_check_added.specs.Verdicts.{verdicts_in, wins_by}
use Rattle.ang_check_added.proofs.verdicts.wins_by_places.Given as goal

abbrev pub invariant-loop-place : goal.invariant-loop-place
invariant-loop-place l =
    wins_by (verdicts_in (drop l.place l.rows)) (drop l.place l.numbers) l.ahead ≡ wins_by (verdicts_in l.rows) l.numbers l.is_ahead
