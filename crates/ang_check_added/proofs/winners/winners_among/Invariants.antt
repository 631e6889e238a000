use Rattle.std.specs.Prelude.{not, ◌&&◌}
use Rattle.std.proofs.Common.{◌≡◌, ℕ, List, length, true}
use Rattle.ang_check_added.specs.Sets.{StandsBy, has}
use Rattle.ang_check_added.specs.Verdicts.{verdicts_in, wins_by}
use Rattle.ang_check_added.proofs.Judging.{from_place}
use Rattle.ang_check_added.proofs.winners.winners_among.Given as goal

abbrev pub invariant-loop-place : goal.invariant-loop-place
invariant-loop-place l =
    (n : ℕ) (ns : List ℕ) → StandsBy l.places ns n → length ns ≡ length l.rows → has l.among.words n ≡ true
    → (not (has l.standings.lost.words n) && from_place l.rows ns l.place (has l.standings.ahead.words n)) ≡ wins_by (verdicts_in l.rows) ns l.is_ahead
