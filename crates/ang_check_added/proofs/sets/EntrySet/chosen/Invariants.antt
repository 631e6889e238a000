use Rattle.std.proofs.Common.{◌≡◌, ℕ, get_or, length, ◌<◌, ◌^◌}
use Rattle.ang_check_added.proofs.SetLaws.{AreDone, chosen_word}
use Rattle.ang_check_added.proofs.sets.EntrySet.chosen.Given as goal

abbrev pub invariant-loop-place : goal.invariant-loop-place
invariant-loop-place l =
    record {
      size : length l.chosen.words ≡ length l.self.words;
      done : AreDone (chosen_word l.self.words l.lost.words l.ahead.words) l.self.words l.chosen.words l.place;
      small : (w : ℕ) → w < l.place → get_or l.lost.words w 0 < 2 ^ 64;
    }
