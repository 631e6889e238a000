use Rattle.ang_check_added.proofs.SetLaws.{AreDone, or_word}
use Rattle.ang_check_added.proofs.sets.EntrySet.add.Given as goal

abbrev pub invariant-loop-place : goal.invariant-loop-place
invariant-loop-place l = AreDone (or_word l.initial.self.words l.other.words) l.initial.self.words l.self.words l.place
