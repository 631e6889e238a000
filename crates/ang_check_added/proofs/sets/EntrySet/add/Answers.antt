use Rattle.std.proofs.Common.{◌≡◌, subst, arith}
use Rattle.ang_check_added.proofs.SetLaws.{AreDone, either_has, or_done, or_word}
use Rattle.ang_check_added.proofs.sets.EntrySet.add.Goals as goal

pub loop-place-preserved : goal.loop-place-preserved
loop-place-preserved c =
    let l = c.loop-place in
    or_done c.args.self.now.words c.args.other.now.words l.self.words l.place (omega arith) l.invariant

pub returns : goal.returns
returns c =
    let l = c.loop-place in
    let over : l.place ≡ 16 = omega arith in
    record {
      either = either_has c.args.self.now.words c.args.other.now.words l.self.words (omega arith)
          (subst (AreDone (or_word c.args.self.now.words c.args.other.now.words) c.args.self.now.words l.self.words) over l.invariant);
    }
