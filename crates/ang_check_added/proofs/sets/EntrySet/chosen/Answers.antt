use Rattle.std.proofs.Common.{◌≡◌, ℕ, ◌<◌, ◌^◌, get_or, subst, arith, ◌∙◌}
use Rattle.std.proofs.lemmas.List.{length-set}
use Rattle.ang_check_added.proofs.SetLaws.{AreDone, chosen_done, chosen_has, chosen_word, one_small}
use Rattle.ang_check_added.proofs.sets.EntrySet.chosen.Goals as goal

pub loop-place-preserved : goal.loop-place-preserved
loop-place-preserved c =
    let l = c.loop-place in
    let lost = c.args.lost.now.words in
    record {
      size = length-set l.chosen.words l.place _ ∙ l.invariant.size;
      done = chosen_done c.args.self.now.words lost c.args.ahead.now.words l.chosen.words l.place (omega (arith, l.invariant.size)) l.invariant.done;
      small = one_small lost l.place l.invariant.small (omega arith);
    }

pub returns : goal.returns
returns c =
    let l = c.loop-place in
    let a = c.args.self.now.words in
    let lost = c.args.lost.now.words in
    let ahead = c.args.ahead.now.words in
    let over : l.place ≡ 16 = omega arith in
    record {
      exact = chosen_has a lost ahead l.chosen.words (omega arith)
          (subst (λ p. (w : ℕ) → w < p → get_or lost w 0 < 2 ^ 64) over l.invariant.small)
          (subst (AreDone (chosen_word a lost ahead) a l.chosen.words) over l.invariant.done);
    }
