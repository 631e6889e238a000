use Rattle.std.specs.Prelude.{not}
use Rattle.std.proofs.Common.{◌≡◌, ap, ◌∙◌}
use Rattle.ang_check_contest.specs.Told.{rows_of}
use Rattle.ang_check_added.specs.Verdicts.{verdicts_beside, verdicts_in, wins_by}
use Rattle.ang_check_added.proofs.Judging.{judged}
use Rattle.ang_check_added.proofs.verdicts.Verdicts.of.Goals as goal

pub returns : goal.returns
returns c =
    let r = c.args.rivals.now in
    let least = r.least.items in
    let kept : verdicts_in c.in_ok-verdicts.verdicts.items ≡ verdicts_beside (rows_of c.args.rows.now) least =
    c.in_ok-verdicts.ensures.exact ∙ ap (verdicts_beside (rows_of c.args.rows.now)) c.as_slice.ensures.value in
    record {
      judge = λ ancestors kinds cs args are rivals k ns says.
          ap (λ rows. wins_by rows ns (not r.tied)) (kept ∙ ap (λ rows. verdicts_beside rows least) are)
          ∙ judged ancestors kinds cs args least r.tied k ns says rivals;
    }
