use Rattle.std.proofs.lemmas.Result.{err_from_is_err_and}
use Rattle.asremote.proofs.Coming.{started_over, started_half, unstarted}
use Rattle.asremote.proofs.conversation.run_turns.Goals as goal

pub returns-clause-done : goal.returns-clause-done
returns-clause-done g c =
    started_over _ _ _ _ _ _ _ _ c.in_ok-print_done.ensures.told (λ v. (g.dyn-1.0.entry v).1) _ _ _ c.turns_on-ended.result c.turns_on-ended.ensures.done

pub returns-clause-cut : goal.returns-clause-cut
returns-clause-cut g c =
    started_half _ _ _ _ _ _ _ _ c.in_ok-print_done.ensures.told (λ v. (g.dyn-1.0.entry v).1) _ _ _ c.turns_on-ended.result c.turns_on-ended.ensures.cut

pub returns-in_err-print_done-clause-cut : goal.returns-in_err-print_done-clause-cut
returns-in_err-print_done-clause-cut g c =
    let p = err_from_is_err_and c.from_residual.result c.from_residual.ensures.1 in
    rw p.1 (unstarted (λ v. (g.dyn-1.0.entry v).1) _ _ _ _ _ _ _ _ c.in_err-print_done.ensures.front)
