use Rattle.std.proofs.Common.{[], refl, ◌∙◌}
use Rattle.std.proofs.lemmas.Result.{err_from_is_err_and}
use Rattle.ang_engine.proofs.Lists.{all_within, within_join}
use Rattle.asremote.proofs.Lining.{no_lines}
use Rattle.asremote.proofs.Coming.{gone_first, cut_here, next_on, last_on, bad_on, long_on, end_on, half_on}
use Rattle.asremote.proofs.conversation.turns_on.Goals as goal

pub loop-init : goal.loop-init
loop-init g c = record {
  sound = c.requires.sound;
  list = all_within _;
  order = refl;
  come = (
    [],
    [],
    no_lines,
    gone_first (λ v. (g.dyn-1.0.entry v).1) _ _ _ _ _ c.requires.none,
  );
}

pub loop-preserved : goal.loop-preserved
loop-preserved g c = record {
  sound = c.in_ok-at.ensures.sound;
  list = within_join _ _ _ c.loop.invariant.list c.in_ok-at.ensures.within;
  order = c.in_ok-at.ensures.order ∙ c.loop.invariant.order;
  come =
      next_on (λ v. (g.dyn-1.0.entry v).1) _ _ _ _ _ _ _ _ _ _ c.loop.engine c.next_turn.new.engine c.loop.prepared.items c.next_turn.new.prepared.items c.loop.invariant.come _ _
      c.in_ok-at.field-0 c.in_ok-at.ensures.done c.in-Next.at c.in-Next.is;
}

pub returns-in-Last-clause-done : goal.returns-in-Last-clause-done
returns-in-Last-clause-done g c =
    rw c.ended.ensures.exact
    (last_on (λ v. (g.dyn-1.0.entry v).1) _ _ _ _ _ _ _ _ _ _ c.loop.engine c.next_turn.new.engine c.loop.prepared.items c.next_turn.new.prepared.items c.loop.invariant.come _ _
    c.in_ok-at.field-0 c.in_ok-at.ensures.done c.in-Last.at c.in-Last.is)

pub returns-in-Bad-clause-done : goal.returns-in-Bad-clause-done
returns-in-Bad-clause-done g c =
    bad_on (λ v. (g.dyn-1.0.entry v).1) _ _ _ _ _ _ _ _ _ _ c.loop.engine c.next_turn.new.engine c.loop.prepared.items c.next_turn.new.prepared.items c.loop.invariant.come _ _
    c.in_ok-at.field-0 c.in_ok-at.ensures.done c.in-Bad.is

pub returns-in-Long-clause-done : goal.returns-in-Long-clause-done
returns-in-Long-clause-done g c =
    long_on (λ v. (g.dyn-1.0.entry v).1) _ _ _ _ _ _ _ _ _ _ c.loop.engine c.next_turn.new.engine c.loop.prepared.items c.next_turn.new.prepared.items c.loop.invariant.come _ _
    c.in_ok-at.field-0 c.in_ok-at.ensures.done c.in-Long.is

pub returns-in-End-clause-done : goal.returns-in-End-clause-done
returns-in-End-clause-done g c =
    rw c.ended-in-End.ensures.exact
    (end_on (λ v. (g.dyn-1.0.entry v).1) _ _ _ _ _ _ _ _ _ _ c.loop.engine c.next_turn.new.engine c.loop.prepared.items c.next_turn.new.prepared.items c.loop.invariant.come _ _
    c.in_ok-at.field-0 c.in_ok-at.ensures.done c.in-End.is)

pub returns-in_err-at-clause-cut : goal.returns-in_err-at-clause-cut
returns-in_err-at-clause-cut g c =
    let p = err_from_is_err_and c.from_residual.result c.from_residual.ensures.1 in
    rw p.1
    (half_on (λ v. (g.dyn-1.0.entry v).1) _ _ _ _ _ _ _ _ _ _ c.loop.engine c.next_turn.new.engine c.loop.prepared.items c.next_turn.new.prepared.items c.loop.invariant.come _ _
    c.in_err-at.ensures.cut)

pub returns-clause-cut : goal.returns-clause-cut
returns-clause-cut g c =
    cut_here (λ v. (g.dyn-1.0.entry v).1) _ _ _ _ _ _ _ _ _ _ _ _ _ _ c.loop.invariant.come.3 _
