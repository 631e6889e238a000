use Rattle.std.proofs.Common.{[], true, false, refl, sym, ap, ◌∙◌, inl, inr}
use Rattle.std.proofs.lemmas.Result.{err_from_is_err_and}
use Rattle.asrun_lines.specs.Lines.{is_skipped}
use Rattle.asremote.specs.OwnLines.{own_line_of}
use Rattle.asremote.specs.Talk.{Passed}
use Rattle.asremote.specs.declared.turns.Turn.TheVariants as turn
use Rattle.asremote.proofs.Turning.{turn_here, half_here, obeyed, half_obeyed, nothing_more, ok_turn, err_turn}
use Rattle.asremote.proofs.turns.take_turn.Goals as goal

pub returns-then-is_skipped-clause-turned : goal.returns-then-is_skipped-clause-turned
returns-then-is_skipped-clause-turned g c =
    turn_here (λ v. (g.dyn-1.0.entry v).1) c.args.engine.now c.args.engine.now c.args.prepared.now.items c.args.prepared.now.items (g.W.Write.contents c.args.writer.now) (g.W.Write.contents c.args.writer.now) c.args.number c.args.ticks
    c.args.text.now (turn.Done true c.args.ticks 0) c.in-Some.line.now _ c.in-Some.ensures.some (record {
      did = Passed;
      taken = record {
        said = (ap is_skipped (sym c.shown-line.ensures.exact) ∙ sym c.is_skipped.ensures.exact ∙ c.if-is_skipped.true, refl);
        budget = refl;
        budgeted = tt;
        comes = record { comes = refl; functions = refl };
      };
      is_ok = refl;
      printed = nothing_more (g.W.Write.contents c.args.writer.now);
    })

pub returns-in_ok-ok-in-Ok-clause-turned : goal.returns-in_ok-ok-in-Ok-clause-turned
returns-in_ok-ok-in-Ok-clause-turned g c =
    turn_here (λ v. (g.dyn-1.0.entry v).1) c.args.engine.now c.obey.new.engine c.args.prepared.now.items c.obey.new.prepared.items (g.W.Write.contents c.args.writer.now) (g.W.Write.contents c.obey.new.writer) c.args.number c.args.ticks
    c.args.text.now (turn.Done c.in_ok-ok-in-Ok.ok c.args.ticks 0) c.in-Some.line.now _ c.in-Some.ensures.some
    (obeyed (λ v. (g.dyn-1.0.entry v).1) c.args.engine.now c.obey.new.engine c.args.prepared.now.items c.obey.new.prepared.items (g.W.Write.contents c.args.writer.now) (g.W.Write.contents c.obey.new.writer) c.args.number c.args.ticks
    c.args.text.now c.in-Some.line.now _ c.in-Ok.own c.in_ok-ok-in-Ok.ok
    (ap is_skipped (sym c.shown-line.ensures.exact) ∙ sym c.is_skipped.ensures.exact ∙ c.if-is_skipped.false)
    (ap own_line_of (sym c.shown-line.ensures.exact) ∙ c.in-Ok.ensures.exact) c.in_ok-ok-in-Ok.ensures.obeyed)

pub returns-in_err-ok-in-Ok-clause-cut : goal.returns-in_err-ok-in-Ok-clause-cut
returns-in_err-ok-in-Ok-clause-cut g c =
    let p = err_from_is_err_and c.from_residual.result c.from_residual.ensures.1 in
    rw p.1
    (half_here (λ v. (g.dyn-1.0.entry v).1) c.args.engine.now c.obey.new.engine c.args.prepared.now.items c.obey.new.prepared.items (g.W.Write.contents c.args.writer.now) (g.W.Write.contents c.obey.new.writer) c.args.number c.args.ticks
    c.args.text.now c.in-Some.line.now _ c.in-Some.ensures.some
    (inl (half_obeyed (λ v. (g.dyn-1.0.entry v).1) c.args.engine.now c.obey.new.engine c.args.prepared.now.items c.obey.new.prepared.items (g.W.Write.contents c.args.writer.now) (g.W.Write.contents c.obey.new.writer) c.args.number c.args.ticks
    c.args.text.now c.in-Some.line.now _ c.in-Ok.own
    (ap is_skipped (sym c.shown-line.ensures.exact) ∙ sym c.is_skipped.ensures.exact ∙ c.if-is_skipped.false)
    (ap own_line_of (sym c.shown-line.ensures.exact) ∙ c.in-Ok.ensures.exact) c.in_err-ok-in-Ok.ensures.cut)))

pub take_act-requires-clause-not_own : goal.take_act-requires-clause-not_own
take_act-requires-clause-not_own g c = rw c.in-Err-BadLine.field-0-is at c.in-Err-BadLine.ensures.exact

pub returns-in-Err-BadLine-clause-turned : goal.returns-in-Err-BadLine-clause-turned
returns-in-Err-BadLine-clause-turned g c =
    ok_turn c.take_act.result _ _
    (λ t h. turn_here (λ v. (g.dyn-1.0.entry v).1) c.args.engine.now c.take_act.new.engine c.args.prepared.now.items c.args.prepared.now.items (g.W.Write.contents c.args.writer.now) (g.W.Write.contents c.take_act.new.writer) c.args.number c.args.ticks
    c.args.text.now t c.in-Some.line.now _ c.in-Some.ensures.some (h c.args.prepared.now.items c.in-Some.line.now c.shown-line.ensures.exact)) c.take_act.ensures.turned

pub returns-in-Err-BadLine-clause-cut : goal.returns-in-Err-BadLine-clause-cut
returns-in-Err-BadLine-clause-cut g c =
    err_turn c.take_act.result _ _
    (λ h. half_here (λ v. (g.dyn-1.0.entry v).1) c.args.engine.now c.take_act.new.engine c.args.prepared.now.items c.args.prepared.now.items (g.W.Write.contents c.args.writer.now) (g.W.Write.contents c.take_act.new.writer) c.args.number c.args.ticks
    c.args.text.now c.in-Some.line.now _ c.in-Some.ensures.some (h c.args.prepared.now.items c.in-Some.line.now c.shown-line.ensures.exact)) c.take_act.ensures.cut

pub returns-in-Err-Memory-clause-cut : goal.returns-in-Err-Memory-clause-cut
returns-in-Err-Memory-clause-cut g c = λ line section here. inr (inr (refl, refl))
