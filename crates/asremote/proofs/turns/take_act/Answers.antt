use Rattle.std.proofs.Common.{[], refl, sym, ap, ◌∙◌, inl, inr}
use Rattle.std.proofs.lemmas.Result.{err_from_is_err_and}
use Rattle.asrun_lines.specs.Lines.{is_skipped}
use Rattle.asremote.specs.OwnLines.{own_line_of}
use Rattle.asremote.proofs.Turning.{performed, half_performed, refused, half_refused, ok_turn, err_turn}
use Rattle.asremote.proofs.turns.take_act.Goals as goal

pub returns-in-Err-BadLine-clause-turned : goal.returns-in-Err-BadLine-clause-turned
returns-in-Err-BadLine-clause-turned g c =
    ok_turn c.refuse.result _ _
    (λ t h ps whole is.
    refused (λ v. (g.dyn-1.0.entry v).1) c.args.engine.now ps (g.W.Write.contents c.args.writer.now) (g.W.Write.contents c.refuse.new.writer) c.args.number c.args.ticks whole c.args.line.now _
    is c.requires.told c.requires.not_own (rw c.in-Err-BadLine.field-0-is at c.in-Err-BadLine.ensures.exact) t h) c.refuse.ensures.refused

pub returns-in-Err-BadLine-clause-cut : goal.returns-in-Err-BadLine-clause-cut
returns-in-Err-BadLine-clause-cut g c =
    err_turn c.refuse.result _ _
    (λ h ps whole is.
    half_refused (λ v. (g.dyn-1.0.entry v).1) c.args.engine.now ps (g.W.Write.contents c.args.writer.now) (g.W.Write.contents c.refuse.new.writer) c.args.number c.args.ticks whole c.args.line.now _
    is c.requires.told c.requires.not_own (rw c.in-Err-BadLine.field-0-is at c.in-Err-BadLine.ensures.exact) h) c.refuse.ensures.cut

pub returns-in-Err-Memory-clause-cut : goal.returns-in-Err-Memory-clause-cut
returns-in-Err-Memory-clause-cut g c = λ ps whole is. inr (inr (refl, refl))

pub returns-in_ok-ok-in-Ok-clause-turned : goal.returns-in_ok-ok-in-Ok-clause-turned
returns-in_ok-ok-in-Ok-clause-turned g c = λ ps whole is.
    performed (λ v. (g.dyn-1.0.entry v).1) c.args.engine.now c.perform.new.engine ps ps (g.W.Write.contents c.args.writer.now) (g.W.Write.contents c.perform.new.writer) c.args.number c.args.ticks
    [] whole _ (record { action = c.in-Ok.act.action; lines = c.in-Ok.act.lines }) c.in_ok-ok-in-Ok.ok c.in_ok-ok-in-Ok.next
    (ap is_skipped (sym is) ∙ c.requires.told, ap own_line_of (sym is) ∙ c.requires.not_own, rw (← is) c.in-Ok.ensures.exact.0, c.in-Ok.ensures.exact.2)
    c.in_ok-ok-in-Ok.ensures.budget c.in_ok-ok-in-Ok.ensures.done

pub returns-in_err-ok-in-Ok-clause-cut : goal.returns-in_err-ok-in-Ok-clause-cut
returns-in_err-ok-in-Ok-clause-cut g c =
    let p = err_from_is_err_and c.from_residual.result c.from_residual.ensures.1 in
    rw p.1
    (λ ps whole is. inl (half_performed (λ v. (g.dyn-1.0.entry v).1) c.args.engine.now c.perform.new.engine ps ps (g.W.Write.contents c.args.writer.now) (g.W.Write.contents c.perform.new.writer) c.args.number c.args.ticks
    [] whole _ (record { action = c.in-Ok.act.action; lines = c.in-Ok.act.lines })
    (ap is_skipped (sym is) ∙ c.requires.told, ap own_line_of (sym is) ∙ c.requires.not_own, rw (← is) c.in-Ok.ensures.exact.0, c.in-Ok.ensures.exact.2)
    c.in_err-ok-in-Ok.ensures.cut))
