use Rattle.std.proofs.Common.{arith}
use Rattle.asrun_session.proofs.Held.{on_err, held_start, lines_turn, lines_front, lines_all}
use Rattle.asrun_session.proofs.printing.add_lines.Goals as goal

pub loop-line-init : goal.loop-line-init
loop-line-init g c = held_start _ _

pub loop-line-preserved : goal.loop-line-preserved
loop-line-preserved g c =
    lines_turn g.L.Line.line _ _ _ _ _ _ c.args.lines.now c.loop-line.line-index c.line-item.result c.loop-line.invariant c.loop-line-test.true c.line-item.is c.in_ok-add_line.ensures.whole

pub returns-in_err-add_line-clause-front : goal.returns-in_err-add_line-clause-front
returns-in_err-add_line-clause-front g c =
    on_err c.from_residual.result (lines_front g.L.Line.line _ _ _ _ _ c.args.lines.now c.loop-line.line-index c.line-item.result c.loop-line.invariant c.loop-line-test.true c.line-item.is c.in_err-add_line.ensures.front)

pub returns-clause-whole : goal.returns-clause-whole
returns-clause-whole g c =
    lines_all g.L.Line.line _ _ _ _ c.args.lines.now c.loop-line.line-index c.loop-line.invariant (omega (arith, c.loop-line-test.false))
