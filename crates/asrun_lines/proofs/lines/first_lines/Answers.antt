use Rattle.std.proofs.Common.{arith}
use Rattle.asrun_lines.proofs.FirstLines.{takes_more, takes_short}
use Rattle.asrun_lines.proofs.lines.first_lines.Goals as goal

pub returns-in_err-after-clause-none : goal.returns-in_err-after-clause-none
returns-in_err-after-clause-none c = rw c.from_residual.ensures (let short = takes_short c.args.text.now c.loop.rest.now c.loop.counter c.loop.invariant c.in_err-after.ensures.none in omega arith)

pub loop-preserved : goal.loop-preserved
loop-preserved c =
    takes_more c.args.text.now c.loop.rest.now c.in_ok-after.field-0-0.now c.in_ok-after.after.now c.loop.counter c.loop.invariant c.in_ok-after.ensures.some c.in_ok-after.ensures.whole c.in_ok-after.ensures.shorter
