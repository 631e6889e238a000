use Rattle.std.proofs.Common.{arith}
use Rattle.std.proofs.lemmas.List.{length-take, length-drop}
use Rattle.asrun_session.proofs.Appending.{appends_more}
use Rattle.asrun_session.proofs.printing.write_text.Goals as goal

pub loop-written-preserved : goal.loop-written-preserved
loop-written-preserved g c = (
  omega (arith, simp (length-take, length-drop) at c.in-Ok.ensures.bound),
  appends_more _ _ _ c.args.text.now c.loop-written.written c.in-Ok.count c.loop-written.invariant.1 c.in-Ok.ensures.bytes,
)
