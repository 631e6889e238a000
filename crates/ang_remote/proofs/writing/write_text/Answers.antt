use Rattle.std.proofs.Common.{arith, rules}
use Rattle.std.proofs.lemmas.List.{length-take, length-drop}
use Rattle.ang_remote.proofs.Streams.{appends_more, flushed}
use Rattle.ang_remote.proofs.writing.write_text.Goals as goal

pub loop-written-preserved : goal.loop-written-preserved
loop-written-preserved g c = (
  omega (arith, simp (length-take, length-drop) at c.in-Ok.ensures.bound),
  appends_more _ _ _ c.args.text.now c.loop-written.written c.in-Ok.count c.loop-written.invariant.1 c.in-Ok.ensures.bytes,
)
