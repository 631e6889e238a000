use Rattle.ang_remote.proofs.Reading.{ends_open, ends_empty, ends_line, one_more, breaks, gives_up}
use Rattle.ang_remote.proofs.lines.read_line.Goals as goal

pub returns-then-begun : goal.returns-then-begun
returns-then-begun g c = record {
  heard = rw c.last.ensures.exact (ends_open c.args.most _ _ _ _ _ _ c.loop.begun c.if-begun.true c.loop.invariant (rw c.in-Ok-None.field-0-is at c.in-Ok-None.ensures.none) (rw c.in-Ok-None.field-0-is at c.in-Ok-None.ensures.end));
}

pub returns-then-byte-eq10 : goal.returns-then-byte-eq10
returns-then-byte-eq10 g c = record {
  heard = ends_line c.args.most _ _ _ _ _ _ _ _ _ c.in-Ok-Some.byte c.loop.invariant (rw c.in-Ok-Some.field-0-is at c.in-Ok-Some.ensures.byte) c.keep-kept.ensures.kept c.if-byte-eq10.true;
}

pub loop-preserved : goal.loop-preserved
loop-preserved g c = one_more c.args.most _ _ _ _ _ _ _ _ _ c.in-Ok-Some.byte c.loop.invariant (rw c.in-Ok-Some.field-0-is at c.in-Ok-Some.ensures.byte) c.keep-kept.ensures.kept c.if-byte-eq10.false
