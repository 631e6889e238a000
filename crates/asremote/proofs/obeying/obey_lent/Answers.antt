use Rattle.asremote.proofs.obeying.obey_lent.Goals as goal

pub returns-in-Limit-clause-obeyed : goal.returns-in-Limit-clause-obeyed
returns-in-Limit-clause-obeyed g c = rw c.in-Limit.is (c.set_limit.ensures.obeyed c.args.prepared.now.items c.args.ticks)

pub returns-in-Limit-clause-cut : goal.returns-in-Limit-clause-cut
returns-in-Limit-clause-cut g c = rw c.in-Limit.is (c.set_limit.ensures.cut c.args.prepared.now.items c.args.ticks)

pub returns-in-Used-clause-obeyed : goal.returns-in-Used-clause-obeyed
returns-in-Used-clause-obeyed g c = rw c.in-Used.is (c.tell_used.ensures.obeyed c.args.prepared.now.items c.args.ticks)

pub returns-in-Used-clause-cut : goal.returns-in-Used-clause-cut
returns-in-Used-clause-cut g c = rw c.in-Used.is (c.tell_used.ensures.cut c.args.prepared.now.items c.args.ticks)

pub returns-in-Trace-clause-obeyed : goal.returns-in-Trace-clause-obeyed
returns-in-Trace-clause-obeyed g c = rw c.in-Trace.is (c.tell_trace.ensures.obeyed c.args.prepared.now.items c.args.ticks)

pub returns-in-Trace-clause-cut : goal.returns-in-Trace-clause-cut
returns-in-Trace-clause-cut g c = rw c.in-Trace.is (c.tell_trace.ensures.cut c.args.prepared.now.items c.args.ticks)

pub returns-in-Check-clause-obeyed : goal.returns-in-Check-clause-obeyed
returns-in-Check-clause-obeyed g c = rw (c.in-Check.is, ← c.as_slice.ensures.same) (c.check.ensures.obeyed c.args.prepared.now.items c.args.ticks)

pub returns-in-Check-clause-cut : goal.returns-in-Check-clause-cut
returns-in-Check-clause-cut g c = rw (c.in-Check.is, ← c.as_slice.ensures.same) (c.check.ensures.cut c.args.prepared.now.items c.args.ticks)

pub returns-in-Declarations-clause-obeyed : goal.returns-in-Declarations-clause-obeyed
returns-in-Declarations-clause-obeyed g c = rw (c.in-Declarations.is, ← c.as_slice-in-Declarations.ensures.same) (c.list.ensures.obeyed c.args.prepared.now.items c.args.ticks)

pub returns-in-Declarations-clause-cut : goal.returns-in-Declarations-clause-cut
returns-in-Declarations-clause-cut g c = rw (c.in-Declarations.is, ← c.as_slice-in-Declarations.ensures.same) (c.list.ensures.cut c.args.prepared.now.items c.args.ticks)

pub returns-in-Prepare-clause-obeyed : goal.returns-in-Prepare-clause-obeyed
returns-in-Prepare-clause-obeyed g c = rw (c.in-Prepare.is, ← c.as_slice-in-Prepare.ensures.same, ← c.as_slice-in-Prepare-2.ensures.same) (c.prepare.ensures.obeyed c.args.ticks)

pub returns-in-Prepare-clause-cut : goal.returns-in-Prepare-clause-cut
returns-in-Prepare-clause-cut g c = rw (c.in-Prepare.is, ← c.as_slice-in-Prepare.ensures.same, ← c.as_slice-in-Prepare-2.ensures.same) (c.prepare.ensures.cut c.args.ticks)
