use Rattle.std.proofs.lemmas.Result.{err_from_is_err_and}
use Rattle.ang_parse_read.proofs.Turns.{fails, ends_at, goes_on_at, runs_out}
use Rattle.ang_parse_expr.proofs.expr.+expression.Goals as goal

pub operations-returns-in_err-longer : goal.operations-returns-in_err-longer
operations-returns-in_err-longer t c =
    record {
      reads =
          let p = err_from_is_err_and c.from_residual.result c.from_residual.ensures.1 in
          rw (p.1, p.2) (fails _ _ _ _ _ _ _ c.loop-test.true c.in_err-longer.ensures.reads c.loop.invariant);
    }

pub operations-returns-then-not-goes_on : goal.operations-returns-then-not-goes_on
operations-returns-then-not-goes_on t c = record { reads = ends_at _ _ _ _ _ c.in_ok-longer.goes_on _ _ _ c.loop-test.true c.in_ok-longer.ensures.reads c.if-not-goes_on.true c.loop.invariant }

pub operations-loop-preserved : goal.operations-loop-preserved
operations-loop-preserved t c = goes_on_at _ _ _ _ _ c.in_ok-longer.goes_on _ _ _ c.loop-test.true c.in_ok-longer.ensures.reads c.if-not-goes_on.false c.loop.invariant

pub operations-returns : goal.operations-returns
operations-returns t c = record { reads = runs_out _ _ _ _ _ _ c.loop-test.false c.loop.invariant }

pub suffixes-returns-in_err-longer : goal.suffixes-returns-in_err-longer
suffixes-returns-in_err-longer t c =
    record {
      reads =
          let p = err_from_is_err_and c.from_residual.result c.from_residual.ensures.1 in
          rw (p.1, p.2) (fails _ _ _ _ _ _ _ c.loop-test.true c.in_err-longer.ensures.reads c.loop.invariant);
    }

pub suffixes-returns-then-not-goes_on : goal.suffixes-returns-then-not-goes_on
suffixes-returns-then-not-goes_on t c = record { reads = ends_at _ _ _ _ _ c.in_ok-longer.goes_on _ _ _ c.loop-test.true c.in_ok-longer.ensures.reads c.if-not-goes_on.true c.loop.invariant }

pub suffixes-loop-preserved : goal.suffixes-loop-preserved
suffixes-loop-preserved t c = goes_on_at _ _ _ _ _ c.in_ok-longer.goes_on _ _ _ c.loop-test.true c.in_ok-longer.ensures.reads c.if-not-goes_on.false c.loop.invariant

pub suffixes-returns : goal.suffixes-returns
suffixes-returns t c = record { reads = runs_out _ _ _ _ _ _ c.loop-test.false c.loop.invariant }

pub other_expressions-returns-in_err-longer : goal.other_expressions-returns-in_err-longer
other_expressions-returns-in_err-longer t c =
    record {
      reads =
          let p = err_from_is_err_and c.from_residual.result c.from_residual.ensures.1 in
          rw (p.1, p.2) (fails _ _ _ _ _ _ _ c.loop-test.true c.in_err-longer.ensures.reads c.loop.invariant);
    }

pub other_expressions-returns-then-not-goes_on : goal.other_expressions-returns-then-not-goes_on
other_expressions-returns-then-not-goes_on t c = record { reads = ends_at _ _ _ _ _ c.in_ok-longer.goes_on _ _ _ c.loop-test.true c.in_ok-longer.ensures.reads c.if-not-goes_on.true c.loop.invariant }

pub other_expressions-loop-preserved : goal.other_expressions-loop-preserved
other_expressions-loop-preserved t c = goes_on_at _ _ _ _ _ c.in_ok-longer.goes_on _ _ _ c.loop-test.true c.in_ok-longer.ensures.reads c.if-not-goes_on.false c.loop.invariant

pub other_expressions-returns : goal.other_expressions-returns
other_expressions-returns t c = record { reads = runs_out _ _ _ _ _ _ c.loop-test.false c.loop.invariant }
