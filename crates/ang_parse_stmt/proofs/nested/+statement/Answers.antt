use Rattle.std.proofs.lemmas.Result.{err_from_is_err_and}
use Rattle.ang_parse_read.proofs.Turns.{fails, ends_at, goes_on_at, runs_out}
use Rattle.ang_parse_stmt.specs.ReadStmt.{statements}
use Rattle.ang_parse_stmt.proofs.nested.+statement.Goals as goal

pub statements-returns-in_err-longer : goal.statements-returns-in_err-longer
unfolding statements
statements-returns-in_err-longer t c =
    record {
      reads =
          let p = err_from_is_err_and c.from_residual.result c.from_residual.ensures.1 in
          rw (p.1, p.2) (fails _ _ _ _ _ _ _ c.loop-test.true c.in_err-longer.ensures.reads c.loop.invariant);
    }

pub statements-returns-then-not-goes_on : goal.statements-returns-then-not-goes_on
unfolding statements
statements-returns-then-not-goes_on t c = record { reads = ends_at _ _ _ _ _ c.in_ok-longer.goes_on _ _ _ c.loop-test.true c.in_ok-longer.ensures.reads c.if-not-goes_on.true c.loop.invariant }

pub statements-loop-preserved : goal.statements-loop-preserved
statements-loop-preserved t c = goes_on_at _ _ _ _ _ c.in_ok-longer.goes_on _ _ _ c.loop-test.true c.in_ok-longer.ensures.reads c.if-not-goes_on.false c.loop.invariant

pub statements-returns : goal.statements-returns
unfolding statements
statements-returns t c = record { reads = runs_out _ _ _ _ _ _ c.loop-test.false c.loop.invariant }
