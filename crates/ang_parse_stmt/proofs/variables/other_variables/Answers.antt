use Rattle.std.proofs.lemmas.Result.{err_from_is_err_and}
use Rattle.ang_parse_read.proofs.Turns.{fails, ends_at, goes_on_at, runs_out}
use Rattle.ang_parse_stmt.proofs.variables.other_variables.Goals as goal

pub returns-in_err-longer : goal.returns-in_err-longer
returns-in_err-longer c =
    record {
      reads =
          let p = err_from_is_err_and c.from_residual.result c.from_residual.ensures.1 in
          rw (p.1, p.2) (fails _ _ _ _ _ _ _ c.loop-test.true c.in_err-longer.ensures.reads c.loop.invariant);
    }

pub returns-then-not-goes_on : goal.returns-then-not-goes_on
returns-then-not-goes_on c = record { reads = ends_at _ _ _ _ _ c.in_ok-longer.goes_on _ _ _ c.loop-test.true c.in_ok-longer.ensures.reads c.if-not-goes_on.true c.loop.invariant }

pub loop-preserved : goal.loop-preserved
loop-preserved c = goes_on_at _ _ _ _ _ c.in_ok-longer.goes_on _ _ _ c.loop-test.true c.in_ok-longer.ensures.reads c.if-not-goes_on.false c.loop.invariant

pub returns : goal.returns
returns c = record { reads = runs_out _ _ _ _ _ _ c.loop-test.false c.loop.invariant }
