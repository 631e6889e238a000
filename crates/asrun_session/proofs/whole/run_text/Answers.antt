use Rattle.std.proofs.lemmas.Result.{err_from_is_err_and}
use Rattle.ang_engine.specs.Engines.{list_in, drivers_in}
use Rattle.asrun_session.proofs.Taking.{runs_long, stops_long, stops_unread, runs_lines, stops_lines}
use Rattle.asrun_session.proofs.whole.run_text.Goals as goal

pub returns-in_err-text-clause-cut : goal.returns-in_err-text-clause-cut
returns-in_err-text-clause-cut g c =
    let p = err_from_is_err_and c.from_residual.result c.from_residual.ensures.1 in
    rw p.1 (stops_unread (λ v. (g.dyn-1.0.entry v).1) (list_in c.args.engine.now) _ (drivers_in c.args.engine.now)
    (g.W.Write.contents c.args.writer.now) (g.R.Read.remaining c.args.reader.now) c.args.budget)

pub returns-in_ok-write_text-in-TooLong-clause-done : goal.returns-in_ok-write_text-in-TooLong-clause-done
returns-in_ok-write_text-in-TooLong-clause-done g c =
    runs_long (λ v. (g.dyn-1.0.entry v).1) (list_in c.args.engine.now) _ (drivers_in c.args.engine.now) (g.W.Write.contents c.args.writer.now)
    (g.W.Write.contents c.write_text.new.writer) (g.R.Read.remaining c.args.reader.now) c.args.budget (rw c.in-TooLong.is at c.in_ok-text.ensures.text)
    c.in_ok-write_text-in-TooLong.ensures.whole

pub returns-in_err-write_text-in-TooLong-clause-cut :
    goal.returns-in_err-write_text-in-TooLong-clause-cut
returns-in_err-write_text-in-TooLong-clause-cut g c =
    let p = err_from_is_err_and c.from_residual-in_err-write_text-in-TooLong.result c.from_residual-in_err-write_text-in-TooLong.ensures.1 in
    rw p.1 (stops_long (λ v. (g.dyn-1.0.entry v).1) (list_in c.args.engine.now) _ (drivers_in c.args.engine.now) (g.W.Write.contents c.args.writer.now)
    (g.W.Write.contents c.write_text.new.writer) (g.R.Read.remaining c.args.reader.now) c.args.budget (rw c.in-TooLong.is at c.in_ok-text.ensures.text)
    c.in_err-write_text-in-TooLong.ensures.front)

pub returns-in-Whole-clause-done : goal.returns-in-Whole-clause-done
returns-in-Whole-clause-done g c =
    runs_lines (λ v. (g.dyn-1.0.entry v).1) (list_in c.args.engine.now) _ (drivers_in c.args.engine.now) _ (g.W.Write.contents c.args.writer.now)
    (g.W.Write.contents c.run_session.new.writer) (g.R.Read.remaining c.args.reader.now) c.in-Whole.text.items c.args.budget c.run_session.result _
    (rw c.in-Whole.is at c.in_ok-text.ensures.text) (rw c.deref.ensures.value at c.run_session.ensures.done)

pub returns-in-Whole-clause-cut : goal.returns-in-Whole-clause-cut
returns-in-Whole-clause-cut g c =
    stops_lines (λ v. (g.dyn-1.0.entry v).1) (list_in c.args.engine.now) _ (drivers_in c.args.engine.now) _ (g.W.Write.contents c.args.writer.now)
    (g.W.Write.contents c.run_session.new.writer) (g.R.Read.remaining c.args.reader.now) c.in-Whole.text.items c.args.budget c.run_session.result _
    (rw c.in-Whole.is at c.in_ok-text.ensures.text) (rw c.deref.ensures.value at c.run_session.ensures.cut)
