use Rattle.std.proofs.Common.{refl}
use Rattle.std.proofs.lemmas.Result.{err_from_is_err_and}
use Rattle.asremote.proofs.Turning.{told, half_told, all_told}
use Rattle.asremote.proofs.turns.one_turn.Goals as goal

pub returns-in_err-ok-clause-cut : goal.returns-in_err-ok-clause-cut
returns-in_err-ok-clause-cut g c =
    let p = err_from_is_err_and c.from_residual.result c.from_residual.ensures.1 in
    rw p.1 c.in_err-ok.ensures.cut

pub returns-in_err-print_done-in-Done-clause-cut : goal.returns-in_err-print_done-in-Done-clause-cut
returns-in_err-print_done-in-Done-clause-cut g c =
    let p = err_from_is_err_and c.from_residual-in_err-print_done-in-Done.result c.from_residual-in_err-print_done-in-Done.ensures.1 in
    rw p.1
    (half_told (λ v. (g.dyn-1.0.entry v).1) c.args.engine.now c.take_turn.new.engine c.args.prepared.now.items c.take_turn.new.prepared.items (g.W.Write.contents c.args.writer.now) (g.W.Write.contents c.take_turn.new.writer) c.args.number c.args.ticks c.args.text.now
    c.in-Done.ok c.in-Done.ticks c.in-Done.lines (rw c.in-Done.is at c.in_ok-ok.ensures.turned) (g.W.Write.contents c.print_done.new.writer) c.in_err-print_done-in-Done.ensures.front)

pub returns-in_err-number-in-Done-clause-cut : goal.returns-in_err-number-in-Done-clause-cut
returns-in_err-number-in-Done-clause-cut g c =
    let p = err_from_is_err_and c.from_residual-in_err-number-in-Done.result c.from_residual-in_err-number-in-Done.ensures.1 in
    rw p.1
    (all_told (λ v. (g.dyn-1.0.entry v).1) c.args.engine.now c.take_turn.new.engine c.args.prepared.now.items c.take_turn.new.prepared.items (g.W.Write.contents c.args.writer.now) (g.W.Write.contents c.take_turn.new.writer) c.args.number c.args.ticks c.args.text.now
    c.in-Done.ok c.in-Done.ticks c.in-Done.lines (rw c.in-Done.is at c.in_ok-ok.ensures.turned) (g.W.Write.contents c.print_done.new.writer) c.in_ok-print_done-in-Done.ensures.told)

pub returns-in_ok-number-in-Done-clause-turned : goal.returns-in_ok-number-in-Done-clause-turned
returns-in_ok-number-in-Done-clause-turned g c =
    told (λ v. (g.dyn-1.0.entry v).1) c.args.engine.now c.take_turn.new.engine c.args.prepared.now.items c.take_turn.new.prepared.items (g.W.Write.contents c.args.writer.now) (g.W.Write.contents c.take_turn.new.writer) c.args.number c.args.ticks c.args.text.now
    c.in-Done.ok c.in-Done.ticks c.in-Done.lines (rw c.in-Done.is at c.in_ok-ok.ensures.turned) (g.W.Write.contents c.print_done.new.writer) _ refl refl c.in_ok-number-in-Done.ensures.exact c.in_ok-print_done-in-Done.ensures.told

pub returns-in-Bad-clause-turned : goal.returns-in-Bad-clause-turned
returns-in-Bad-clause-turned g c = rw c.in-Bad.is at c.in_ok-ok.ensures.turned
