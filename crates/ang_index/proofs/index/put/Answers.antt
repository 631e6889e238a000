use Rattle.std.proofs.Common.{sym}
use Rattle.ang_index.proofs.Rows.{on_err, on_ok, present_puts, present_stays}
use Rattle.ang_index.proofs.index.put.Goals as goal

pub returns-in-Some-clause-pushed : goal.returns-in-Some-clause-pushed
returns-in-Some-clause-pushed g c =
    let a = c.args in
    let row = c.in-Some.row.now in
    let more = c.push.new.self in
    on_ok c.push.result
    (λ e. present_puts a.scope a.name.now a.rows.now.entries (c.get_mut.follows.lender more).entries row more a.item (sym c.in-Some.ensures.value) e (c.get_mut.follows.holds more).0)
    c.push.ensures.pushed

pub returns-in-Some-clause-unchanged : goal.returns-in-Some-clause-unchanged
returns-in-Some-clause-unchanged g c =
    let a = c.args in
    let row = c.in-Some.row.now in
    let same = c.push.new.self in
    on_err c.push.result
    (λ e. present_stays a.scope a.name.now a.rows.now.entries (c.get_mut.follows.lender same).entries row same (sym c.in-Some.ensures.value) e (c.get_mut.follows.holds same).0)
    c.push.ensures.unchanged
