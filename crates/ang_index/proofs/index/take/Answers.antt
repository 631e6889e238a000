use Rattle.std.proofs.Common.{sym}
use Rattle.ang_index.proofs.Rows.{if_some, if_none, present_takes, present_none, present_stays, absent_none}
use Rattle.ang_index.proofs.index.take.Goals as goal

pub returns-in-Some-clause-popped : goal.returns-in-Some-clause-popped
returns-in-Some-clause-popped g c =
    let a = c.args in
    let row = c.in-Some.row.now in
    let less = c.pop.new.self in
    if_some c.pop.result
    (λ x e. present_takes a.scope a.name.now a.rows.now.entries (c.get_mut.follows.lender less).entries row less x (sym c.in-Some.ensures.value) e (c.get_mut.follows.holds less).0)
    c.pop.ensures.popped

pub returns-in-Some-clause-none : goal.returns-in-Some-clause-none
returns-in-Some-clause-none g c =
    let a = c.args in
    if_none c.pop.result
    (λ e. present_none a.scope a.name.now a.rows.now.entries c.in-Some.row.now (sym c.in-Some.ensures.value) e)
    c.pop.ensures.none

pub returns-in-Some-clause-unchanged : goal.returns-in-Some-clause-unchanged
returns-in-Some-clause-unchanged g c =
    let a = c.args in
    let row = c.in-Some.row.now in
    let same = c.pop.new.self in
    if_none c.pop.result
    (λ e. present_stays a.scope a.name.now a.rows.now.entries (c.get_mut.follows.lender same).entries row same (sym c.in-Some.ensures.value) e (c.get_mut.follows.holds same).0)
    c.pop.ensures.unchanged

pub returns-clause-none : goal.returns-clause-none
returns-clause-none g c =
    let a = c.args in
    absent_none a.scope a.name.now a.rows.now.entries (sym c.in_default.ensures.value)
