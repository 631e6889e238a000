use Rattle.std.proofs.Common.{◌≡◌, ◌+◌, ◌<◌, ◌≤◌, length, arith}
use Rattle.asrun_session.proofs.ReadBytes.{read_on, read_all, read_above, through_whole, through_above}
use Rattle.asrun_session.proofs.reading.read_text.Goals as goal

pub returns-then-branch-eq0-clause-read : goal.returns-then-branch-eq0-clause-read
returns-then-branch-eq0-clause-read g c =
    let on = read_on _ _ _ c.loop.text.items c.read_more.new.text.items c.in_ok-read_more.field-0 c.loop.invariant.1 c.in_ok-read_more.ensures.taken in
    (on.0, c.in_ok-read_more.ensures.end c.if-branch-eq0.true, omega (arith, on.1, c.loop.invariant.0, c.if-branch-eq0.true))

pub returns-then-branch-eq0-clause-text : goal.returns-then-branch-eq0-clause-text
returns-then-branch-eq0-clause-text g c =
    let on = read_on _ _ _ c.loop.text.items c.read_more.new.text.items c.in_ok-read_more.field-0 c.loop.invariant.1 c.in_ok-read_more.ensures.taken in
    let within : length c.read_more.new.text.items ≤ c.args.limit = omega (arith, on.1, c.loop.invariant.0, c.if-branch-eq0.true) in
    read_all _ _ c.read_more.new.text.items c.args.limit on.0 (c.in_ok-read_more.ensures.end c.if-branch-eq0.true) within

pub returns-then-branch-eq0-clause-through : goal.returns-then-branch-eq0-clause-through
returns-then-branch-eq0-clause-through g c =
    let on = read_on _ _ _ c.loop.text.items c.read_more.new.text.items c.in_ok-read_more.field-0 c.loop.invariant.1 c.in_ok-read_more.ensures.taken in
    let within : length c.read_more.new.text.items ≤ c.args.limit = omega (arith, on.1, c.loop.invariant.0, c.if-branch-eq0.true) in
    through_whole _ _ c.read_more.new.text.items c.args.limit on.0 (c.in_ok-read_more.ensures.end c.if-branch-eq0.true) within

pub returns-then-limit-len-clause-read : goal.returns-then-limit-len-clause-read
returns-then-limit-len-clause-read g c =
    let on = read_on _ _ _ c.loop.text.items c.read_more.new.text.items c.in_ok-read_more.field-0 c.loop.invariant.1 c.in_ok-read_more.ensures.taken in
    (c.read_more.new.text.items, on.0, omega (arith, on.1, c.loop.invariant.0, c.in_ok-read_more.ensures.few, c.if-limit-len.true))

pub returns-then-limit-len-clause-text : goal.returns-then-limit-len-clause-text
returns-then-limit-len-clause-text g c =
    let on = read_on _ _ _ c.loop.text.items c.read_more.new.text.items c.in_ok-read_more.field-0 c.loop.invariant.1 c.in_ok-read_more.ensures.taken in
    let above : c.args.limit < length c.read_more.new.text.items = omega (arith, c.if-limit-len.true) in
    read_above _ _ c.read_more.new.text.items c.args.limit on.0 above

pub returns-then-limit-len-clause-through : goal.returns-then-limit-len-clause-through
returns-then-limit-len-clause-through g c =
    let on = read_on _ _ _ c.loop.text.items c.read_more.new.text.items c.in_ok-read_more.field-0 c.loop.invariant.1 c.in_ok-read_more.ensures.taken in
    let above : length c.read_more.new.text.items ≡ c.args.limit + 1 = omega (arith, on.1, c.loop.invariant.0, c.in_ok-read_more.ensures.few, c.if-limit-len.true) in
    through_above _ _ c.read_more.new.text.items c.args.limit on.0 above

pub loop-preserved : goal.loop-preserved
loop-preserved g c =
    let on = read_on _ _ _ c.loop.text.items c.read_more.new.text.items c.in_ok-read_more.field-0 c.loop.invariant.1 c.in_ok-read_more.ensures.taken in
    (omega (arith, c.if-limit-len.false), on.0)
