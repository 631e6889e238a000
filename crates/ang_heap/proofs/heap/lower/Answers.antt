use Rattle.std.proofs.Common.{◌≡◌, ◌-◌, Some, sym, ap, ◌∙◌, arith}
use Rattle.std.specs.Option.{option_copied}
use Rattle.slab.specs.Slab.{get}
use Rattle.ang_heap.proofs.Heaping.{lower_none, lower_kept, lower_gone_some, value_updates, value_length}
use Rattle.ang_heap.proofs.heap.lower.Goals as goal

pub returns-in-None-clause-kept : goal.returns-in-None-clause-kept
returns-in-None-clause-kept c = lower_none _ _ (sym c.get.ensures ∙ ap option_copied c.in-None.is)

pub returns-then-count-gt1-clause-kept : goal.returns-then-count-gt1-clause-kept
returns-then-count-gt1-clause-kept c =
    let o = c.in-Some.o.now in
    let g : get c.args.records.now c.args.key ≡ Some o = sym c.get.ensures ∙ ap option_copied c.in-Some.is in
    lower_kept c.args.records.now c.set_count.new.records c.args.key o g (omega (arith, c.if-count-gt1.true))
    (value_updates c.args.records.now c.set_count.new.records c.args.key o (record o { count = o.count - 1 }) g (c.set_count.ensures.set o g))

pub returns-then-count-gt1-clause-same_length : goal.returns-then-count-gt1-clause-same_length
returns-then-count-gt1-clause-same_length c =
    let o = c.in-Some.o.now in
    let g : get c.args.records.now c.args.key ≡ Some o = sym c.get.ensures ∙ ap option_copied c.in-Some.is in
    value_length c.args.records.now c.set_count.new.records c.args.key o (record o { count = o.count - 1 }) g (c.set_count.ensures.set o g)

pub returns-clause-gone : goal.returns-clause-gone
returns-clause-gone c =
    let o = c.in-Some.o.now in
    let g : get c.args.records.now c.args.key ≡ Some o = sym c.get.ensures ∙ ap option_copied c.in-Some.is in
    lower_gone_some c.args.records.now c.try_remove.new.self c.args.key o c.try_remove.result g (omega (arith, c.if-count-gt1.false)) c.try_remove.ensures.value c.try_remove.ensures.updates
