use Rattle.std.proofs.Common.{◌≡◌, ◌+◌, Some, sym, ap, ◌∙◌, arith}
use Rattle.std.specs.Option.{option_copied}
use Rattle.slab.specs.Slab.{get}
use Rattle.ang_heap.proofs.Heaping.{raise_none, raise_done, value_updates, count_in_slab}
use Rattle.ang_meaning.specs.Slots.{slots_of}
use Rattle.ang_heap.specs.Heaps.{objects_in}
use Rattle.ang_meaning.proofs.Slots.{raised_slots}
use Rattle.ang_heap.proofs.heap.raise.Goals as goal

pub returns-in-None-clause-raised : goal.returns-in-None-clause-raised
returns-in-None-clause-raised c = raise_none _ _ (sym c.get.ensures ∙ ap option_copied c.in-None.is)

pub returns-then-count-lt18446744073709551615-clause-raised : goal.returns-then-count-lt18446744073709551615-clause-raised
returns-then-count-lt18446744073709551615-clause-raised c =
    let o = c.in-Some.o.now in
    let g : get c.args.records.now c.args.key ≡ Some o = sym c.get.ensures ∙ ap option_copied c.in-Some.is in
    raise_done c.args.records.now c.set_count.new.records c.args.key o g
    (value_updates c.args.records.now c.set_count.new.records c.args.key o (record o { count = o.count + 1 }) g (c.set_count.ensures.set o g))

pub returns-clause-full : goal.returns-clause-full
returns-clause-full c = λ e.
    let counted = count_in_slab c.args.records.now c.args.key c.in-Some.o.now (sym c.get.ensures ∙ ap option_copied c.in-Some.is) in
    omega (arith, counted, c.if-count-lt18446744073709551615.false)

pub returns-then-count-lt18446744073709551615-clause-slots : goal.returns-then-count-lt18446744073709551615-clause-slots
returns-then-count-lt18446744073709551615-clause-slots c =
    let o = c.in-Some.o.now in
    let g : get c.args.records.now c.args.key ≡ Some o = sym c.get.ensures ∙ ap option_copied c.in-Some.is in
    ap slots_of (raise_done c.args.records.now c.set_count.new.records c.args.key o g
    (value_updates c.args.records.now c.set_count.new.records c.args.key o (record o { count = o.count + 1 }) g (c.set_count.ensures.set o g)))
    ∙ raised_slots c.args.key (objects_in c.args.records.now)
