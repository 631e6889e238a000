use Rattle.std.proofs.Common.{◌≡◌, ◌-◌, Some, sym, refl, arith}
use Rattle.slab.specs.Slab.{get, with_value}
use Rattle.ang_heap.proofs.Heaping.{lower_kept, value_updates, count_in_slab, count_nowhere}
use Rattle.ang_heap.specs.Heaps.{objects_in}
use Rattle.ang_meaning.proofs.Slots.{kept_slots}
use Rattle.ang_heap.proofs.heap.lower_shared.Goals as goal

pub returns-then-o-gt1-clause-lowered : goal.returns-then-o-gt1-clause-lowered
returns-then-o-gt1-clause-lowered c = λ t.
    let s = c.args.records.now in
    let k = c.args.key in
    let o = c.in-Some.o.now in
    let less = record o { count = o.count - 1 } in
    let g : get s k ≡ Some o = sym c.in-Some.ensures.value in
    lower_kept s (with_value s k less) k o g (omega (arith, c.if-o-gt1.true)) (value_updates s (with_value s k less) k o less g refl)

pub returns-else-o-gt1-clause-last : goal.returns-else-o-gt1-clause-last
returns-else-o-gt1-clause-last c = λ e.
    let counted = count_in_slab c.args.records.now c.args.key c.in-Some.o.now (sym c.in-Some.ensures.value) in
    omega (arith, counted, c.if-o-gt1.false)

pub returns-in_default-clause-last : goal.returns-in_default-clause-last
returns-in_default-clause-last c = λ e.
    let counted = count_nowhere c.args.records.now c.args.key (sym c.in_default.ensures.value) in
    omega (arith, counted)

pub returns-then-o-gt1-clause-slots : goal.returns-then-o-gt1-clause-slots
returns-then-o-gt1-clause-slots c =
    let s = c.args.records.now in
    let k = c.args.key in
    let o = c.in-Some.o.now in
    let less = record o { count = o.count - 1 } in
    let g : get s k ≡ Some o = sym c.in-Some.ensures.value in
    kept_slots k (objects_in s) (objects_in (with_value s k less))
    (lower_kept s (with_value s k less) k o g (omega (arith, c.if-o-gt1.true)) (value_updates s (with_value s k less) k o less g refl))
