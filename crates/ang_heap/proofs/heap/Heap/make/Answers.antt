use Rattle.std.proofs.Common.{length, ap, arith}
use Rattle.std.proofs.lemmas.List.{length-map}
use Rattle.ang_meaning.specs.World.{ScriptRecord}
use Rattle.ang_meaning.specs.Environment.{default_of}
use Rattle.ang_heap.specs.Heaps.{objects_of, record_of}
use Rattle.ang_meaning.specs.Slots.{slots_of}
use Rattle.ang_meaning.proofs.Slots.{made_slots}
use Rattle.ang_heap.proofs.heap.Heap.make.Goals as goal

pub returns-clause-counted : goal.returns-clause-counted
returns-clause-counted c = λ e.
    let o = record_of c.new_record.result in
    let put = made_slots (objects_of c.args.self.now) c.in_ok-number.number o c.in_ok-number.ensures.free in
    let us = ap slots_of c.in_ok-number.ensures.made in
    let fields = ap length c.in_ok-fields.ensures.exact in
    let long = length-map c.as_slice-kinds.result.now default_of in
    let made = ap (λ (r : ScriptRecord). length r.fields) c.new_record.ensures.exact in
    omega (arith, e, put, us, fields, long, made)
