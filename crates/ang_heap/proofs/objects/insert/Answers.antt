use Rattle.std.proofs.Common.{ap}
use Rattle.ang_heap.proofs.Heaping.{object_new, place_free, same_objects, on_err}
use Rattle.ang_heap.proofs.objects.insert.Goals as goal

pub returns-clause-free : goal.returns-clause-free
returns-clause-free c = place_free c.args.records.now c.reserve.new.self c.insert_reserved.result (ap (λ s. s.slots) c.reserve.ensures.rest_kept) c.insert_reserved.ensures.was_vacant

pub returns-clause-made : goal.returns-clause-made
returns-clause-made c = object_new c.args.records.now c.reserve.new.self c.insert_reserved.new.self c.insert_reserved.result c.args.object (ap (λ s. s.slots) c.reserve.ensures.rest_kept) c.insert_reserved.ensures.updates

pub returns-in_err-reserve-clause-unchanged : goal.returns-in_err-reserve-clause-unchanged
returns-in_err-reserve-clause-unchanged c = on_err c.from_residual.result (same_objects c.args.records.now c.reserve.new.self (ap (λ s. s.slots) c.reserve.ensures.rest_kept))
