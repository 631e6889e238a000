use Rattle.std.proofs.Common.{◌≡◌, refl, length, ap, arith, None}
use Rattle.std.specs.FinMap as map
use Rattle.ang_heap.specs.Heaps.{objects_of}
use Rattle.ang_heap.specs.Stores.{world_of}
use Rattle.ang_meaning.specs.Perform.{new_object}
use Rattle.ang_heap.proofs.Storing.{moves_join, moves_made}
use Rattle.ang_vm_ask.proofs.Movings.{moves_heap}
use Rattle.ang_vm_ask.proofs.FieldOperations.{made, not_made, if_ok, on_err}
use Rattle.ang_vm_ask.proofs.fields.make.Goals as goal

pub returns-in-Ok-clause-told : goal.returns-in-Ok-clause-told
returns-in-Ok-clause-told g c = λ z home number e.
    made z home number c.args.class.now e (world_of (λ v. (g.dyn-1.0.entry v).1) c.args.store.now) c.in-Ok.number (objects_of c.make.new.self)
    (omega (arith, c.in-Some.ensures.held, ap length c.as_slice.ensures.same, c.requires.ready.kept.tallied))
    (if_ok c.make.result c.in-Ok.number (λ n. map.get (objects_of c.args.store.now.heap) n ≡ None) c.in-Ok.is c.make.ensures.free)
    (if_ok c.make.result c.in-Ok.number (λ n. objects_of c.make.new.self ≡ map.insert (objects_of c.args.store.now.heap) n (new_object c.args.class.now)) c.in-Ok.is c.make.ensures.made)

pub returns-in-Err-clause-told : goal.returns-in-Err-clause-told
returns-in-Err-clause-told g c = λ z home number e.
    not_made z home number c.args.class.now e (world_of (λ v. (g.dyn-1.0.entry v).1) c.args.store.now) (objects_of c.make.new.self) (on_err c.make.result _ _ c.in-Err.is c.make.ensures.unchanged)

pub returns-in_default-clause-told : goal.returns-in_default-clause-told
returns-in_default-clause-told g c = λ z home number e.
    not_made z home number c.args.class.now e (world_of (λ v. (g.dyn-1.0.entry v).1) c.args.store.now) (objects_of c.args.store.now.heap) refl

pub returns-in-Ok-clause-moves : goal.returns-in-Ok-clause-moves
returns-in-Ok-clause-moves g c = λ roles.
    let s = c.args.store.now in
    let h = c.make.new.self in
    let fields = ap length c.as_slice.ensures.same in
    moves_join _ roles s (record s { heap = h }) (record s { heap = h; made = c.in-Some.made; made_at = c.args.ticks })
    (moves_heap _ roles s h c.make.ensures.counted (λ n a b. omega (arith, c.make.ensures.grown, b, c.in-Some.ensures.held, fields)))
    (moves_made _ roles (record s { heap = h }) c.in-Some.made c.args.ticks c.in-Some.ensures.few)

pub returns-in-Err-clause-moves : goal.returns-in-Err-clause-moves
returns-in-Err-clause-moves g c = λ roles.
    let fields = ap length c.as_slice.ensures.same in
    moves_heap _ roles c.args.store.now c.make.new.self c.make.ensures.counted (λ n a b. omega (arith, c.make.ensures.grown, b, c.in-Some.ensures.held, fields))
