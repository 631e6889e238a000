use Rattle.std.proofs.Common.{[], ◌∷◌}
use Rattle.ang_heap.specs.Stores.{world_of}
use Rattle.ang_heap.proofs.Storing.{moves_join}
use Rattle.ang_vm_ask.proofs.ObjectOperands.{first_gives, given_stand}
use Rattle.ang_vm_ask.proofs.StoreOperations.{compared_same}
use Rattle.ang_vm_ask.proofs.handles.compare_handles.Goals as goal

pub give-requires-clause-enough : goal.give-requires-clause-enough
give-requires-clause-enough g c = first_gives c.args.second (c.args.first ∷ []) (world_of (λ v. (g.dyn-1.0.entry v).1) c.args.store.now) c.requires.counted

pub give-requires-2-clause-ready : goal.give-requires-2-clause-ready
give-requires-2-clause-ready g c = (c.give.ensures.moves []).ready c.requires.ready

pub give-requires-2-clause-enough : goal.give-requires-2-clause-enough
give-requires-2-clause-enough g c =
    let w = world_of (λ v. (g.dyn-1.0.entry v).1) c.args.store.now in
    let u = world_of (λ v. (g.dyn-1.0.entry v).1) c.give.new.store in
    first_gives c.args.first [] u (given_stand c.args.second (c.args.first ∷ []) w u (c.give.ensures.given []) c.requires.counted)

pub returns-clause-told : goal.returns-clause-told
returns-clause-told g c =
    let w = world_of (λ v. (g.dyn-1.0.entry v).1) c.args.store.now in
    let u = world_of (λ v. (g.dyn-1.0.entry v).1) c.give.new.store in
    let x = world_of (λ v. (g.dyn-1.0.entry v).1) c.give-2.new.store in
    λ z home. compared_same z home c.args.first c.args.second c.same-answer.result w u x c.same-answer.ensures.exact c.give.ensures.given c.give-2.ensures.given

pub returns-clause-moves : goal.returns-clause-moves
returns-clause-moves g c = λ roles. moves_join _ roles c.args.store.now c.give.new.store c.give-2.new.store (c.give.ensures.moves roles) (c.give-2.ensures.moves roles)
