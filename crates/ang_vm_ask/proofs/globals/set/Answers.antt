use Rattle.std.proofs.Common.{[], ◌∷◌}
use Rattle.ang_heap.specs.Stores.{world_of}
use Rattle.ang_heap.proofs.Storing.{moves_join}
use Rattle.ang_vm_ask.proofs.ObjectOperands.{first_known, first_gives, held_stand, stored_stand}
use Rattle.ang_vm_ask.proofs.StoreOperations.{stored, not_stored}
use Rattle.ang_vm_ask.proofs.globals.set.Goals as goal

pub hold-requires : goal.hold-requires
hold-requires g c = record { there = (first_known c.args.value [] (world_of (λ v. (g.dyn-1.0.entry v).1) c.args.store.now) c.requires.counted).1 }

pub returns-then-not-hold-clause-told : goal.returns-then-not-hold-clause-told
returns-then-not-hold-clause-told g c =
    let w = world_of (λ v. (g.dyn-1.0.entry v).1) c.args.store.now in
    let u = world_of (λ v. (g.dyn-1.0.entry v).1) c.hold.new.store in
    λ z. not_stored z c.args.home c.args.number w u c.args.value c.hold.result c.hold.ensures.told c.if-not-hold.true

pub trade_global-old-requires : goal.trade_global-old-requires
trade_global-old-requires g c = record { ready = (c.hold.ensures.moves []).ready c.requires.ready }

pub give-requires-clause-ready : goal.give-requires-clause-ready
give-requires-clause-ready g c = (c.trade_global-old.ensures.moves []).ready ((c.hold.ensures.moves []).ready c.requires.ready)

pub give-requires-clause-enough : goal.give-requires-clause-enough
give-requires-clause-enough g c =
    let w = world_of (λ v. (g.dyn-1.0.entry v).1) c.args.store.now in
    let u = world_of (λ v. (g.dyn-1.0.entry v).1) c.hold.new.store in
    let x = world_of (λ v. (g.dyn-1.0.entry v).1) c.trade_global-old.new.store in
    let v = c.args.value in
    let old = c.trade_global-old.result in
    let twice = held_stand v c.hold.result w u c.if-not-hold.false c.hold.ensures.told (v ∷ []) ((first_known v [] w c.requires.counted).0) c.requires.counted in
    first_gives old (v ∷ []) x (stored_stand c.args.home c.args.number v old (v ∷ []) u x c.trade_global-old.ensures.old (c.trade_global-old.ensures.put []) twice)

pub returns-clause-told : goal.returns-clause-told
returns-clause-told g c =
    let w = world_of (λ v. (g.dyn-1.0.entry v).1) c.args.store.now in
    let u = world_of (λ v. (g.dyn-1.0.entry v).1) c.hold.new.store in
    let x = world_of (λ v. (g.dyn-1.0.entry v).1) c.trade_global-old.new.store in
    let y = world_of (λ v. (g.dyn-1.0.entry v).1) c.give.new.store in
    λ z. stored z c.args.home c.args.number w u c.args.value c.hold.result c.hold.ensures.told c.trade_global-old.result x y c.if-not-hold.false c.trade_global-old.ensures.old c.trade_global-old.ensures.put c.give.ensures.given

pub returns-clause-moves : goal.returns-clause-moves
returns-clause-moves g c = λ roles.
    moves_join _ roles c.args.store.now c.trade_global-old.new.store c.give.new.store
    (moves_join _ roles c.args.store.now c.hold.new.store c.trade_global-old.new.store (c.hold.ensures.moves roles) (c.trade_global-old.ensures.moves roles)) (c.give.ensures.moves roles)
