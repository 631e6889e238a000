use Rattle.std.proofs.Common.{◌≤◌, length, arith}
use Rattle.ang_heap.specs.Stores.{world_of}
use Rattle.ang_heap.proofs.Storing.{moves_none}
use Rattle.ang_vm_stack.specs.Stacks.{values}
use Rattle.ang_vm_steps.proofs.Parts.{load_outside, load_full, load_held, load_refused}
use Rattle.ang_vm_steps.proofs.Placed.{key_at, there_at, refused_counted}
use Rattle.ang_vm_steps.proofs.arms.load.Goals as goal

pub returns-then-place-top-clause-acts : goal.returns-then-place-top-clause-acts
returns-then-place-top-clause-acts g c =
    let deep : c.args.top ≤ length c.args.stack.now = omega (arith, c.requires.in_room, c.requires.within) in
    let w = world_of (λ v. (g.dyn-1.0.entry v).1) c.args.store.now in
    λ z code. load_outside z code c.args.room c.args.top c.args.stack.now _ w w deep c.args.place c.if-place-top.true

pub returns-then-place-top-clause-moves : goal.returns-then-place-top-clause-moves
returns-then-place-top-clause-moves g c = λ roles. moves_none _ roles _

pub returns-then-top-room-clause-acts : goal.returns-then-top-room-clause-acts
returns-then-top-room-clause-acts g c =
    let deep : c.args.top ≤ length c.args.stack.now = omega (arith, c.requires.in_room, c.requires.within) in
    let w = world_of (λ v. (g.dyn-1.0.entry v).1) c.args.store.now in
    λ z code. load_full z code c.args.room c.args.top c.args.stack.now _ w w deep c.args.place (omega arith) c.if-top-room.true

pub returns-then-top-room-clause-moves : goal.returns-then-top-room-clause-moves
returns-then-top-room-clause-moves g c = λ roles. moves_none _ roles _

pub hold-requires : goal.hold-requires
hold-requires g c =
    record { there = key_at (values c.args.stack.now c.args.top) c.args.place c.peek-local.result (world_of (λ v. (g.dyn-1.0.entry v).1) c.args.store.now) c.peek-local.ensures.exact c.requires.counted }

pub returns-then-not-hold-clause-acts : goal.returns-then-not-hold-clause-acts
returns-then-not-hold-clause-acts g c =
    let deep : c.args.top ≤ length c.args.stack.now = omega (arith, c.requires.in_room, c.requires.within) in
    let w = world_of (λ v. (g.dyn-1.0.entry v).1) c.args.store.now in
    let u = world_of (λ v. (g.dyn-1.0.entry v).1) c.hold.new.store in
    λ z code. load_refused z code c.args.room c.args.top c.args.stack.now c.args.stack.now w u deep c.args.place (omega arith) (omega arith) c.peek-local.result c.hold.result c.peek-local.ensures.exact c.hold.ensures.told c.if-not-hold.true (λ p. refused_counted c.peek-local.result (values c.args.stack.now c.args.top) c.hold.result w u c.if-not-hold.true (there_at (values c.args.stack.now c.args.top) c.args.place c.peek-local.result w c.peek-local.ensures.exact p) c.hold.ensures.told p)

pub returns-then-not-hold-clause-moves : goal.returns-then-not-hold-clause-moves
returns-then-not-hold-clause-moves g c = c.hold.ensures.moves

pub returns-clause-acts : goal.returns-clause-acts
returns-clause-acts g c =
    let deep : c.args.top ≤ length c.args.stack.now = omega (arith, c.requires.in_room, c.requires.within) in
    let w = world_of (λ v. (g.dyn-1.0.entry v).1) c.args.store.now in
    let u = world_of (λ v. (g.dyn-1.0.entry v).1) c.hold.new.store in
    λ z code. load_held z code c.args.room c.args.top c.args.stack.now _ w u deep c.args.place (omega arith) (omega arith) c.peek-local.result c.hold.result c.peek-local.ensures.exact c.hold.ensures.told c.if-not-hold.false c.push.ensures.pushed

pub returns-clause-moves : goal.returns-clause-moves
returns-clause-moves g c = c.hold.ensures.moves
