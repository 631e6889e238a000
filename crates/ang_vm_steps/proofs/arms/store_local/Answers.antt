use Rattle.std.proofs.Common.{◌≤◌, ◌<◌, ◌+◌, ◌-◌, length, arith, []}
use Rattle.ang_meaning.proofs.Telling.{told_same}
use Rattle.ang_heap.specs.Stores.{world_of}
use Rattle.ang_heap.proofs.Storing.{moves_none, moves_join}
use Rattle.ang_vm_stack.specs.Stacks.{values}
use Rattle.ang_vm_steps.proofs.Parts.{store_outside, store_held, store_refused}
use Rattle.ang_vm_steps.proofs.Placed.{key_at, there_at, held_counted, refused_counted, stored_can}
use Rattle.ang_vm_steps.proofs.arms.store_local.Goals as goal

pub returns-then-place-saturating_sub-clause-acts : goal.returns-then-place-saturating_sub-clause-acts
returns-then-place-saturating_sub-clause-acts g c =
    let deep : c.args.top ≤ length c.args.stack.now = omega (arith, c.requires.in_room, c.requires.within) in
    let w = world_of (λ v. (g.dyn-1.0.entry v).1) c.args.store.now in
    λ z code. store_outside z code c.args.room c.args.top c.args.stack.now _ w w deep c.args.place (omega (arith, c.saturating_sub.ensures))

pub returns-then-place-saturating_sub-clause-moves : goal.returns-then-place-saturating_sub-clause-moves
returns-then-place-saturating_sub-clause-moves g c = λ roles. moves_none _ roles _

pub hold-requires : goal.hold-requires
hold-requires g c =
    record { there = key_at (values c.args.stack.now c.args.top) 0 c.peek-value.result (world_of (λ v. (g.dyn-1.0.entry v).1) c.args.store.now) c.peek-value.ensures.exact c.requires.counted }

pub returns-then-not-hold-clause-acts : goal.returns-then-not-hold-clause-acts
returns-then-not-hold-clause-acts g c =
    let deep : c.args.top ≤ length c.args.stack.now = omega (arith, c.requires.in_room, c.requires.within) in
    let w = world_of (λ v. (g.dyn-1.0.entry v).1) c.args.store.now in
    let u = world_of (λ v. (g.dyn-1.0.entry v).1) c.hold.new.store in
    let near : c.args.place < c.args.top - 1 = omega (arith, c.saturating_sub.ensures) in
    λ z code. store_refused z code c.args.room c.args.top c.args.stack.now c.args.stack.now w u deep c.args.place near c.peek-value.result c.peek-value.ensures.exact c.hold.result c.hold.ensures.told c.if-not-hold.true (λ p. refused_counted c.peek-value.result (values c.args.stack.now c.args.top) c.hold.result w u c.if-not-hold.true (there_at (values c.args.stack.now c.args.top) 0 c.peek-value.result w c.peek-value.ensures.exact p) c.hold.ensures.told p)

pub returns-then-not-hold-clause-moves : goal.returns-then-not-hold-clause-moves
returns-then-not-hold-clause-moves g c = c.hold.ensures.moves

pub give-requires : goal.give-requires
give-requires g c =
    let deep : c.args.top ≤ length c.args.stack.now = omega (arith, c.requires.in_room, c.requires.within) in
    let w = world_of (λ v. (g.dyn-1.0.entry v).1) c.args.store.now in
    let u = world_of (λ v. (g.dyn-1.0.entry v).1) c.hold.new.store in
    let s = values c.args.stack.now c.args.top in
    let v = c.peek-value.result in
    record {
      ready = (c.hold.ensures.moves []).ready c.requires.ready;
      enough = stored_can c.args.stack.now c.args.top (c.args.place + 1) v c.peek-old.result u (omega (arith, c.saturating_sub.ensures)) deep c.peek-old.ensures.exact
          (held_counted v s c.hold.result w u c.if-not-hold.false (there_at s 0 v w c.peek-value.ensures.exact c.requires.counted) c.hold.ensures.told c.requires.counted);
    }

pub returns-clause-acts : goal.returns-clause-acts
returns-clause-acts g c =
    let deep : c.args.top ≤ length c.args.stack.now = omega (arith, c.requires.in_room, c.requires.within) in
    let w = world_of (λ v. (g.dyn-1.0.entry v).1) c.args.store.now in
    let u = world_of (λ v. (g.dyn-1.0.entry v).1) c.hold.new.store in
    let near : c.args.place < c.args.top - 1 = omega (arith, c.saturating_sub.ensures) in
    λ z code. store_held z code c.args.room c.args.top c.args.stack.now _ w u deep c.args.place near c.peek-value.result c.peek-value.ensures.exact c.hold.result c.hold.ensures.told c.peek-old.result (world_of (λ v. (g.dyn-1.0.entry v).1) c.give.new.store) c.if-not-hold.false c.peek-old.ensures.exact c.poke.ensures.exact (told_same c.give.ensures.given)

pub returns-clause-moves : goal.returns-clause-moves
returns-clause-moves g c = λ roles. moves_join _ roles _ _ _ (c.hold.ensures.moves roles) (c.give.ensures.moves roles)
