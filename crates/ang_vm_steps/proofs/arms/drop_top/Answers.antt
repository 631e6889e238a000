use Rattle.std.proofs.Common.{◌≤◌, length, arith}
use Rattle.ang_meaning.proofs.Telling.{told_same}
use Rattle.ang_meaning.proofs.Enough.{counted_enough}
use Rattle.ang_heap.specs.Stores.{world_of}
use Rattle.ang_heap.proofs.Storing.{moves_none}
use Rattle.ang_vm_stack.specs.Stacks.{values}
use Rattle.ang_vm_steps.proofs.Parts.{drop_nothing, drop_one}
use Rattle.ang_vm_steps.proofs.Placed.{top_can}
use Rattle.ang_vm_steps.proofs.arms.drop_top.Goals as goal

pub returns-then-top-eq0 : goal.returns-then-top-eq0
returns-then-top-eq0 g c =
    let deep : c.args.top ≤ length c.args.stack.now = omega (arith, c.requires.in_room, c.requires.within) in
    let w = world_of (λ v. (g.dyn-1.0.entry v).1) c.args.store.now in
    record { acts = λ z code. drop_nothing z code c.args.room c.args.top c.args.stack.now _ w w deep (omega arith); in_room = tt; moves = λ roles. moves_none _ roles _ }

pub give-requires : goal.give-requires
give-requires g c =
    let deep : c.args.top ≤ length c.args.stack.now = omega (arith, c.requires.in_room, c.requires.within) in
    let w = world_of (λ v. (g.dyn-1.0.entry v).1) c.args.store.now in
    record { ready = c.requires.ready; enough = top_can c.args.stack.now c.args.top c.peek-value.result w (omega arith) deep c.peek-value.ensures.exact (counted_enough (values c.args.stack.now c.args.top) w c.requires.counted) }

pub returns : goal.returns
returns g c =
    let deep : c.args.top ≤ length c.args.stack.now = omega (arith, c.requires.in_room, c.requires.within) in
    let w = world_of (λ v. (g.dyn-1.0.entry v).1) c.args.store.now in
    record { acts = λ z code. drop_one z code c.args.room c.args.top c.args.stack.now c.args.stack.now w (world_of (λ v. (g.dyn-1.0.entry v).1) c.give.new.store) deep c.peek-value.result (omega arith) c.peek-value.ensures.exact (told_same c.give.ensures.given); in_room = omega arith; moves = c.give.ensures.moves }
