use Rattle.std.proofs.Common.{◌≤◌, length, arith}
use Rattle.ang_meaning.proofs.Telling.{told_same}
use Rattle.ang_meaning.proofs.Enough.{counted_enough}
use Rattle.ang_heap.specs.Stores.{world_of}
use Rattle.ang_heap.proofs.Storing.{moves_none}
use Rattle.ang_vm_stack.specs.Stacks.{values}
use Rattle.ang_vm_steps.proofs.SeveralGiven.{leave_lost, leave_done}
use Rattle.ang_vm_steps.proofs.many.leave.Goals as goal

pub returns-then-count-top : goal.returns-then-count-top
returns-then-count-top g c =
    let deep : c.args.top ≤ length c.args.stack.now = omega (arith, c.requires.in_room, c.requires.within) in
    let w = world_of (λ v. (g.dyn-1.0.entry v).1) c.args.store.now in
    record { acts = λ z code. leave_lost z code c.args.room c.args.top c.args.stack.now _ w w deep c.args.count c.if-count-top.true; in_room = tt; moves = λ roles. moves_none _ roles _ }

pub give_top-requires-clause-enough : goal.give_top-requires-clause-enough
give_top-requires-clause-enough g c = counted_enough (values c.args.stack.now c.args.top) (world_of (λ v. (g.dyn-1.0.entry v).1) c.args.store.now) c.requires.counted

pub returns : goal.returns
returns g c =
    let deep : c.args.top ≤ length c.args.stack.now = omega (arith, c.requires.in_room, c.requires.within) in
    let w = world_of (λ v. (g.dyn-1.0.entry v).1) c.args.store.now in
    record { acts = λ z code. leave_done z code c.args.room c.args.top c.args.stack.now c.args.stack.now w (world_of (λ v. (g.dyn-1.0.entry v).1) c.give_top.new.store) deep c.args.count (omega arith) (told_same c.give_top.ensures.given); in_room = omega arith; moves = c.give_top.ensures.moves }
