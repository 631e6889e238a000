use Rattle.std.proofs.Common.{◌≤◌, ◌-◌, length, arith}
use Rattle.ang_meaning.proofs.Telling.{told_same}
use Rattle.ang_meaning.proofs.Enough.{counted_enough, enough_as}
use Rattle.ang_heap.specs.Stores.{world_of}
use Rattle.ang_heap.proofs.Storing.{moves_none}
use Rattle.ang_vm_stack.specs.Stacks.{values}
use Rattle.ang_vm_steps.proofs.SeveralGiven.{under_none, under_lost, under_done, below_fewer}
use Rattle.ang_vm_steps.proofs.many.drop_under.Goals as goal

pub returns-then-top-eq0 : goal.returns-then-top-eq0
returns-then-top-eq0 g c =
    let deep : c.args.top ≤ length c.args.stack.now = omega (arith, c.requires.in_room, c.requires.within) in
    let w = world_of (λ v. (g.dyn-1.0.entry v).1) c.args.store.now in
    record { acts = λ z code. under_none z code c.args.room c.args.top c.args.stack.now _ w w deep c.args.count (omega arith); in_room = tt; moves = λ roles. moves_none _ roles _ }

pub returns-then-count-rest : goal.returns-then-count-rest
returns-then-count-rest g c =
    let deep : c.args.top ≤ length c.args.stack.now = omega (arith, c.requires.in_room, c.requires.within) in
    let w = world_of (λ v. (g.dyn-1.0.entry v).1) c.args.store.now in
    record { acts = λ z code. under_lost z code c.args.room c.args.top c.args.stack.now _ w w deep c.args.count (omega arith) (omega arith); in_room = tt; moves = λ roles. moves_none _ roles _ }

pub give_lowest_first-requires-clause-enough : goal.give_lowest_first-requires-clause-enough
give_lowest_first-requires-clause-enough g c =
    let deep : c.args.top ≤ length c.args.stack.now = omega (arith, c.requires.in_room, c.requires.within) in
    let w = world_of (λ v. (g.dyn-1.0.entry v).1) c.args.store.now in
    let s = values c.args.stack.now c.args.top in
    enough_as s (values c.args.stack.now (c.args.top - 1)) w.objects w.hosts (λ x. below_fewer x c.args.stack.now c.args.top (c.args.top - 1) (omega arith) deep) (counted_enough s w c.requires.counted)

pub returns : goal.returns
returns g c =
    let deep : c.args.top ≤ length c.args.stack.now = omega (arith, c.requires.in_room, c.requires.within) in
    let w = world_of (λ v. (g.dyn-1.0.entry v).1) c.args.store.now in
    record { acts = λ z code. under_done z code c.args.room c.args.top c.args.stack.now _ w (world_of (λ v. (g.dyn-1.0.entry v).1) c.give_lowest_first.new.store) deep c.args.count c.peek-value.result (omega arith) c.peek-value.ensures.exact (omega arith) c.push.ensures.pushed (told_same c.give_lowest_first.ensures.given); in_room = omega arith; moves = c.give_lowest_first.ensures.moves }
