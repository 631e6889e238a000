use Rattle.std.proofs.Common.{◌≤◌, length, ap, ◌∙◌, arith}
use Rattle.ang_meaning.specs.Results.{brought}
use Rattle.ang_heap.specs.Stores.{world_of}
use Rattle.ang_heap.proofs.Storing.{moves_none}
use Rattle.ang_vm_steps.proofs.Trading.{field_outside, field_beyond, field_traded}
use Rattle.ang_vm_steps.proofs.swaps.swap_field.Goals as goal

pub returns-then-under-top : goal.returns-then-under-top
returns-then-under-top g c =
    let deep : c.args.top ≤ length c.args.stack.now = omega (arith, c.requires.in_room, c.requires.within) in
    let w = world_of (λ v. (g.dyn-1.0.entry v).1) c.args.store.now in
    record { acts = λ z code. field_outside z code c.args.room c.args.top c.args.stack.now c.args.stack.now w w deep c.args.to c.args.under c.args.object c.args.field c.if-under-top.true; in_room = tt; moves = λ roles. moves_none _ roles _ }

pub returns-then-object-top : goal.returns-then-object-top
returns-then-object-top g c =
    let deep : c.args.top ≤ length c.args.stack.now = omega (arith, c.requires.in_room, c.requires.within) in
    let w = world_of (λ v. (g.dyn-1.0.entry v).1) c.args.store.now in
    record { acts = λ z code. field_beyond z code c.args.room c.args.top c.args.stack.now c.args.stack.now w w deep c.args.to c.args.under c.args.object c.args.field (omega arith) c.if-object-top.true; in_room = tt; moves = λ roles. moves_none _ roles _ }

pub returns : goal.returns
returns g c =
    let deep : c.args.top ≤ length c.args.stack.now = omega (arith, c.requires.in_room, c.requires.within) in
    let w = world_of (λ v. (g.dyn-1.0.entry v).1) c.args.store.now in
    record {
      acts = λ z code. field_traded z code c.args.room c.args.top c.args.stack.now _ w (world_of (λ v. (g.dyn-1.0.entry v).1) c.trade_member-old.new.store) deep c.args.to c.args.under c.args.object c.args.field c.bring-moved.result c.peek-holder.result c.trade_member-old.result
          (omega arith) (omega arith) (c.bring-moved.ensures.exact ∙ ap (brought c.args.to) c.peek.ensures.exact) c.peek-holder.ensures.exact c.trade_member-old.ensures.old c.trade_member-old.ensures.put c.poke.ensures.exact;
      in_room = c.requires.in_room;
      moves = c.trade_member-old.ensures.moves;
    }
