use Rattle.std.proofs.Common.{◌≤◌, length, ap, ◌∙◌, arith}
use Rattle.ang_meaning.specs.Results.{brought}
use Rattle.ang_heap.specs.Stores.{world_of}
use Rattle.ang_heap.proofs.Storing.{moves_none}
use Rattle.ang_vm_steps.proofs.Trading.{global_outside, global_traded}
use Rattle.ang_vm_steps.proofs.swaps.swap_global.Goals as goal

pub returns-then-under-top : goal.returns-then-under-top
returns-then-under-top g c =
    let deep : c.args.top ≤ length c.args.stack.now = omega (arith, c.requires.in_room, c.requires.within) in
    let w = world_of (λ v. (g.dyn-1.0.entry v).1) c.args.store.now in
    record { acts = λ z code. global_outside z code c.args.room c.args.top c.args.stack.now c.args.stack.now w w deep c.args.to c.args.under c.args.body c.args.global c.if-under-top.true; in_room = tt; moves = λ roles. moves_none _ roles _ }

pub returns : goal.returns
returns g c =
    let deep : c.args.top ≤ length c.args.stack.now = omega (arith, c.requires.in_room, c.requires.within) in
    let w = world_of (λ v. (g.dyn-1.0.entry v).1) c.args.store.now in
    record {
      acts = λ z code. global_traded z code c.args.room c.args.top c.args.stack.now _ w (world_of (λ v. (g.dyn-1.0.entry v).1) c.trade_global-old.new.store) deep c.args.to c.args.under c.args.body c.args.global c.bring-moved.result c.trade_global-old.result
          (omega arith) (c.bring-moved.ensures.exact ∙ ap (brought c.args.to) c.peek.ensures.exact) c.trade_global-old.ensures.old c.trade_global-old.ensures.put c.poke.ensures.exact;
      in_room = c.requires.in_room;
      moves = c.trade_global-old.ensures.moves;
    }
