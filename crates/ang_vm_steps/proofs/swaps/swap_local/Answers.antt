use Rattle.std.proofs.Common.{◌≤◌, length, ap, ◌∙◌, arith}
use Rattle.ang_meaning.specs.Results.{local_at, local_set, brought}
use Rattle.ang_vm_stack.specs.Stacks.{values}
use Rattle.ang_vm_steps.proofs.Parts.{swap_outside, swap_beyond, swap_done}
use Rattle.ang_vm_steps.proofs.swaps.swap_local.Goals as goal

pub returns-then-under-top : goal.returns-then-under-top
returns-then-under-top c =
    let deep : c.args.top ≤ length c.args.stack.now = omega (arith, c.requires.in_room, c.requires.within) in
    record { acts = λ z code w. swap_outside z code c.args.room c.args.top c.args.stack.now _ w w deep c.args.to c.args.under c.args.with c.if-under-top.true; in_room = tt }

pub returns-then-with-top : goal.returns-then-with-top
returns-then-with-top c =
    let deep : c.args.top ≤ length c.args.stack.now = omega (arith, c.requires.in_room, c.requires.within) in
    record { acts = λ z code w. swap_beyond z code c.args.room c.args.top c.args.stack.now _ w w deep c.args.to c.args.under c.args.with (omega arith) c.if-with-top.true; in_room = tt }

pub returns : goal.returns
returns c =
    let deep : c.args.top ≤ length c.args.stack.now = omega (arith, c.requires.in_room, c.requires.within) in
    let s = values c.args.stack.now c.args.top in
    record {
      acts = λ z code w. swap_done z code c.args.room c.args.top c.args.stack.now _ w w deep c.args.to c.args.under c.args.with (omega arith) (omega arith)
          (c.poke-2.ensures.exact ∙ ap (λ l. local_set l c.args.with c.bring-moved.result) (c.poke.ensures.exact ∙ ap (λ x. local_set s c.args.under x) c.peek-old.ensures.exact)
          ∙ ap (λ x. local_set (local_set s c.args.under (local_at s c.args.with)) c.args.with x) (c.bring-moved.ensures.exact ∙ ap (brought c.args.to) c.peek.ensures.exact));
      in_room = c.requires.in_room;
    }
