use Rattle.std.proofs.Common.{◌≤◌, ◌+◌, ◌-◌, ◌∷◌, [], length, refl, arith}
use Rattle.ang_meaning.specs.declared.operation.Operation.TheVariants.{Compare}
use Rattle.ang_meaning.specs.Environment.{is_fit}
use Rattle.ang_meaning.specs.Perform.{operands}
use Rattle.ang_vm_steps.proofs.TopValues.{do_lost, do_here, room_left, two_taken}
use Rattle.ang_vm_steps.proofs.doing.do_compare.Goals as goal

pub returns-then-top-lt2 : goal.returns-then-top-lt2
unfolding operands is_fit
returns-then-top-lt2 c =
    let deep : c.args.top ≤ length c.args.stack.now = omega (arith, c.requires.in_room, c.requires.within) in
    record { acts = λ z code w. do_lost z code (Compare c.args.what c.args.signed) c.args.room c.args.top c.args.stack.now _ w deep (λ m. refl) 2 (λ m. refl) (omega arith); in_room = tt }

pub returns : goal.returns
unfolding operands is_fit
returns c =
    let deep : c.args.top ≤ length c.args.stack.now = omega (arith, c.requires.in_room, c.requires.within) in
    record {
      acts = λ z code w. do_here z code (Compare c.args.what c.args.signed) c.args.room c.args.top c.args.stack.now _ w deep (λ m. refl) 2 (λ m. refl) (omega arith) (omega arith) (c.peek-second.result ∷ c.peek-first.result ∷ []) c.compare_slots-answer.result c.put_answer.result (two_taken c.args.stack.now c.args.top c.peek-first.result c.peek-second.result (omega arith) deep c.peek-second.ensures.exact c.peek-first.ensures.exact)
          (λ m u. c.compare_slots-answer.ensures.exact z m u) (λ f pc fr t u. c.put_answer.ensures.exact c.args.room f pc fr t u) c.put_answer.ensures.fails;
      in_room = room_left c.put_answer.result (c.args.top - 2 + 1) c.args.room (omega arith) c.put_answer.ensures.in_room;
    }
