use Rattle.std.proofs.Common.{◌≤◌, ◌∷◌, [], length, refl, arith}
use Rattle.ang_meaning.specs.declared.operation.Operation.TheVariants.{GlobalChange}
use Rattle.ang_meaning.specs.Environment.{is_fit}
use Rattle.ang_meaning.specs.Perform.{operands}
use Rattle.ang_heap.specs.Stores.{world_of}
use Rattle.ang_vm_steps.proofs.TopValues.{do_short, do_told, one_taken}
use Rattle.ang_vm_steps.proofs.globals.change_global.Goals as goal

pub returns-then-top-eq0-clause-acts : goal.returns-then-top-eq0-clause-acts
unfolding operands is_fit
returns-then-top-eq0-clause-acts g c = λ z code.
    let deep : c.args.top ≤ length c.args.stack.now = omega (arith, c.requires.in_room, c.requires.within) in
    let w = (world_of (λ v. (g.dyn-1.0.entry v).1) c.args.store.now) in
    do_short z code (GlobalChange c.args.by c.args.number) c.args.room c.args.top c.args.stack.now c.args.stack.now w deep c.args.body refl 1 refl (omega arith)

pub returns-clause-acts : goal.returns-clause-acts
unfolding operands is_fit
returns-clause-acts g c = λ z code.
    let deep : c.args.top ≤ length c.args.stack.now = omega (arith, c.requires.in_room, c.requires.within) in
    let w = (world_of (λ v. (g.dyn-1.0.entry v).1) c.args.store.now) in
    let u = (world_of (λ v. (g.dyn-1.0.entry v).1) c.alter-answer.new.store) in
    do_told z code (GlobalChange c.args.by c.args.number) c.args.room c.args.top c.args.stack.now _ w deep c.args.body refl 1 refl (omega arith) (omega arith) (c.peek-operand.result ∷ []) c.alter-answer.result c.put_answer.result
    (one_taken c.args.stack.now c.args.top c.peek-operand.result (omega arith) deep c.peek-operand.ensures.exact)
    u (c.alter-answer.ensures.told z) (λ pc fr t x. c.put_answer.ensures.exact c.args.room c.args.body pc fr t x) c.put_answer.ensures.fails
