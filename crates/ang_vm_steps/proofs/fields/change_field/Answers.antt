use Rattle.std.proofs.Common.{◌≤◌, ◌∷◌, [], length, refl, arith, Err}
use Rattle.ang_meaning.specs.declared.operation.Operation.TheVariants.{FieldChange}
use Rattle.ang_meaning.specs.Environment.{is_fit}
use Rattle.ang_meaning.specs.Perform.{operands}
use Rattle.ang_code.specs.declared.instruction.Instruction.TheVariants.{Apply}
use Rattle.ang_vm_stack.specs.declared.stop.Trap.TheVariants.{Stuck}
use Rattle.ang_heap.specs.Stores.{world_of}
use Rattle.ang_vm_steps.proofs.Operands.{two_stand}
use Rattle.ang_vm_steps.proofs.TopValues.{acts_all, do_short, do_told, two_taken}
use Rattle.ang_vm_steps.proofs.fields.change_field.Goals as goal

pub returns-then-top-lt2-clause-acts : goal.returns-then-top-lt2-clause-acts
unfolding operands is_fit
returns-then-top-lt2-clause-acts g c = λ z code.
    let deep : c.args.top ≤ length c.args.stack.now = omega (arith, c.requires.in_room, c.requires.within) in
    let w = (world_of (λ v. (g.dyn-1.0.entry v).1) c.args.store.now) in
    acts_all z code (Apply (FieldChange c.args.by c.args.index)) c.args.room c.args.top c.args.stack.now c.args.stack.now w w (Err Stuck) (λ f. do_short z code (FieldChange c.args.by c.args.index) c.args.room c.args.top c.args.stack.now c.args.stack.now w deep f refl 2 refl (omega arith))

pub alter-answer-requires-clause-counted : goal.alter-answer-requires-clause-counted
alter-answer-requires-clause-counted g c =
    let deep : c.args.top ≤ length c.args.stack.now = omega (arith, c.requires.in_room, c.requires.within) in
    two_stand c.args.stack.now c.args.top c.peek-operand.result c.peek-object.result (world_of (λ v. (g.dyn-1.0.entry v).1) c.args.store.now) (omega arith) deep c.peek-object.ensures.exact c.peek-operand.ensures.exact c.requires.counted

pub returns-clause-acts : goal.returns-clause-acts
unfolding operands is_fit
returns-clause-acts g c = λ z code.
    let deep : c.args.top ≤ length c.args.stack.now = omega (arith, c.requires.in_room, c.requires.within) in
    let w = (world_of (λ v. (g.dyn-1.0.entry v).1) c.args.store.now) in
    let u = (world_of (λ v. (g.dyn-1.0.entry v).1) c.alter-answer.new.store) in
    acts_all z code (Apply (FieldChange c.args.by c.args.index)) c.args.room c.args.top c.args.stack.now _ w u c.put_answer.result
    (λ f. do_told z code (FieldChange c.args.by c.args.index) c.args.room c.args.top c.args.stack.now _ w deep f refl 2 refl (omega arith) (omega arith) (c.peek-object.result ∷ c.peek-operand.result ∷ []) c.alter-answer.result c.put_answer.result
    (two_taken c.args.stack.now c.args.top c.peek-operand.result c.peek-object.result (omega arith) deep c.peek-object.ensures.exact c.peek-operand.ensures.exact)
    u (c.alter-answer.ensures.told z f.home) (λ pc fr t x. c.put_answer.ensures.exact c.args.room f pc fr t x) c.put_answer.ensures.fails)
