use Rattle.std.proofs.Common.{◌≤◌, ◌∷◌, [], length, refl, arith, Err}
use Rattle.ang_meaning.specs.declared.operation.Operation.TheVariants.{FieldGet}
use Rattle.ang_meaning.specs.Environment.{is_fit}
use Rattle.ang_meaning.specs.Perform.{operands}
use Rattle.ang_code.specs.declared.instruction.Instruction.TheVariants.{Apply}
use Rattle.ang_vm_stack.specs.declared.stop.Trap.TheVariants.{Stuck}
use Rattle.ang_heap.specs.Stores.{world_of}
use Rattle.ang_vm_steps.proofs.Operands.{one_stands}
use Rattle.ang_vm_steps.proofs.TopValues.{acts_all, do_short, do_told, one_taken}
use Rattle.ang_vm_steps.proofs.fields.get_field.Goals as goal

pub returns-then-top-eq0-clause-acts : goal.returns-then-top-eq0-clause-acts
unfolding operands is_fit
returns-then-top-eq0-clause-acts g c = λ z code.
    let deep : c.args.top ≤ length c.args.stack.now = omega (arith, c.requires.in_room, c.requires.within) in
    let w = (world_of (λ v. (g.dyn-1.0.entry v).1) c.args.store.now) in
    acts_all z code (Apply (FieldGet c.args.index)) c.args.room c.args.top c.args.stack.now c.args.stack.now w w (Err Stuck) (λ f. do_short z code (FieldGet c.args.index) c.args.room c.args.top c.args.stack.now c.args.stack.now w deep f refl 1 refl (omega arith))

pub get-answer-requires-clause-counted : goal.get-answer-requires-clause-counted
get-answer-requires-clause-counted g c =
    let deep : c.args.top ≤ length c.args.stack.now = omega (arith, c.requires.in_room, c.requires.within) in
    one_stands c.args.stack.now c.args.top c.peek-object.result (world_of (λ v. (g.dyn-1.0.entry v).1) c.args.store.now) (omega arith) deep c.peek-object.ensures.exact c.requires.counted

pub returns-clause-acts : goal.returns-clause-acts
unfolding operands is_fit
returns-clause-acts g c = λ z code.
    let deep : c.args.top ≤ length c.args.stack.now = omega (arith, c.requires.in_room, c.requires.within) in
    let w = (world_of (λ v. (g.dyn-1.0.entry v).1) c.args.store.now) in
    let u = (world_of (λ v. (g.dyn-1.0.entry v).1) c.get-answer.new.store) in
    acts_all z code (Apply (FieldGet c.args.index)) c.args.room c.args.top c.args.stack.now _ w u c.put_answer.result
    (λ f. do_told z code (FieldGet c.args.index) c.args.room c.args.top c.args.stack.now _ w deep f refl 1 refl (omega arith) (omega arith) (c.peek-object.result ∷ []) c.get-answer.result c.put_answer.result
    (one_taken c.args.stack.now c.args.top c.peek-object.result (omega arith) deep c.peek-object.ensures.exact)
    u (c.get-answer.ensures.told z f.home) (λ pc fr t x. c.put_answer.ensures.exact c.args.room f pc fr t x) c.put_answer.ensures.fails)
