use Rattle.std.proofs.Common.{◌≤◌, [], length, refl, arith}
use Rattle.std.proofs.lemmas.Result.{IfOk-weaker}
use Rattle.ang_meaning.specs.declared.operation.Operation.TheVariants.{Make}
use Rattle.ang_meaning.specs.Perform.{operands}
use Rattle.ang_heap.specs.Stores.{world_of}
use Rattle.ang_vm_stack.specs.Tables.{setting_of}
use Rattle.ang_vm_steps.proofs.TopValues.{do_unfit, do_full, do_told, if_put}
use Rattle.ang_vm_ask.proofs.FieldOperations.{class_is, class_there, class_missing}
use Rattle.ang_vm_steps.proofs.fields.make_object.Goals as goal

pub returns-in-None-clause-acts : goal.returns-in-None-clause-acts
returns-in-None-clause-acts g c = λ nesting code.
    let z = setting_of c.args.table.now nesting in
    let deep : c.args.top ≤ length c.args.stack.now = omega (arith, c.requires.in_room, c.requires.within) in
    let w = (world_of (λ v. (g.dyn-1.0.entry v).1) c.args.store.now) in
    do_unfit z code (Make c.args.class) c.args.room c.args.top c.args.stack.now c.args.stack.now w deep c.args.body (class_missing z c.args.body.home c.args.class c.in-None.ensures.exact)

pub returns-then-top-room-clause-acts : goal.returns-then-top-room-clause-acts
unfolding operands
returns-then-top-room-clause-acts g c = λ nesting code.
    let z = setting_of c.args.table.now nesting in
    let deep : c.args.top ≤ length c.args.stack.now = omega (arith, c.requires.in_room, c.requires.within) in
    let w = (world_of (λ v. (g.dyn-1.0.entry v).1) c.args.store.now) in
    do_full z code (Make c.args.class) c.args.room c.args.top c.args.stack.now c.args.stack.now w deep c.args.body (class_there z c.args.body.home c.args.class c.in-Some.found.now c.in-Some.ensures.exact) 0 refl (omega arith) (omega arith)

pub returns-clause-acts : goal.returns-clause-acts
unfolding operands
returns-clause-acts g c = λ nesting code.
    let z = setting_of c.args.table.now nesting in
    let deep : c.args.top ≤ length c.args.stack.now = omega (arith, c.requires.in_room, c.requires.within) in
    let w = (world_of (λ v. (g.dyn-1.0.entry v).1) c.args.store.now) in
    let u = (world_of (λ v. (g.dyn-1.0.entry v).1) c.make-answer.new.store) in
    let k = c.in-Some.found.now in
    do_told z code (Make c.args.class) c.args.room c.args.top c.args.stack.now _ w deep c.args.body (class_there z c.args.body.home c.args.class k c.in-Some.ensures.exact) 0 refl (omega arith) (omega arith) [] c.make-answer.result c.put_answer.result refl
    u (c.make-answer.ensures.told z c.args.body.home c.args.class (class_is z c.args.body.home c.args.class k c.in-Some.ensures.exact c.in-Some.ensures.numbered)) (λ pc fr t x. c.put_answer.ensures.exact c.args.room c.args.body pc fr t x) c.put_answer.ensures.fails

pub returns-clause-made : goal.returns-clause-made
returns-clause-made g c = if_put c.make-answer.result c.put_answer.result _ c.put_answer.ensures.ok (IfOk-weaker c.make-answer.result _ _ (λ v h. (_, h)) c.make-answer.ensures.made)
