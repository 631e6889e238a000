use Rattle.std.proofs.Common.{rules, ◌≡◌, ◌+◌, ◌-◌, [], ◌∷◌, ◌++◌, length, OnOk, suc, ap, sym, subst, ◌∙◌, arith, append_assoc}
use Rattle.std.specs.Prelude.{map}
use Rattle.std.specs.declared.alloc.Global.{Global}
use Rattle.std.specs.declared.vec.Vec.{Vec}
use Rattle.std.proofs.lemmas.Grind.{common_steps}
use Rattle.std.proofs.lemmas.List.{length_push, length-reverse}
use Rattle.std.proofs.lemmas.Iterator.Adapters.{YieldsList-from_rev_slice}
use Rattle.std.proofs.lemmas.Iterator.Consumers.{YieldsList-turn, YieldsList-so_far}
use Rattle.ang_meaning.specs.declared.routine.Target.{Target}
use Rattle.ang_code.specs.declared.instruction.Instruction.TheVariants.{Apply, Enter}
use Rattle.ang_gen.specs.Code.{expr_code, outs_code}
use Rattle.ang_core.specs.declared.tree.CoreExpression.TheFolds.{the_lemmas}
use Rattle.ang_core.proofs.tree.CoreExpression.TheLaws.{the_size}
use Rattle.ang_gen.specs.Rows.{list_code}
use Rattle.ang_gen.proofs.Lists.{apply_code, call_code}
use Rattle.ang_gen.proofs.Turns.{operands_turn, row_depth}
use Rattle.ang_gen.proofs.Counted.{apply_room, call_room, list_tall, operand_room}
use Rattle.ang_gen.proofs.expression.+expression.Goals as goal

-- ---- that the frame is counted

pub write_expression-write_operands-requires : goal.write_expression-write_operands-requires
write_expression-write_operands-requires t c = (
  first_of (search (rules, the_lemmas), grind (the_lemmas, arith, common_steps)),
  apply_room c.args.above c.in-Apply.operation c.in-Apply.operands c.args.e.now c.deref-in-Apply.result.now c.deref-in-Apply.ensures.value c.in-Apply.is c.requires.room,
)

pub write_expression-write_operands-requires-in-Call : goal.write_expression-write_operands-requires-in-Call
write_expression-write_operands-requires-in-Call t c = (
  first_of (search (rules, the_lemmas), grind (the_lemmas, arith, common_steps)),
  call_room c.args.above c.in-Call.callee c.in-Call.operands c.in-Call.targets c.args.e.now c.deref-in-Call-3.result.now c.deref-in-Call-3.ensures.value c.in-Call.is c.requires.room,
)

pub write_operands-overflow_add-next : goal.write_operands-overflow_add-next
write_operands-overflow_add-next t c = omega (arith, list_tall c.args.above c.args.operands.now, c.ranges.above.fits, c.requires.room)

pub write_operands-write_expression-requires : goal.write_operands-write_expression-requires
write_operands-write_expression-requires t c =
    let xs = c.args.operands.now in let ys = c.loop-e.yielded in let next = c.loop-e.next in
    let turn = YieldsList-turn (YieldsList-from_rev_slice xs (cc)) ys _ c.loop-e.yielded_by _ _ c.in-Some.e c.in-Some.is c.next.ensures.steps in
    let so_far = YieldsList-so_far (YieldsList-from_rev_slice xs (cc)) ys _ c.loop-e.yielded_by in
    let count = length-reverse xs in
    let left : next - 1 + suc (length ys) ≡ c.args.above + length xs = omega (arith, turn.0, count, c.loop-e.invariant.1) in
    let room = operand_room xs ys c.in-Some.e c.args.above (next - 1) turn.0 turn.1 so_far left in
    let depth = row_depth (λ e. the_size e) xs (map (λ y. y.now) ys) (length ys) c.in-Some.e.now turn.0 turn.1 so_far in
    (omega (arith, depth, c.decreases), omega (arith, room, c.requires.room))

-- ---- the code

pub write_expression-returns-in_ok-put-in-Apply : goal.write_expression-returns-in_ok-put-in-Apply
write_expression-returns-in_ok-put-in-Apply t c =
    let d = c.args.above in let old = c.args.text.now in let items = c.in-Apply.operands.items in
    let same : list_code d c.deref-in-Apply.result.now ++ c.put-in-Apply.new.self ≡ expr_code d c.args.e.now ++ old =
    ap (λ l. list_code d l ++ c.put-in-Apply.new.self) c.deref-in-Apply.ensures.value
    ∙ ap (λ l. list_code d items ++ l) c.in_ok-put-in-Apply.ensures.before
    ∙ sym (append_assoc (list_code d items) (Apply c.in-Apply.operation ∷ []) old)
    ∙ ap (λ l. l ++ old) (sym (apply_code d c.in-Apply.operation c.in-Apply.operands))
    ∙ ap (λ x. expr_code d x ++ old) (sym c.in-Apply.is) in
    record { code = subst (λ l. OnOk c.write_operands.result (c.write_operands.new.text ≡ l)) same c.write_operands.ensures.code }

pub write_expression-returns-in_ok-put-in-Call : goal.write_expression-returns-in_ok-put-in-Call
write_expression-returns-in_ok-put-in-Call t c =
    let d = c.args.above in let old = c.args.text.now in let items = c.in-Call.operands.items in let outs = c.in-Call.targets.value.items in
    let same : list_code d c.deref-in-Call-3.result.now ++ c.put-in-Call.new.self ≡ expr_code d c.args.e.now ++ old =
    ap (λ l. list_code d l ++ c.put-in-Call.new.self) c.deref-in-Call-3.ensures.value
    ∙ ap (λ l. list_code d items ++ l) c.in_ok-put-in-Call.ensures.before
    ∙ ap (λ l. list_code d items ++ (Enter c.in-Call.callee ∷ l)) (c.in_ok-write_outs-in-Call.ensures.code ∙ ap (λ l. outs_code d l ++ old) (c.deref-in-Call-2.ensures.value ∙ ap (λ (v : Vec Target Global). v.items) c.deref-in-Call.ensures))
    ∙ sym (append_assoc (list_code d items) (Enter c.in-Call.callee ∷ outs_code d outs) old)
    ∙ ap (λ l. l ++ old) (sym (call_code d c.in-Call.callee c.in-Call.operands c.in-Call.targets))
    ∙ ap (λ x. expr_code d x ++ old) (sym c.in-Call.is) in
    record { code = subst (λ l. OnOk c.write_operands-in-Call.result (c.write_operands-in-Call.new.text ≡ l)) same c.write_operands-in-Call.ensures.code }

pub write_operands-loop-e-preserved : goal.write_operands-loop-e-preserved
write_operands-loop-e-preserved t c =
    let next = c.loop-e.next in let xs = c.args.operands.now in
    let turn = YieldsList-turn (YieldsList-from_rev_slice xs (cc)) c.loop-e.yielded _ c.loop-e.yielded_by _ _ c.in-Some.e c.in-Some.is c.next.ensures.steps in
    let count = length-reverse xs in
    let some : next ≡ suc (next - 1) = omega (arith, turn.0, count, c.loop-e.invariant.1) in
    let more = length_push c.loop-e.yielded c.in-Some.e in (
      operands_turn next (next - 1) c.loop-e.yielded c.in-Some.e c.loop-e.text c.write_expression.new.text c.args.text.now c.loop-e.invariant.0 some c.in_ok-write_expression.ensures.code,
      omega (arith, some, more, c.loop-e.invariant.1),
    )
