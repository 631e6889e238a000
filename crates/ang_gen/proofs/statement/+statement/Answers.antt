use Rattle.std.proofs.Common.{rules, ◌≡◌, ◌+◌, ◌-◌, [], ◌∷◌, ◌++◌, length, OnOk, refl, ap, sym, subst, ◌∙◌, arith, length-append}
use Rattle.std.specs.Prelude.{max, map}
use Rattle.std.proofs.lemmas.Grind.{common_steps}
use Rattle.std.proofs.lemmas.Iterator.Adapters.{YieldsList-from_rev_slice}
use Rattle.std.proofs.lemmas.Iterator.Consumers.{YieldsList-turn, YieldsList-so_far}
use Rattle.ang_code.specs.declared.instruction.Instruction.TheVariants.{JumpIfFalse, Jump, LoopBack}
use Rattle.ang_core.specs.declared.tree.CoreStatement.TheFolds.{the_lemmas}
use Rattle.ang_core.proofs.tree.CoreStatement.TheLaws.{the_size}
use Rattle.ang_core.specs.Sound.{declared}
use Rattle.ang_gen.specs.Code.{expr_code, leave_code, block_code, stmt_code, while_code}
use Rattle.ang_gen.specs.Peaks.{peak, statement_peak}
use Rattle.ang_gen.specs.Rows.{statements_code, declared_in}
use Rattle.ang_gen.proofs.Shapes.{grown, behind_more, block_made}
use Rattle.ang_gen.proofs.Arms.{ending, block_at, body_at, if_arm, while_arm, block_arm}
use Rattle.ang_gen.proofs.Turns.{row_turn, row_room, row_depth, one_more}
use Rattle.ang_gen.proofs.Counted.{room_alone, block_room, row_tall, statement_room}
use Rattle.ang_gen.proofs.statement.+statement.Goals as goal

-- ---- that the frame is counted

pub write_statement-write_expression-requires : goal.write_statement-write_expression-requires
write_statement-write_expression-requires t c =
    let n = c.args.locals in let e = c.deref.result.now in
    let whole : statement_peak n c.args.s.now ≡ peak n e = ap (λ s. statement_peak n s) c.in-Evaluate.is ∙ ap (λ x. peak n x) (sym c.deref.ensures) in
    record { room = room_alone n e (omega (arith, whole, c.requires.room)) }

pub write_statement-write_expression-requires-in-Declare : goal.write_statement-write_expression-requires-in-Declare
write_statement-write_expression-requires-in-Declare t c =
    let n = c.args.locals in let e = c.deref-in-Declare.result.now in
    let whole : statement_peak n c.args.s.now ≡ peak n e = ap (λ s. statement_peak n s) c.in-Declare.is ∙ ap (λ x. peak n x) (sym c.deref-in-Declare.ensures) in
    record { room = room_alone n e (omega (arith, whole, c.requires.room)) }

pub write_statement-write_expression-requires-in-Return : goal.write_statement-write_expression-requires-in-Return
write_statement-write_expression-requires-in-Return t c =
    let n = c.args.locals in let e = c.deref-in-Return.result.now in
    let whole : statement_peak n c.args.s.now ≡ peak n e = ap (λ s. statement_peak n s) c.in-Return.is ∙ ap (λ x. peak n x) (sym c.deref-in-Return.ensures) in
    record { room = room_alone n e (omega (arith, whole, c.requires.room)) }

pub write_statement-write_row-requires : goal.write_statement-write_row-requires
write_statement-write_row-requires t c =
    let more : length c.write_leave.new.text ≡ length (leave_code c.declared_by_all.result) + length c.args.text.now =
    ap length c.in_ok-write_leave-in-Block.ensures.code ∙ length-append (leave_code c.declared_by_all.result) c.args.text.now in (
      first_of (search (rules, the_lemmas), grind (the_lemmas, arith, common_steps)),
      (
        block_room c.args.locals c.in-Block.row c.args.s.now c.deref-in-Block-2.result.now c.deref-in-Block-2.ensures.value c.in-Block.is c.requires.room,
        (c.requires.params, (c.requires.alive, (omega (arith, more, c.requires.exit), omega (arith, more, c.requires.again)))),
      ),
    )

pub write_statement-write_test-requires-clause-room : goal.write_statement-write_test-requires-clause-room
write_statement-write_test-requires-clause-room t c =
    let n = c.args.locals in let e = c.deref-in-If-3.result.now in
    let whole : statement_peak n c.args.s.now ≡ max (peak n c.in-If.test.value) (max (statement_peak n c.in-If.one.value) (statement_peak n c.in-If.two.value)) = ap (λ s. statement_peak n s) c.in-If.is in
    let same : peak n e ≡ peak n c.in-If.test.value = ap (λ x. peak n x) c.deref-in-If-3.ensures in
    room_alone n e (omega (arith, whole, same, c.requires.room))

pub write_statement-begin_loop-requires-clause-room : goal.write_statement-begin_loop-requires-clause-room
write_statement-begin_loop-requires-clause-room t c =
    let n = c.args.locals in let e = c.deref-in-While-3.result.now in
    let whole : statement_peak n c.args.s.now ≡ max (peak n c.in-While.test.value) (max (statement_peak n c.in-While.body.value) (statement_peak n c.in-While.step.value)) = ap (λ s. statement_peak n s) c.in-While.is in
    let same : peak n e ≡ peak n c.in-While.test.value = ap (λ x. peak n x) c.deref-in-While-3.ensures in
    room_alone n e (omega (arith, whole, same, c.requires.room))

pub write_statement-begin_at_body-requires-clause-room : goal.write_statement-begin_at_body-requires-clause-room
write_statement-begin_at_body-requires-clause-room t c =
    let n = c.args.locals in let e = c.deref-in-DoWhile-2.result.now in
    let whole : statement_peak n c.args.s.now ≡ max (peak n c.in-DoWhile.test.value) (statement_peak n c.in-DoWhile.body.value) = ap (λ s. statement_peak n s) c.in-DoWhile.is in
    let same : peak n e ≡ peak n c.in-DoWhile.test.value = ap (λ x. peak n x) c.deref-in-DoWhile-2.ensures in
    room_alone n e (omega (arith, whole, same, c.requires.room))

-- ---- a block

pub write_block-returns : goal.write_block-returns
write_block-returns t c =
    record {
      code =
          let t0 = c.args.text.now in let t1 = c.write_leave.new.text in let s = c.args.s.now in let x = c.args.exits in
          let q = x.params in let n = c.args.locals in let j = x.alive in
          let e1 : t1 ≡ leave_code (declared s) ++ t0 = c.in_ok-write_leave.ensures.code ∙ ap (λ k. leave_code k ++ t0) c.declared_by.ensures.count in
          let out = length t1 - x.exit in let again = length t1 - x.again in
          let same : stmt_code q n j out again s ++ t1 ≡ block_at q n j (length t0 - x.exit) (length t0 - x.again) s ++ t0 =
          block_made t0 t1 (stmt_code q n j out again s ++ t1) q n j (length t0 - x.exit + ending s) (length t0 - x.again + ending s) out again s e1 refl
          (behind_more t0 t1 (leave_code (declared s)) x.exit e1 c.requires.exit) (behind_more t0 t1 (leave_code (declared s)) x.again e1 c.requires.again) in
          subst (λ l. OnOk c.write_statement.result (c.write_statement.new.text ≡ l)) same c.write_statement.ensures.code;
    }

-- ---- a loop's step

pub write_step-returns : goal.write_step-returns
write_step-returns t c =
    record {
      code =
          let t0 = c.args.text.now in let t1 = c.write_leave.new.text in let s = c.args.s.now in
          let q = c.args.params in let n = c.args.locals in let end = c.len-end.result in
          let e1 : t1 ≡ leave_code (declared s) ++ t0 = c.in_ok-write_leave.ensures.code ∙ ap (λ k. leave_code k ++ t0) c.declared_by.ensures.count in
          let there : end ≡ length t1 = c.len-end.ensures.count in
          let none : length t1 - end ≡ 0 = omega arith in
          let same : stmt_code q n 0 (length t1 - end) (length t1 - end) s ++ t1 ≡ block_code (stmt_code q n 0 0 0 s) (declared s) ++ t0 =
          block_made t0 t1 (stmt_code q n 0 (length t1 - end) (length t1 - end) s ++ t1) q n 0 0 0 (length t1 - end) (length t1 - end) s e1 refl none none in
          subst (λ l. OnOk c.write_statement.result (c.write_statement.new.text ≡ l)) same c.write_statement.ensures.code;
    }

-- ---- a loop's body

pub write_body-returns : goal.write_body-returns
write_body-returns t c =
    record {
      code =
          let t0 = c.args.text.now in let s = c.args.s.now in let far = length t0 - c.args.behind + ending s in
          let none : length t0 - c.len-again.result + ending s ≡ ending s = omega (arith, c.len-again.ensures.count) in
          subst (λ z. OnOk c.write_block.result (c.write_block.new.text ≡ block_code (stmt_code c.args.params c.args.locals c.args.locals far z s) (declared s) ++ t0)) none c.write_block.ensures.code;
    }

-- ---- statements in turn

pub write_row-overflow_add-here : goal.write_row-overflow_add-here
write_row-overflow_add-here t c =
    omega (arith, row_tall c.args.locals c.args.row.now, c.declared_by_all.ensures.exact, c.ranges.locals.fits, c.requires.room)

pub write_row-overflow_sub-here : goal.write_row-overflow_sub-here
write_row-overflow_sub-here t c =
    let xs = c.args.row.now in let ys = c.loop-s.yielded in
    let turn = YieldsList-turn (YieldsList-from_rev_slice xs (cc)) ys _ c.loop-s.yielded_by _ _ c.in-Some.s c.in-Some.is c.next.ensures.steps in
    let so_far = YieldsList-so_far (YieldsList-from_rev_slice xs (cc)) ys _ c.loop-s.yielded_by in
    let room = row_room xs ys c.in-Some.s c.args.locals c.loop-s.here (declared_in xs + c.args.locals) turn.0 turn.1 so_far refl c.loop-s.invariant.1 in
    omega (arith, room, c.declared_by-here.ensures.count)

pub write_row-write_item-requires : goal.write_row-write_item-requires
write_row-write_item-requires t c =
    let xs = c.args.row.now in let ys = c.loop-s.yielded in
    let turn = YieldsList-turn (YieldsList-from_rev_slice xs (cc)) ys _ c.loop-s.yielded_by _ _ c.in-Some.s c.in-Some.is c.next.ensures.steps in
    let so_far = YieldsList-so_far (YieldsList-from_rev_slice xs (cc)) ys _ c.loop-s.yielded_by in
    let room = row_room xs ys c.in-Some.s c.args.locals c.loop-s.here (declared_in xs + c.args.locals) turn.0 turn.1 so_far refl c.loop-s.invariant.1 in
    let more = grown c.args.text.now c.loop-s.text _ c.loop-s.invariant.0 in
    let depth = row_depth (λ s. the_size s) xs (map (λ y. y.now) ys) (length ys) c.in-Some.s.now turn.0 turn.1 so_far in
    let next = c.loop-s.here in let here = c.loop-s.here - c.declared_by-here.result in
    let n_is : next ≡ declared c.in-Some.s.now + here = omega (arith, room, c.declared_by-here.ensures.count) in
    let inside = statement_room xs ys c.in-Some.s c.args.locals next here (declared_in xs + c.args.locals) turn.0 turn.1 so_far refl c.loop-s.invariant.1 n_is in (
      omega (arith, depth, c.decreases),
      (
        omega (arith, inside, c.requires.room),
        (
          omega (arith, room, c.declared_by-here.ensures.count, c.requires.params),
          (
            omega (arith, room, c.declared_by-here.ensures.count, c.requires.alive),
            (omega (arith, more, c.requires.exit), omega (arith, more, c.requires.again)),
          ),
        ),
      ),
    )

pub write_row-loop-s-preserved : goal.write_row-loop-s-preserved
write_row-loop-s-preserved t c =
    let xs = c.args.row.now in let ys = c.loop-s.yielded in let y = c.in-Some.s in let x = c.args.exits in
    let old = c.args.text.now in let next = c.loop-s.here in let here = c.loop-s.here - c.declared_by-here.result in
    let turn = YieldsList-turn (YieldsList-from_rev_slice xs (cc)) ys _ c.loop-s.yielded_by _ _ y c.in-Some.is c.next.ensures.steps in
    let so_far = YieldsList-so_far (YieldsList-from_rev_slice xs (cc)) ys _ c.loop-s.yielded_by in
    let room = row_room xs ys y c.args.locals next (declared_in xs + c.args.locals) turn.0 turn.1 so_far refl c.loop-s.invariant.1 in
    let n_is : next ≡ declared y.now + here = omega (arith, room, c.declared_by-here.ensures.count) in
    let count = ap (λ l. declared_in l) (one_more ys y) in (
      row_turn x.params x.alive here next x.exit x.again ys y c.loop-s.text c.write_item.new.text old c.loop-s.invariant.0 n_is c.requires.exit c.requires.again c.in_ok-write_item.ensures.code,
      omega (arith, n_is, count, c.loop-s.invariant.1),
    )

-- ---- statements

pub write_statement-returns-in_ok-write_leave-in-Block : goal.write_statement-returns-in_ok-write_leave-in-Block
write_statement-returns-in_ok-write_leave-in-Block t c =
    let t0 = c.args.text.now in let t1 = c.write_leave.new.text in let x = c.args.exits in let v = c.in-Block.row in
    let k : c.declared_by_all.result ≡ declared_in v.items = c.declared_by_all.ensures.exact ∙ ap (λ l. declared_in l) c.deref-in-Block.ensures.value in
    let row = statements_code x.params c.args.locals x.alive (length t1 - x.exit) (length t1 - x.again) in
    let same : row c.deref-in-Block-2.result.now ++ t1 ≡ stmt_code x.params c.args.locals x.alive (length t0 - x.exit) (length t0 - x.again) c.args.s.now ++ t0 =
    ap (λ l. row l ++ t1) c.deref-in-Block-2.ensures.value
    ∙ block_arm t0 t1 x.params c.args.locals x.alive x.exit x.again c.declared_by_all.result v c.requires.exit c.requires.again k c.in_ok-write_leave-in-Block.ensures.code
    ∙ ap (λ s. stmt_code x.params c.args.locals x.alive (length t0 - x.exit) (length t0 - x.again) s ++ t0) (sym c.in-Block.is) in
    record { code = subst (λ l. OnOk c.write_row.result (c.write_row.new.text ≡ l)) same c.write_row.ensures.code }

pub write_statement-returns-in_ok-write_block-in-If-2 : goal.write_statement-returns-in_ok-write_block-in-If-2
write_statement-returns-in_ok-write_block-in-If-2 t c =
    let t0 = c.args.text.now in let t1 = c.write_block.new.text in let t2 = c.write_past.new.text in let t3 = c.write_block-in-If.new.text in
    let x = c.args.exits in let q = x.params in let n = c.args.locals in let j = x.alive in
    let e1 : t1 ≡ block_at q n j (length t0 - x.exit) (length t0 - x.again) c.in-If.two.value ++ t0 =
    c.in_ok-write_block-in-If.ensures.code ∙ ap (λ z. block_at q n j (length t0 - x.exit) (length t0 - x.again) z ++ t0) c.deref-in-If.ensures in
    let e3 : t3 ≡ block_at q n j (length t2 - x.exit) (length t2 - x.again) c.in-If.one.value ++ t2 =
    c.in_ok-write_block-in-If-2.ensures.code ∙ ap (λ z. block_at q n j (length t2 - x.exit) (length t2 - x.again) z ++ t2) c.deref-in-If-2.ensures in
    let same : expr_code 0 c.deref-in-If-3.result.now ++ (JumpIfFalse (length t3 - c.len-second.result) ∷ t3) ≡ stmt_code q n j (length t0 - x.exit) (length t0 - x.again) c.args.s.now ++ t0 =
    ap (λ z. expr_code 0 z ++ (JumpIfFalse (length t3 - c.len-second.result) ∷ t3)) c.deref-in-If-3.ensures
    ∙ if_arm t0 t1 t2 t3 q n j x.exit x.again c.len-second.result c.len-end.result c.in-If.test.value c.in-If.one.value c.in-If.two.value c.requires.exit c.requires.again
    e1 c.len-end.ensures.count c.len-second.ensures.count c.in_ok-write_past-in-If.ensures.code e3
    ∙ ap (λ z. stmt_code q n j (length t0 - x.exit) (length t0 - x.again) z ++ t0) (sym c.in-If.is) in
    record { code = subst (λ l. OnOk c.write_test.result (c.write_test.new.text ≡ l)) same c.write_test.ensures.code }

pub write_statement-returns-in_ok-write_body-in-While : goal.write_statement-returns-in_ok-write_body-in-While
write_statement-returns-in_ok-write_body-in-While t c =
    let t0 = c.args.text.now in let t1 = c.put-in-While.new.self in let t2 = c.write_step.new.text in let t3 = c.write_body.new.text in
    let x = c.args.exits in let q = x.params in let n = c.args.locals in let behind = c.len-behind.result in
    let step = c.in-While.step.value in let s = c.in-While.body.value in
    let step_code = block_code (stmt_code q n 0 0 0 step) (declared step) in
    let body_code = block_code (stmt_code q n n (ending s + length step_code + 1) (ending s) s) (declared s) in
    let e2 : t2 ≡ step_code ++ t1 = c.in_ok-write_step-in-While.ensures.code ∙ ap (λ z. block_code (stmt_code q n 0 0 0 z) (declared z) ++ t1) c.deref-in-While.ensures in
    let e3 : t3 ≡ body_at q n (length t2 - behind) s ++ t2 = c.in_ok-write_body-in-While.ensures.code ∙ ap (λ z. body_at q n (length t2 - behind) z ++ t2) c.deref-in-While-2.ensures in
    let seen : t3 ≡ body_code ++ (step_code ++ LoopBack 0 ∷ t0) =
    while_arm t0 t1 t2 t3 step_code q n behind s c.in_ok-put-in-While.ensures.before c.len-behind.ensures.count e2 e3 in
    record {
      code =
          subst (λ z. OnOk c.begin_loop.result (c.begin_loop.new.text ≡ stmt_code q n x.alive (length t0 - x.exit) (length t0 - x.again) z ++ t0)) (sym c.in-While.is)
          (subst (λ z. OnOk c.begin_loop.result (c.begin_loop.new.text ≡ while_code (expr_code 0 z) body_code step_code ++ t0)) c.deref-in-While-3.ensures
          (c.begin_loop.ensures.code body_code step_code t0 seen (sym c.len-behind.ensures.count)));
    }

pub write_statement-returns-in_ok-write_body-in-DoWhile : goal.write_statement-returns-in_ok-write_body-in-DoWhile
write_statement-returns-in_ok-write_body-in-DoWhile t c =
    let t0 = c.args.text.now in let t1 = c.put-in-DoWhile.new.self in let t3 = c.write_body-in-DoWhile.new.text in
    let x = c.args.exits in let q = x.params in let n = c.args.locals in let behind = c.len-behind-in-DoWhile.result in
    let s = c.in-DoWhile.body.value in
    let body_code = block_code (stmt_code q n n (ending s + 0 + 1) (ending s) s) (declared s) in
    let e3 : t3 ≡ body_at q n (length t1 - behind) s ++ t1 = c.in_ok-write_body-in-DoWhile.ensures.code ∙ ap (λ z. body_at q n (length t1 - behind) z ++ t1) c.deref-in-DoWhile.ensures in
    let seen : t3 ≡ body_code ++ ([] ++ LoopBack 0 ∷ t0) =
    while_arm t0 t1 t1 t3 [] q n behind s c.in_ok-put-in-DoWhile.ensures.before c.len-behind-in-DoWhile.ensures.count refl e3 in
    record {
      code =
          subst (λ z. OnOk c.begin_at_body.result (c.begin_at_body.new.text ≡ stmt_code q n x.alive (length t0 - x.exit) (length t0 - x.again) z ++ t0)) (sym c.in-DoWhile.is)
          (subst (λ z. OnOk c.begin_at_body.result (c.begin_at_body.new.text ≡ Jump (length (expr_code 0 z) + 2) ∷ (while_code (expr_code 0 z) body_code [] ++ t0))) c.deref-in-DoWhile-2.ensures
          (c.begin_at_body.ensures.code body_code t0 seen (sym c.len-behind-in-DoWhile.ensures.count)));
    }
