-- The code of statements, loops and bodies does what they do.
use Rattle.std.proofs.Common.{◌≡◌, ℕ, zero, suc, ◌+◌, ◌-◌, ◌<◌, ◌≤◌, ◌^◌, List, [], ◌∷◌, ◌++◌, length, Some, refl, sym, ap, ◌∙◌, subst, arith, append-nil, length-append}
use Rattle.std.specs.Prelude.{true, false}
use Rattle.ang_kinds.specs.declared.fault.Fault.TheVariants.{Null as NullFault, Budget, Memory}
use Rattle.ang_meaning.specs.declared.slot.Slot.{Slot}
use Rattle.ang_meaning.specs.declared.slot.Slot.TheVariants.{Bits}
use Rattle.ang_meaning.specs.declared.routine.Routine.{Routine}
use Rattle.ang_meaning.specs.declared.routine.Callee.{Callee}
use Rattle.ang_meaning.specs.declared.routine.Passing.{Passing}
use Rattle.ang_meaning.specs.World.{World, Tried, Yes, No, give, give_all, memory_step, or_else}
use Rattle.ang_meaning.specs.Environment.{Environment, params_in, params_of}
use Rattle.ang_meaning.specs.Results.{Ran, Went, Returned, Halted, Broken, Continued, Reply, Yields, Raises, Calls, drop_some, on_test, ticked, leave, then_run, yielded, finished, enter}
use Rattle.ang_core.specs.declared.tree.CoreExpression.{CoreExpression}
use Rattle.ang_core.specs.declared.tree.CoreStatement.{CoreStatement, Row_of-CoreStatement, end_of-CoreStatement, more_of-CoreStatement}
use Rattle.ang_core.specs.declared.tree.CoreStatement.TheVariants.{Skip, Evaluate, Declare, Block', If', While', DoWhile', Return as ReturnOf, Break, Continue}
use Rattle.ang_core.specs.Meaning.{Bodies, Passes, eval, turned, run, run_row, pass, body_at, pass_at, called_with}
use Rattle.ang_core.specs.Sound.{out_count, declared, row_declared, Sound, SoundStatement, SoundRow, LinksFit, AreSound}
use Rattle.ang_code.specs.declared.instruction.Frame.{Frame}
use Rattle.ang_code.specs.declared.instruction.Instruction.{Instruction}
use Rattle.ang_code.specs.declared.instruction.Instruction.TheVariants.{PushBits, Drop, JumpIfFalse, Jump, Tick, LoopBack, Return}
use Rattle.ang_code.specs.Machine.{Texts, Config, At, Over, Finished, Faulted, fault, call_begins}
use Rattle.ang_code.proofs.Steps.{HasAt, has_front, has_back, has_all, Comes, here, comes_to, one_step, then_step, roomy_on}
use Rattle.ang_gen.specs.Code.{past_code, either_code, expr_code, leave_code, block_code, stmt_code, row_code, loop_code, body_code}
use Rattle.ang_gen.specs.Heights.{Below, BelowStatement, BelowRow, BelowBody}
use Rattle.ang_gen.specs.BodyBehaves.{outcome_of, IsCode, Behaves}
use Rattle.ang_gen.proofs.Stacks.{give_append, length_drop, length_outs}
use Rattle.ang_gen.proofs.Relate.{Running, at, Exits, EvalGoes, ReplyGoes, returning, RunGoes}
use Rattle.ang_gen.proofs.Exprs.{eval_runs}
use Rattle.ang_gen.proofs.Stmts.{no_true, Stands, after_run, run_ends, block_goes, value_goes, seq_goes, past_run, branch_run, tick_run, exit_goes, in_no_loop, caught_goes, return_goes}

-- no loop: no exits
abbrev pub no_loop_at : ℕ → Exits
no_loop_at place = record { loop = false; alive = 0; out = place; again = place }

-- a loop stands at a place where n locals are alive
pub record LoopStands (z : Environment) (code : Texts) (r : Running) (q h : ℕ) (e : CoreExpression) (s step : CoreStatement) (pc n : ℕ) : Type 0 where
  pub has : HasAt (code.text r.of) pc (loop_code q n e s step)
  pub params : q ≤ n
  pub sound_test : Sound z r.of.home n e
  pub low_test : Below h n e
  pub sound_body : SoundStatement z r.of.home true n s
  pub low_body : BelowStatement h n s
  pub sound_step : SoundStatement z r.of.home false n step
  pub low_step : BelowStatement h n step

module _ (z : Environment) (code : Texts) (r : Running) (ps : List Passing) (ps_is : params_of z r.of ≡ ps) (h : ℕ) (room_is : r.room ≡ length r.below + h) (counted : h < 2 ^ 64) (links : LinksFit z) (body : Calls) (passes : Passes) (fuel : ℕ)
    (bodies_go : (g : Routine) (qs : List Passing) (vs s : List Slot) (fr2 : List Frame) (t : ℕ) (w : World) → length fr2 ≡ suc (length r.callers) → z.params g ≡ Some qs → length qs ≡ length vs → t < fuel → ReplyGoes z code (At g 0 (length (vs ++ s) + code.height g) (vs ++ s) fr2 t w) fr2 s (out_count qs) t (body g vs t w))
    (passes_go : (y : Exits) (n : ℕ) (e : CoreExpression) (s step : CoreStatement) (pc : ℕ) (ls : List Slot) (t : ℕ) (w : World) → length ls ≡ n → LoopStands z code r (length ps) h e s step pc n → t < fuel → RunGoes z code r ps (at r (pc + 1) (ls ++ r.below) t w) (pc + length (loop_code (length ps) n e s step)) y n n t (passes e s step ls t w)) where
  abbrev calls : Callee → List Slot → ℕ → World → Reply
  calls = enter z body (length r.callers) r.of.home

  abbrev q : ℕ
  q = length ps

  expr_runs : (e : CoreExpression) (pc n : ℕ) (ls : List Slot) (t : ℕ) (w : World) → length ls ≡ n → HasAt (code.text r.of) pc (expr_code 0 e) → Sound z r.of.home n e → Below h n e → t ≤ fuel → EvalGoes z code r (at r pc (ls ++ r.below) t w) (pc + length (expr_code 0 e)) [] n t (eval z r.of.home calls e ls t w)
  expr_runs e pc n ls t w n_is has ok low le =
      let none : n ≡ 0 + length ls = omega (arith, n_is) in
      subst (λ m. EvalGoes z code r (at r pc (ls ++ r.below) t w) (pc + length (expr_code 0 e)) [] m t (eval z r.of.home calls e ls t w)) n_is
      (eval_runs z code r h room_is counted links body fuel bodies_go e pc [] ls t w has (subst (λ m. Sound z r.of.home m e) (sym n_is) ok) (subst (λ m. Below h m e) none low) le)

  -- the rest of a loop's pass, from the body's first instruction
  turn_runs : (y : Exits) (n : ℕ) (e : CoreExpression) (s step : CoreStatement) (pc : ℕ) (ls : List Slot) (t : ℕ) (w : World) (inside : Ran) (steps_of : List Slot → ℕ → World → Ran) → LoopStands z code r q h e s step pc n → t ≤ fuel →
      (let ss = stmt_code q n n (length (leave_code (declared s)) + length (block_code (stmt_code q n 0 0 0 step) (declared step)) + 1) (length (leave_code (declared s))) s in let p1 = pc + 1 + length (expr_code 0 e) + 1 in let p3 = p1 + length ss + length (leave_code (declared s)) in let end = pc + length (loop_code q n e s step) in let x : Exits = record { loop = true; alive = n; out = end; again = p3 } in
      (Stands code r q ss p1 (length (leave_code (declared s)) + length (block_code (stmt_code q n 0 0 0 step) (declared step)) + 1) (length (leave_code (declared s))) n x → RunGoes z code r ps (at r p1 (ls ++ r.below) t w) (p1 + length ss) x n (declared s + n) t inside) →
      ((ls2 : List Slot) (t2 : ℕ) (w2 : World) → length ls2 ≡ n → t2 ≤ t → Stands code r q (stmt_code q n 0 0 0 step) p3 0 0 n (no_loop_at (p3 + length (stmt_code q n 0 0 0 step) + 0)) → RunGoes z code r ps (at r p3 (ls2 ++ r.below) t2 w2) (p3 + length (stmt_code q n 0 0 0 step)) (no_loop_at (p3 + length (stmt_code q n 0 0 0 step) + 0)) n (declared step + n) t2 (steps_of ls2 t2 w2)) →
      RunGoes z code r ps (at r p1 (ls ++ r.below) t w) end y n n t (turned n inside steps_of (λ ls' t' w'. passes e s step ls' t' w')))
  turn_runs y n e s step pc ls t w inside steps_of st le body_go step_go =
      let ce = expr_code 0 e in
      let sp = stmt_code q n 0 0 0 step in
      let cp = block_code sp (declared step) in
      let lb = leave_code (declared s) in
      let ss = stmt_code q n n (length lb + length cp + 1) (length lb) s in
      let cs = block_code ss (declared s) in
      let back_by = length ce + 1 + length cs + length cp in
      let end = pc + length (loop_code q n e s step) in
      let p1 = pc + 1 + length ce + 1 in
      let p3 = p1 + length ss + length lb in
      let x : Exits = record { loop = true; alive = n; out = end; again = p3 } in
      let h1 = has_back (code.text r.of) (pc + 1) ce _ st.has.1 in
      let h2 = has_back (code.text r.of) p1 cs _ h1.1 in
      let cs_len = length-append ss lb in
      let p3_is : p1 + length cs ≡ p3 = omega (arith, cs_len) in
      let h3 = subst (λ j. HasAt (code.text r.of) j (cp ++ LoopBack back_by ∷ [])) p3_is h2 in
      let in_body = has_front (code.text r.of) p1 cs _ h1.1 in
      let end_len1 = length-append ce (JumpIfFalse (length cs + length cp + 1) ∷ (cs ++ (cp ++ LoopBack back_by ∷ []))) in
      let end_len2 = length-append cs (cp ++ LoopBack back_by ∷ []) in
      let end_len3 = length-append cp (LoopBack back_by ∷ []) in
      let p4 = p3 + length cp in
      let end_is : p4 + 1 ≡ end = omega (arith, end_len1, end_len2, end_len3, cs_len) in
      let start_is : p4 - back_by ≡ pc + 1 = omega (arith, cs_len) in
      let stands : Stands code r q ss p1 (length lb + length cp + 1) (length lb) n x = record { has = has_front (code.text r.of) p1 ss _ in_body; params = st.params; alive = omega arith; out = omega (arith, end_is); again = refl } in
      let nowhere = no_loop_at (p3 + length sp + 0) in
      let step_stands : Stands code r q sp p3 0 0 n nowhere = record { has = has_front (code.text r.of) p3 sp _ (has_front (code.text r.of) p3 cp _ h3); params = st.params; alive = omega arith; out = refl; again = refl } in
      let again = λ (ls' : List Slot) (t' : ℕ) (w' : World). ticked t' (Halted Budget ls' w') (λ t''. passes e s step ls' t'' w') in
      caught_goes z code r ps x y _ (p1 + length ss) (declared s) n t inside (λ ls2 t2 w2. then_run (leave (length ls2) (steps_of ls2 t2 w2)) again) st.params refl refl
      (has_back (code.text r.of) p1 ss _ in_body) (body_go stands)
      (λ ls2 t2 w2 n2_is lt2.
      let inner = step_go ls2 t2 w2 n2_is lt2 step_stands in
      let block = block_goes z code r ps nowhere sp (declared step) _ p3 n t2 (steps_of ls2 t2 w2) st.params (omega arith) (has_front (code.text r.of) p3 cp _ h3) inner in
      let block2 = subst (λ m. RunGoes z code r ps (at r p3 (ls2 ++ r.below) t2 w2) p4 nowhere n n t2 (leave m (steps_of ls2 t2 w2))) (sym n2_is) block in
      let block3 = in_no_loop z code r ps nowhere y _ p4 n n t2 (leave (length ls2) (steps_of ls2 t2 w2)) refl block2 in
      seq_goes z code r ps y _ p4 end n n n n t2 (leave (length ls2) (steps_of ls2 t2 w2)) again (omega arith) block3
      (λ ls3 t3 w3 n3_is lt3.
      tick_run z code r ps y _ end n n t3 ls3 w3 (λ t4. at r (p4 - back_by) (ls3 ++ r.below) t4 w3) (λ t4. passes e s step ls3 t4 w3)
      (one_step z code r.of p4 r.room (ls3 ++ r.below) r.callers t3 w3 (LoopBack back_by) (has_back (code.text r.of) p3 cp _ h3).0)
      (λ t4 lt4.
      subst (λ j. RunGoes z code r ps (at r j (ls3 ++ r.below) t4 w3) end y n n t4 (passes e s step ls3 t4 w3)) (sym start_is)
      (passes_go y n e s step pc ls3 t4 w3 n3_is st (omega arith)))))

  to_0 : (x : Exits) (start : Config) (pc n t : ℕ) (o : Ran) → RunGoes z code r ps start pc x n n t o → RunGoes z code r ps start pc x n (0 + n) t o
  to_0 x start pc n t o p = let e : n ≡ 0 + n = omega arith in subst (λ m. RunGoes z code r ps start pc x n m t o) e p

  block_goes_from_0 : (x : Exits) (cs : List Instruction) (d : ℕ) (start : Config) (pc n t : ℕ) (o : Ran) → q ≤ n → x.alive ≤ n → HasAt (code.text r.of) pc (block_code cs d) → RunGoes z code r ps start (pc + length cs) x n (d + n) t o → RunGoes z code r ps start (pc + length (block_code cs d)) x n (0 + n) t (leave n o)
  block_goes_from_0 x cs d start pc n t o pa al has p = to_0 x start (pc + length (block_code cs d)) n t (leave n o) (block_goes z code r ps x cs d start pc n t o pa al has p)

  mutual
    stmt_runs : (s : CoreStatement) (x : Exits) (kb kc pc n : ℕ) (ls : List Slot) (t : ℕ) (w : World) → length ls ≡ n → Stands code r q (stmt_code q n x.alive kb kc s) pc kb kc n x → SoundStatement z r.of.home x.loop n s → BelowStatement h n s → t ≤ fuel → RunGoes z code r ps (at r pc (ls ++ r.below) t w) (pc + length (stmt_code q n x.alive kb kc s)) x n (declared s + n) t (run z r.of.home calls passes s ls t w)
    stmt_runs Skip x kb kc pc n ls t w n_is st ok low le =
        (comes_to z code _ _ _ (here z code _) (let e : pc ≡ pc + 0 = omega arith in ap (λ j. at r j (ls ++ r.below) t w) e), omega (arith, n_is), omega arith)
    stmt_runs (Evaluate e) x kb kc pc n ls t w n_is st ok low le =
        let ce = expr_code 0 e.value in
        let len : pc + length ce + 1 ≡ pc + length (ce ++ Drop ∷ []) = omega (arith, length-append ce (Drop ∷ [])) in
        run_ends z code r ps x _ _ _ n (0 + n) t _ len
        (value_goes z code r ps x _ (pc + length ce) _ n n (0 + n) t (eval z r.of.home calls e.value ls t w) (λ v ls' t' w'. Went ls' t' (give v w')) (expr_runs e.value pc n ls t w n_is (has_front (code.text r.of) pc ce _ st.has) ok low le)
        (λ v ls' t' w' n2_is lt. (one_step z code r.of (pc + length ce) r.room (v ∷ (ls' ++ r.below)) r.callers t' w' Drop (has_back (code.text r.of) pc ce _ st.has).0, omega (arith, n2_is), omega arith)))
    stmt_runs (Declare e) x kb kc pc n ls t w n_is st ok low le =
        value_goes z code r ps x _ (pc + length (expr_code 0 e.value)) _ n n (1 + n) t (eval z r.of.home calls e.value ls t w) (λ v ls' t' w'. Went (v ∷ ls') t' w') (expr_runs e.value pc n ls t w n_is st.has ok low le)
        (λ v ls' t' w' n2_is lt. (here z code _, omega (arith, n2_is), omega arith))
    stmt_runs (Block' shape row) x kb kc pc n ls t w n_is st ok low le =
        let d = row_declared row in
        let l = length (leave_code d) in
        let cr = row_code q n x.alive (kb + l) (kc + l) row in
        let len = length-append cr (leave_code d) in
        let inner_st : Stands code r q cr pc (kb + l) (kc + l) n x = record { has = has_front (code.text r.of) pc cr _ st.has; params = st.params; alive = st.alive; out = omega (arith, len, st.out); again = omega (arith, len, st.again) } in
        let inner = row_runs row x (kb + l) (kc + l) pc n ls t w n_is inner_st ok low le in
        subst (λ m. RunGoes z code r ps (at r pc (ls ++ r.below) t w) (pc + length (block_code cr d)) x n (0 + n) t (leave m (run_row z r.of.home calls passes row ls t w))) (sym n_is)
        (block_goes_from_0 x cr d _ pc n t (run_row z r.of.home calls passes row ls t w) st.params st.alive st.has inner)
    stmt_runs (If' e x1 a x2 b) x kb kc pc n ls t w n_is st ok low le =
        let ce = expr_code 0 e.value in
        let la = length (leave_code (declared a)) in
        let lb = length (leave_code (declared b)) in
        let sb = stmt_code q n x.alive (kb + lb) (kc + lb) b in
        let cb = block_code sb (declared b) in
        let cp = past_code (length cb) in
        let ka = kb + length cb + length cp + la in let ja = kc + length cb + length cp + la in
        let sa = stmt_code q n x.alive ka ja a in
        let ca = block_code sa (declared a) in
        let p = pc + length ce in
        let p1 = p + 1 + length ca in
        let p2 = p1 + length cp in
        let end = pc + length (either_code ce ca cb) in
        let h1 = has_back (code.text r.of) pc ce _ st.has in
        let h2 = has_back (code.text r.of) (p + 1) ca _ h1.1 in
        let at_past = has_front (code.text r.of) p1 cp cb h2 in
        let at_b = has_back (code.text r.of) p1 cp cb h2 in
        let len1 = length-append ce (JumpIfFalse (length ca + length cp) ∷ (ca ++ (cp ++ cb))) in
        let len2 = length-append ca (cp ++ cb) in
        let len3 = length-append cp cb in
        let end_is : p2 + length cb ≡ end = omega (arith, len1, len2, len3) in
        let len_a = length-append sa (leave_code (declared a)) in
        let len_b = length-append sb (leave_code (declared b)) in
        let at_a = has_front (code.text r.of) (p + 1) ca _ h1.1 in
        let st_a : Stands code r q sa (p + 1) ka ja n x = record { has = has_front (code.text r.of) (p + 1) sa _ at_a; params = st.params; alive = st.alive; out = omega (arith, st.out, end_is, len_a); again = omega (arith, st.again, end_is, len_a) } in
        let st_b : Stands code r q sb p2 (kb + lb) (kc + lb) n x = record { has = has_front (code.text r.of) p2 sb _ at_b; params = st.params; alive = st.alive; out = omega (arith, st.out, end_is, len_b); again = omega (arith, st.again, end_is, len_b) } in
        let to_else : p2 ≡ p + 1 + (length ca + length cp) = omega arith in
        value_goes z code r ps x _ p end n n (0 + n) t (eval z r.of.home calls e.value ls t w)
        (λ v ls' t' w'. on_test v (Halted NullFault ls' (give v w')) (leave (length ls') (run z r.of.home calls passes b ls' t' w')) (leave (length ls') (run z r.of.home calls passes a ls' t' w')))
        (expr_runs e.value pc n ls t w n_is (has_front (code.text r.of) pc ce _ st.has) ok.0 low.0 le)
        (λ v ls' t' w' n2_is lt.
        let one = run z r.of.home calls passes a ls' t' w' in let two = run z r.of.home calls passes b ls' t' w' in
        let b1 = block_goes_from_0 x sa (declared a) _ (p + 1) n t' one st.params st.alive at_a (stmt_runs a x ka ja (p + 1) n ls' t' w' n2_is st_a ok.1 low.1 (omega arith)) in
        let b2 = block_goes_from_0 x sb (declared b) _ p2 n t' two st.params st.alive at_b (stmt_runs b x (kb + lb) (kc + lb) p2 n ls' t' w' n2_is st_b ok.2 low.2 (omega arith)) in
        subst (λ m. RunGoes z code r ps (at r p (v ∷ (ls' ++ r.below)) t' w') end x n (0 + n) t' (on_test v (Halted NullFault ls' (give v w')) (leave m two) (leave m one))) (sym n2_is)
        (branch_run z code r ps x _ end n (0 + n) t' ls' w' v _ _ (leave n two) (leave n one)
        (one_step z code r.of p r.room (v ∷ (ls' ++ r.below)) r.callers t' w' (JumpIfFalse (length ca + length cp)) h1.0)
        (subst (λ j. RunGoes z code r ps (at r j (ls' ++ r.below) t' w') end x n (0 + n) t' (leave n two)) to_else
        (run_ends z code r ps x _ _ _ n (0 + n) t' (leave n two) end_is b2))
        (run_ends z code r ps x _ _ _ n (0 + n) t' (leave n one) end_is
        (past_run z code r ps x _ p1 (length cb) n (0 + n) t' (leave n one) at_past b1))))
    stmt_runs (While' e x1 s x2 step) x kb kc pc n ls t w n_is st ok low le =
        let loop : LoopStands z code r q h e.value s step pc n = record { has = st.has; params = st.params; sound_test = ok.0; low_test = low.0; sound_body = ok.1; low_body = low.1; sound_step = ok.2; low_step = low.2 } in
        let c = loop_code q n e.value s step in
        to_0 x _ (pc + length c) n t _
        (tick_run z code r ps x _ (pc + length c) n n t ls w (λ t'. at r (pc + 1) (ls ++ r.below) t' w) (λ t'. passes e.value s step ls t' w)
        (one_step z code r.of pc r.room (ls ++ r.below) r.callers t w Tick st.has.0)
        (λ t' lt. passes_go x n e.value s step pc ls t' w n_is loop (omega arith)))
    stmt_runs (DoWhile' e x1 s) x kb kc pc n ls t w n_is st ok low le =
        let ce = expr_code 0 e.value in
        let c = loop_code q n e.value s Skip in
        let p1 = pc + 1 + 1 + length ce + 1 in
        let loop : LoopStands z code r q h e.value s Skip (pc + 1) n = record { has = st.has.1; params = st.params; sound_test = ok.0; low_test = low.0; sound_body = ok.1; low_body = low.1; sound_step = tt; low_step = tt } in
        let there : pc + 1 + (length ce + 2) ≡ p1 = omega arith in
        let p = comes_to z code _ _ _ (one_step z code r.of pc r.room (ls ++ r.below) r.callers t w (Jump (length ce + 2)) st.has.0) (ap (λ j. at r j (ls ++ r.below) t w) there) in
        let inside = run z r.of.home calls passes s ls t w in
        let nothing = λ (ls' : List Slot) (t' : ℕ) (w' : World). Went ls' t' w' in
        let turn = turn_runs x n e.value s Skip (pc + 1) ls t w inside nothing loop le
        (λ body_st. stmt_runs s _ _ _ p1 n ls t w n_is body_st ok.1 low.1 le)
        (λ ls2 t2 w2 n2_is lt2 step_st. (comes_to z code _ _ _ (here z code _) (let e2 : p1 + length (stmt_code q n n (length (leave_code (declared s)) + 0 + 1) (length (leave_code (declared s))) s) + length (leave_code (declared s)) ≡ p1 + length (stmt_code q n n (length (leave_code (declared s)) + 0 + 1) (length (leave_code (declared s))) s) + length (leave_code (declared s)) + 0 = omega arith in ap (λ j. at r j (ls2 ++ r.below) t2 w2) e2), omega (arith, n2_is), omega arith)) in
        let len : pc + 1 + length c ≡ pc + length (Jump (length ce + 2) ∷ c) = omega arith in
        let go = λ (m : ℕ). turned m inside nothing (λ ls' t' w'. passes e.value s Skip ls' t' w') in
        to_0 x _ (pc + length (Jump (length ce + 2) ∷ c)) n t _
        (run_ends z code r ps x _ _ _ n n t (go (length ls)) len
        (after_run z code r ps x _ _ (pc + 1 + length c) n n n n t t (go (length ls)) p (omega arith) refl (omega arith)
        (subst (λ m. RunGoes z code r ps (at r p1 (ls ++ r.below) t w) (pc + 1 + length c) x n n t (go m)) (sym n_is) turn)))
    stmt_runs (ReturnOf e) x kb kc pc n ls t w n_is st ok low le =
        let ce = expr_code 0 e.value in
        value_goes z code r ps x _ (pc + length ce) _ n n (0 + n) t (eval z r.of.home calls e.value ls t w) (λ v ls' t' w'. Returned v ls' t' w') (expr_runs e.value pc n ls t w n_is (has_front (code.text r.of) pc ce _ st.has) ok low le)
        (λ v ls' t' w' n2_is lt.
        (return_goes z code r ps _ (pc + length ce) (n - q) t' v ls' w' ps_is (has_back (code.text r.of) pc ce _ st.has).0 (omega (arith, n2_is)) (omega (arith, n2_is, st.params)) (here z code _), omega arith, omega (arith, n2_is)))
    stmt_runs Break x kb kc pc n ls t w n_is st ok low le =
        let i_is : n - x.alive ≡ length ls - x.alive = omega (arith, n_is) in
        let long = length-append (leave_code (n - x.alive)) (Jump kb ∷ []) in
        (exit_goes z code r ps x x.out pc kb x.alive t ls w (subst (λ i. HasAt (code.text r.of) pc (leave_code i ++ Jump kb ∷ [])) i_is st.has) (subst (λ i. x.out ≡ pc + length (leave_code i) + 1 + kb) i_is (omega (arith, st.out, long))), omega arith, omega (arith, n_is), ok)
    stmt_runs Continue x kb kc pc n ls t w n_is st ok low le =
        let i_is : n - x.alive ≡ length ls - x.alive = omega (arith, n_is) in
        let long = length-append (leave_code (n - x.alive)) (Jump kc ∷ []) in
        (exit_goes z code r ps x x.again pc kc x.alive t ls w (subst (λ i. HasAt (code.text r.of) pc (leave_code i ++ Jump kc ∷ [])) i_is st.has) (subst (λ i. x.again ≡ pc + length (leave_code i) + 1 + kc) i_is (omega (arith, st.again, long))), omega arith, omega (arith, n_is), ok)

    row_runs : {k : _} → (row : Row_of-CoreStatement k) (x : Exits) (kb kc pc n : ℕ) (ls : List Slot) (t : ℕ) (w : World) → length ls ≡ n → Stands code r q (row_code q n x.alive kb kc row) pc kb kc n x → SoundRow z r.of.home x.loop n row → BelowRow h n row → t ≤ fuel → RunGoes z code r ps (at r pc (ls ++ r.below) t w) (pc + length (row_code q n x.alive kb kc row)) x n (row_declared row + n) t (run_row z r.of.home calls passes row ls t w)
    row_runs end_of-CoreStatement x kb kc pc n ls t w n_is st ok low le =
        (comes_to z code _ _ _ (here z code _) (let e : pc ≡ pc + 0 = omega arith in ap (λ j. at r j (ls ++ r.below) t w) e), omega (arith, n_is), omega arith)
    row_runs (more_of-CoreStatement s rest) x kb kc pc n ls t w n_is st ok low le =
        let m = declared s + n in
        let cr = row_code q m x.alive kb kc rest in
        let cs = stmt_code q n x.alive (kb + length cr) (kc + length cr) s in
        let len = length-append cs cr in
        let end_is : pc + length cs + length cr ≡ pc + length (cs ++ cr) = omega (arith, len) in
        let st1 : Stands code r q cs pc (kb + length cr) (kc + length cr) n x = record { has = has_front (code.text r.of) pc cs cr st.has; params = st.params; alive = st.alive; out = omega (arith, st.out, len); again = omega (arith, st.again, len) } in
        let st2 : Stands code r q cr (pc + length cs) kb kc m x = record { has = has_back (code.text r.of) pc cs cr st.has; params = omega (arith, st.params); alive = omega (arith, st.alive); out = omega (arith, st.out, len); again = omega (arith, st.again, len) } in
        let total : row_declared rest + m ≡ row_declared rest + declared s + n = omega arith in
        subst (λ k2. RunGoes z code r ps (at r pc (ls ++ r.below) t w) (pc + length (cs ++ cr)) x n k2 t (run_row z r.of.home calls passes (more_of-CoreStatement s rest) ls t w)) total
        (run_ends z code r ps x _ _ _ n (row_declared rest + m) t _ end_is
        (seq_goes z code r ps x _ (pc + length cs) (pc + length cs + length cr) n m m (row_declared rest + m) t (run z r.of.home calls passes s ls t w) (λ ls' t' w'. run_row z r.of.home calls passes rest ls' t' w') (omega arith)
        (stmt_runs s x (kb + length cr) (kc + length cr) pc n ls t w n_is st1 ok.0 low.0 le)
        (λ ls' t' w' n2_is lt. row_runs rest x kb kc (pc + length cs) m ls' t' w' n2_is st2 ok.1 low.1 (omega arith))))

  -- one pass of a loop, its tick taken
  pass_runs : (y : Exits) (n : ℕ) (e : CoreExpression) (s step : CoreStatement) (pc : ℕ) (ls : List Slot) (t : ℕ) (w : World) → length ls ≡ n → LoopStands z code r q h e s step pc n → t ≤ fuel → RunGoes z code r ps (at r (pc + 1) (ls ++ r.below) t w) (pc + length (loop_code q n e s step)) y n n t (pass z r.of.home calls passes e s step ls t w)
  pass_runs y n e s step pc ls t w n_is st le =
      let ce = expr_code 0 e in
      let cp = block_code (stmt_code q n 0 0 0 step) (declared step) in
      let lb = leave_code (declared s) in
      let cs = block_code (stmt_code q n n (length lb + length cp + 1) (length lb) s) (declared s) in
      let skip = length cs + length cp + 1 in
      let end = pc + length (loop_code q n e s step) in
      let p0 = pc + 1 + length ce in
      let h1 = has_back (code.text r.of) (pc + 1) ce _ st.has.1 in
      let end_len1 = length-append ce (JumpIfFalse skip ∷ (cs ++ (cp ++ LoopBack (length ce + 1 + length cs + length cp) ∷ []))) in
      let end_len2 = length-append cs (cp ++ LoopBack (length ce + 1 + length cs + length cp) ∷ []) in
      let end_len3 = length-append cp (LoopBack (length ce + 1 + length cs + length cp) ∷ []) in
      let out_is : p0 + 1 + skip ≡ end = omega (arith, end_len1, end_len2, end_len3) in
      let next = λ (ls' : List Slot) (t' : ℕ) (w' : World). passes e s step ls' t' w' in
      value_goes z code r ps y _ p0 end n n n t (eval z r.of.home calls e ls t w)
      (λ v ls' t' w'. on_test v (Halted NullFault ls' (give v w')) (Went ls' t' w') (turned (length ls') (run z r.of.home calls passes s ls' t' w') (run z r.of.home calls passes step) next))
      (expr_runs e (pc + 1) n ls t w n_is (has_front (code.text r.of) (pc + 1) ce _ st.has.1) st.sound_test st.low_test le)
      (λ v ls' t' w' n2_is lt.
      let inside = run z r.of.home calls passes s ls' t' w' in
      let turn = turn_runs y n e s step pc ls' t' w' inside (run z r.of.home calls passes step) st (omega arith)
      (λ body_st. stmt_runs s _ _ _ (p0 + 1) n ls' t' w' n2_is body_st st.sound_body st.low_body (omega arith))
      (λ ls2 t2 w2 n3_is lt2 step_st. stmt_runs step _ 0 0 _ n ls2 t2 w2 n3_is step_st st.sound_step st.low_step (omega arith)) in
      branch_run z code r ps y _ end n n t' ls' w' v _ _ (Went ls' t' w') (turned (length ls') inside (run z r.of.home calls passes step) next)
      (one_step z code r.of p0 r.room (v ∷ (ls' ++ r.below)) r.callers t' w' (JumpIfFalse skip) h1.0)
      (comes_to z code _ _ _ (here z code _) (ap (λ j. at r j (ls' ++ r.below) t' w') out_is), n2_is, omega arith)
      (subst (λ m. RunGoes z code r ps (at r (p0 + 1) (ls' ++ r.below) t' w') end y n n t' (turned m inside (run z r.of.home calls passes step) next)) (sym n2_is) turn))

  -- a value goes to the caller
  yield_goes : (start : Config) (t : ℕ) (v : Slot) (ls : List Slot) (t' : ℕ) (w : World) → Comes z code start (returning r ps v ls t' w) → t' ≤ t → q ≤ length ls → ReplyGoes z code start r.callers r.below (out_count ps) t (yielded ps v ls t' w)
  yield_goes start t v ls t' w p le long =
      let i = length ls - length ps in
      let len : length (drop_some i ls) ≡ length ps = length_drop i ls (omega arith) ∙ omega arith in
      (p, le, length_outs ps (drop_some i ls) len)

  -- a whole body, which is in no loop
  finish_goes : (x : Exits) (start : Config) (pc n t : ℕ) (s : CoreStatement) (o : Ran) → x.loop ≡ false → n ≡ declared s + q → n < h → HasAt (code.text r.of) pc (PushBits 0 ∷ Return (declared s) ∷ []) → RunGoes z code r ps start pc x q n t o → ReplyGoes z code start r.callers r.below (out_count ps) t (finished ps o)
  finish_goes x start pc n t s (Went ls t' w) no_loop n_is low has p =
      let stack = ls ++ r.below in
      let fits : length stack < r.room = omega (arith, room_is, p.1, low, length-append ls r.below) in
      let p1 = comes_to z code start _ (at r (pc + 1) (Bits 0 ∷ stack) t' w) (then_step z code start r.of pc r.room stack r.callers t' w (PushBits 0) has.0 p.0) (roomy_on r.room stack _ fits) in
      let long : q ≤ length ls = omega (arith, p.1, n_is) in
      let k_is : declared s ≡ length ls - length ps = omega (arith, p.1, n_is) in
      yield_goes start t (Bits 0) ls t' w (return_goes z code r ps start (pc + 1) (declared s) t' (Bits 0) ls w ps_is has.1.0 k_is long p1) p.2 long
  finish_goes x start pc n t s (Returned v ls t' w) no_loop n_is low has p = yield_goes start t v ls t' w p.0 p.1 p.2
  finish_goes x start pc n t s (Halted f ls w) no_loop n_is low has p = comes_to z code start _ _ p (ap (λ u. Over (Faulted f u)) (give_append ls r.below w))
  finish_goes x start pc n t s (Broken ls t' w) no_loop n_is low has p = absurd (no_true x.loop no_loop p.3)
  finish_goes x start pc n t s (Continued ls t' w) no_loop n_is low has p = absurd (no_true x.loop no_loop p.3)

  body_runs : (s : CoreStatement) (vs : List Slot) (t : ℕ) (w : World) → length vs ≡ q → code.text r.of ≡ body_code q s → SoundStatement z r.of.home false q s → BelowBody h q s → t ≤ fuel → ReplyGoes z code (at r 0 (vs ++ r.below) t w) r.callers r.below (out_count ps) t (finished ps (run z r.of.home calls passes s vs t w))
  body_runs s vs t w vs_is text ok low le =
      let sc = stmt_code q q 0 0 0 s in
      let tail = PushBits 0 ∷ Return (declared s) ∷ [] in
      let has = subst (λ l. HasAt l 0 (sc ++ tail)) (sym text) (has_all (sc ++ tail) []) in
      let x = no_loop_at (0 + length sc + 0) in
      let st : Stands code r q sc 0 0 0 q x = record { has = has_front (code.text r.of) 0 sc tail has; params = omega arith; alive = omega arith; out = refl; again = refl } in
      let p = stmt_runs s x 0 0 0 q vs t w vs_is st ok low.inside le in
      finish_goes x _ (0 + length sc) (declared s + q) t s (run z r.of.home calls passes s vs t w) refl refl low.at_end (has_back (code.text r.of) 0 sc tail has) p

-- The program's code is the code of each body, and each body is sound.
module _ (z : Environment) (bodies : Bodies) (code : Texts) (sound : AreSound z bodies) (is_code : IsCode z bodies code) where
  record Follows (n : ℕ) : Type 0 where
    bodies_go : (g : Routine) (ps : List Passing) (vs s : List Slot) (fr : List Frame) (t : ℕ) (w : World) → z.params g ≡ Some ps → length ps ≡ length vs → t < n → ReplyGoes z code (At g 0 (length (vs ++ s) + code.height g) (vs ++ s) fr t w) fr s (out_count ps) t (body_at z bodies n (length fr) g vs t w)
    passes_go : (r : Running) (ps : List Passing) (h : ℕ) (y : Exits) (n1 : ℕ) (e : CoreExpression) (s step : CoreStatement) (pc : ℕ) (ls : List Slot) (t : ℕ) (w : World) → params_of z r.of ≡ ps → r.room ≡ length r.below + h → h < 2 ^ 64 → length ls ≡ n1 → LoopStands z code r (length ps) h e s step pc n1 → t < n → RunGoes z code r ps (at r (pc + 1) (ls ++ r.below) t w) (pc + length (loop_code (length ps) n1 e s step)) y n1 n1 t (pass_at z bodies n (length r.callers) r.of.home e s step ls t w)

  follows : (n : ℕ) → Follows n
  follows zero = record { bodies_go = λ g ps vs s fr t w known count lt. absurd (omega arith); passes_go = λ r ps h y n1 e s step pc ls t w ps_is room_is counted n_is st lt. absurd (omega arith) }
  follows (suc n) =
      let under = follows n in
      let deeper = λ (r : Running) (g : Routine) (qs : List Passing) (vs s : List Slot) (fr2 : List Frame) (t : ℕ) (w : World) (e : length fr2 ≡ suc (length r.callers)) (known : z.params g ≡ Some qs) (count : length qs ≡ length vs) (lt : t < n).
      subst (λ d. ReplyGoes z code (At g 0 (length (vs ++ s) + code.height g) (vs ++ s) fr2 t w) fr2 s (out_count qs) t (body_at z bodies n d g vs t w)) e (under.bodies_go g qs vs s fr2 t w known count lt) in
      record {
        bodies_go = λ g ps vs s fr t w known count lt.
            let r : Running = record { of = g; callers = fr; room = length (vs ++ s) + code.height g; below = s } in
            let h = length ps + code.height g in
            let ps_is : params_of z g ≡ ps = ap params_in known in
            let room_is : r.room ≡ length s + h = omega (arith, length-append vs s, count) in
            let body = body_at z bodies n (suc (length fr)) in
            let passes = pass_at z bodies n (length fr) g.home in
            let counted = is_code.counted g ps known in
            let p = body_runs z code r ps ps_is h room_is counted sound.links body passes n (deeper r) (λ y n1 e s2 step pc ls t2 w2 n_is st lt2. under.passes_go r ps h y n1 e s2 step pc ls t2 w2 ps_is room_is counted n_is st lt2) (bodies g) vs t w (sym count) (is_code.text g ps known) (sound.each g ps known) (is_code.room g ps known) (omega arith) in
            subst (λ qs. ReplyGoes z code (At g 0 (length (vs ++ s) + code.height g) (vs ++ s) fr t w) fr s (out_count ps) t (finished qs (run z g.home (enter z body (length fr) g.home) passes (bodies g) vs t w))) (sym ps_is) p;
        passes_go = λ r ps h y n1 e s step pc ls t w ps_is room_is counted n_is st lt.
            pass_runs z code r ps ps_is h room_is counted sound.links (body_at z bodies n (suc (length r.callers))) (pass_at z bodies n (length r.callers) r.of.home) n (deeper r) (λ y2 n2 e2 s2 step2 pc2 ls2 t2 w2 n2_is st2 lt2. under.passes_go r ps h y2 n2 e2 s2 step2 pc2 ls2 t2 w2 ps_is room_is counted n2_is st2 lt2) y n1 e s step pc ls t w n_is st (omega arith);
      }

  reply_ends : (start : Config) (t k : ℕ) (o : Reply) → ReplyGoes z code start [] [] k t o → Comes z code start (Over (outcome_of o))
  reply_ends start t k (Yields v outs t' w) p = comes_to z code start _ _ p.0 (ap (λ l. Over (Finished v t' (give_all l w))) (append-nil outs))
  reply_ends start t k (Raises x w) p = p

  started : (g : Routine) (ps : List Passing) (vs : List Slot) (t : ℕ) (o : Tried) → z.params g ≡ Some ps → length ps ≡ length vs → Comes z code (or_else o (λ w'. fault Memory vs w') (λ w'. At g 0 (length vs + code.height g) vs [] t w')) (Over (outcome_of (or_else o (λ w'. Raises Memory (give_all vs w')) (λ w'. body_at z bodies (suc t) 0 g vs t w'))))
  started g ps vs t (No w') known count = here z code _
  started g ps vs t (Yes w') known count =
      reply_ends _ t (out_count ps) _ (subst (λ s. ReplyGoes z code (At g 0 (length s + code.height g) s [] t w') [] [] (out_count ps) t (body_at z bodies (suc t) 0 g vs t w')) (append-nil vs) ((follows (suc t)).bodies_go g ps vs [] [] t w' known count (omega arith)))

  called : (budget : ℕ) (g : Routine) (ps : List Passing) (vs : List Slot) (w : World) → z.params g ≡ Some ps → length ps ≡ length vs → Comes z code (call_begins z code budget g vs w) (Over (outcome_of (called_with z bodies budget g vs w)))
  called zero g ps vs w known count = here z code _
  called (suc t) g ps vs w known count = started g ps vs t (memory_step w) known count

  pub behaves : Behaves z bodies code
  behaves = record {
    calls = λ budget g ps vs w known count. let p = called budget g ps vs w known count in (p.count, p.leads);
    initializers = λ ticks g w known. let p = started g [] [] ticks (memory_step w) known refl in (p.count, p.leads);
  }
