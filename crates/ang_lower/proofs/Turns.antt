-- Lowered statements do what their source does, with as many locals as it leaves.
use Rattle.std.proofs.Common.{◌≡◌, ℕ, suc, ◌+◌, ◌≤◌, List, [], ◌∷◌, ◌++◌, length, refl, sym, ap, ◌∙◌, subst, arith, Option, Some, None}
use Rattle.std.specs.Prelude.{Bool, true}
use Rattle.ang_kinds.specs.declared.fault.Fault.TheVariants.{Null, Budget}
use Rattle.ang_typed.specs.Typed as tree
use Rattle.ang_meaning.specs.declared.slot.Slot.{Slot}
use Rattle.ang_meaning.specs.World.{World, give}
use Rattle.ang_meaning.specs.Environment.{Environment}
use Rattle.ang_meaning.specs.Results.{Ran, Went, Halted, ticked, with_value, then_run, leave, caught}
use Rattle.ang_meaning.specs.Bodies.{Callees}
use Rattle.ang_source.specs.Meaning.{evaluate, begin_local, evaluate_or, discarded, branched, run_locals, run_steps, in_block, tested, pass_of}
use Rattle.ang_source.specs.Meaning as source
use Rattle.ang_source.specs.Sound.{Module, Sound, SoundOption, SoundEach, SoundLocals, SoundStatement, SoundStatements, declared, declared_by}
use Rattle.ang_lower.specs.Tree as stmt
use Rattle.ang_lower.specs.LoweredExpr as low
use Rattle.ang_lower.specs.Lowered.{lowered_all, lowered_block, lowered_each, lowered_locals, lowered_loop, lowered_simple, lowered_steps, lowered_stmt}
use Rattle.ang_lower.proofs.PlainMeaning as plain
use Rattle.ang_lower.proofs.PlainMeaning.{eval, run, run_all}
use Rattle.ang_lower.proofs.Ends.{SameRun, SameRunFrom, SameSteps, run_at, run_lower, with_value_same, then_run_same, caught_same, leave_same, ticked_same, test_run, leave_leave, caught_leave, then_went, then_then, then_value, leave_exact, exact_keeps, discarded_exact, steps_same}
use Rattle.ang_lower.proofs.Values.{CalleesAgree, value_same, begin_same, or_same}

-- ---- statements after one another

module _ (z : Environment) (m : ℕ) (k : Callees) (p : plain.Passes) where
  run_append : (a b : List stmt.Stmt) (ls : List Slot) (t : ℕ) (w : World) → run_all z m k p (stmt.stmts (a ++ b)) ls t w ≡ then_run (run_all z m k p (stmt.stmts a) ls t w) (λ ls' t' w'. run_all z m k p (stmt.stmts b) ls' t' w')
  run_append [] b ls t w = refl
  run_append (s ∷ a) b ls t w =
      (λ j. then_run (run z m k p s ls t w) (λ ls' t' w'. run_append a b ls' t' w' j))
      ∙ then_then (run z m k p s ls t w) (λ ls' t' w'. run_all z m k p (stmt.stmts a) ls' t' w') (λ ls' t' w'. run_all z m k p (stmt.stmts b) ls' t' w')

  -- one statement alone
  single : (q n : ℕ) (s : stmt.Stmt) (y : Ran) (ls : List Slot) (t : ℕ) (w : World) → SameRun q n (run z m k p s ls t w) y → SameRun q n (run_all z m k p (stmt.stmts (s ∷ [])) ls t w) y
  single q n s y ls t w h = record { same = then_went (run z m k p s ls t w) ∙ h.same; keeps = h.keeps }

-- the end of a block stays as it is where it has no locals of its own
leave_went : (ls : List Slot) (t : ℕ) (w : World) → leave (length ls) (Went ls t w) ≡ Went ls t w
leave_went ls t w = leave_exact (length ls) (Went ls t w) refl

-- what is promised of a loop where n locals are alive
abbrev pub SoundLoop : Module → ℕ → Option tree.Expr → tree.Stmts → List tree.Expr → Type 0
SoundLoop M n e ss steps = SoundOption M n e × SoundEach M n steps × SoundStatements M true n ss

-- the passes of loops do the same
abbrev pub PassesAgree : Module → plain.Passes → source.Passes → Type 0
PassesAgree M p p' = (n : ℕ) (e : Option tree.Expr) (ss : tree.Stmts) (steps : List tree.Expr) (ls : List Slot) (t : ℕ) (w : World) → length ls ≡ n → SoundLoop M n e ss steps
    → SameRun n n (p (low.lowered_or n 1 e) (lowered_block (lowered_all n ss)) (lowered_steps n steps) ls t w) (p' e ss steps ls t w)

module _ (z : Environment) (m : ℕ) (M : Module) (k k' : Callees) (callees : CalleesAgree M k k') (p : plain.Passes) (p' : source.Passes) (passes : PassesAgree M p p') where
  -- ---- simple statements

  locals_same : (xs : List tree.Local) (n : ℕ) (ls : List Slot) (t : ℕ) (w : World) → length ls ≡ n → SoundLocals M n xs
      → SameRun n (length xs + n) (run_all z m k p (stmt.stmts (lowered_locals n xs)) ls t w) (run_locals z m k' xs ls t w)
  locals_same [] n ls t w l h = record { same = refl; keeps = omega (arith, l) }
  locals_same (x ∷ xs) n ls t w l h =
      let v = eval z m k (low.lowered_begin n x.ty x.initializer) ls t w in
      let rest = λ (ls' : List Slot) (t' : ℕ) (w' : World). run_all z m k p (stmt.stmts (lowered_locals (suc n) xs)) ls' t' w' in
      let r = with_value_same n n (length xs + suc n) v (begin_local z m k' x.ty x.initializer ls t w) (λ u ls' t' w'. rest (u ∷ ls') t' w') (λ u ls' t' w'. run_locals z m k' xs (u ∷ ls') t' w')
      (begin_same z m M k k' callees x.initializer x.ty n ls t w l h.1)
      (λ u ls' t' w' l'. run_lower n (suc n) (length xs + suc n) _ _ (omega arith) (locals_same xs (suc n) (u ∷ ls') t' w' (ap suc l') h.2)) in
      run_at n (length xs + suc n) (length (x ∷ xs) + n) _ _ (omega arith) (record { same = then_value v (λ u ls' t' w'. Went (u ∷ ls') t' w') rest ∙ r.same; keeps = r.keeps })

  discarded_same : (e : tree.Expr) (n : ℕ) (ls : List Slot) (t : ℕ) (w : World) → length ls ≡ n → Sound M n e
      → SameSteps n (run z m k p (stmt.evaluate (low.lowered n e)) ls t w) (discarded (evaluate z m k' e ls t w))
  discarded_same e n ls t w l h =
      let v = value_same z m M k k' callees e n ls t w l h in
      record { same = ap (λ y. with_value y (λ u ls' t' w'. Went ls' t' (give u w'))) v.same; keeps = discarded_exact n (evaluate z m k' e ls t w) v.keeps }

  simple_same : (e : Option tree.Expr) (n : ℕ) (ls : List Slot) (t : ℕ) (w : World) → length ls ≡ n → SoundOption M n e
      → SameRun n n (run z m k p (lowered_simple n e) ls t w) (source.run z m k' p' (tree.expression e) ls t w)
  simple_same None n ls t w l h = record { same = refl; keeps = l }
  simple_same (Some e) n ls t w l h = let d = discarded_same e n ls t w l h in record { same = d.same; keeps = exact_keeps n _ d.keeps }

  each_same : (es : List tree.Expr) (n : ℕ) (ls : List Slot) (t : ℕ) (w : World) → length ls ≡ n → SoundEach M n es
      → SameSteps n (run_all z m k p (stmt.stmts (lowered_each n es)) ls t w) (run_steps z m k' es ls t w)
  each_same [] n ls t w l h = record { same = refl; keeps = l }
  each_same (e ∷ es) n ls t w l h =
      steps_same n (run z m k p (stmt.evaluate (low.lowered n e)) ls t w) (discarded (evaluate z m k' e ls t w)) _ _ (discarded_same e n ls t w l h.0) (λ ls' t' w' l'. each_same es n ls' t' w' l' h.1)

  -- the steps of a loop, in front of whose end nothing is left to give up
  loop_steps : (es : List tree.Expr) (n : ℕ) (ls : List Slot) (t : ℕ) (w : World) → length ls ≡ n → SoundEach M n es
      → SameSteps n (leave (length ls) (run z m k p (lowered_steps n es) ls t w)) (run_steps z m k' es ls t w)
  loop_steps [] n ls t w l h = record { same = leave_went ls t w; keeps = l }
  loop_steps (e ∷ es) n ls t w l h =
      let s = each_same (e ∷ es) n ls t w l h in
      let inside = run_all z m k p (stmt.stmts (lowered_each n (e ∷ es))) ls t w in
      let y = run_steps z m k' (e ∷ es) ls t w in
      record {
        same = leave_leave (length ls) inside ∙ ap (λ x. leave (length ls) x) s.same ∙ ap (λ i. leave i y) l ∙ leave_exact n y s.keeps;
        keeps = s.keeps;
      }

  -- the tick and the next pass
  next_same : (n : ℕ) (e : Option tree.Expr) (ss : tree.Stmts) (steps : List tree.Expr) (ls : List Slot) (t : ℕ) (w : World) → length ls ≡ n → SoundLoop M n e ss steps
      → SameRun n n (ticked t (Halted Budget ls w) (λ t'. p (low.lowered_or n 1 e) (lowered_block (lowered_all n ss)) (lowered_steps n steps) ls t' w)) (tested (p' e ss steps) ls t w)
  next_same n e ss steps ls t w l h = ticked_same n n t (Halted Budget ls w) _ _ tt (λ t'. passes n e ss steps ls t' w l h)

  -- ---- statements

  -- a block, once its statements are the same
  pub block_same : (n n1 : ℕ) (ss : List stmt.Stmt) (y : List Slot → ℕ → World → Ran) (ls : List Slot) (t : ℕ) (w : World) → length ls ≡ n → n ≤ n1
      → SameRun n n1 (run_all z m k p (stmt.stmts ss) ls t w) (y ls t w) → SameRun n n (run z m k p (lowered_block ss) ls t w) (in_block y ls t w)
  block_same n n1 ss y ls t w l le h =
      subst (λ i. SameRun n n (leave i (run_all z m k p (stmt.stmts ss) ls t w)) (leave i (y ls t w))) (sym l) (leave_same n n1 (run_all z m k p (stmt.stmts ss) ls t w) (y ls t w) le h)

  -- a side of a choice, which is a block in a block
  side_same : (n : ℕ) (x y : Ran) (ls : List Slot) (t : ℕ) (w : World) (inside : Ran) → x ≡ leave (length ls) inside → SameRun n n x y → SameRun n n (leave (length ls) x) y
  side_same n x y ls t w inside e h = record { same = ap (λ r. leave (length ls) r) e ∙ leave_leave (length ls) inside ∙ sym e ∙ h.same; keeps = h.keeps }

  either_same : (n : ℕ) (e : tree.Expr) (a b : List stmt.Stmt) (ya yb : List Slot → ℕ → World → Ran) (ls : List Slot) (t : ℕ) (w : World) → length ls ≡ n → Sound M n e
      → SameRunFrom n n n (run z m k p (lowered_block a)) (in_block ya) → SameRunFrom n n n (run z m k p (lowered_block b)) (in_block yb)
      → SameRun n n (run z m k p (stmt.either (low.lowered n e) (lowered_block a) (lowered_block b)) ls t w) (branched (evaluate z m k' e ls t w) (in_block ya) (in_block yb))
  either_same n e a b ya yb ls t w l h ha hb =
      with_value_same n n n (eval z m k (low.lowered n e) ls t w) (evaluate z m k' e ls t w) _ _ (value_same z m M k k' callees e n ls t w l h)
      (λ v ls' t' w' l'.
      test_run n n v (Halted Null ls' (give v w')) _ _ (in_block yb ls' t' w') (in_block ya ls' t' w') tt
      (side_same n (run z m k p (lowered_block b) ls' t' w') (in_block yb ls' t' w') ls' t' w' (run_all z m k p (stmt.stmts b) ls' t' w') refl (hb ls' t' w' l'))
      (side_same n (run z m k p (lowered_block a) ls' t' w') (in_block ya ls' t' w') ls' t' w' (run_all z m k p (stmt.stmts a) ls' t' w') refl (ha ls' t' w' l')))

  -- a loop's body in a block of its own, and what follows it
  body_same : (n n1 : ℕ) (ss : List stmt.Stmt) (y : Ran) (go go' : List Slot → ℕ → World → Ran) (ls : List Slot) (t : ℕ) (w : World) → length ls ≡ n → n ≤ n1
      → SameRun n n1 (run_all z m k p (stmt.stmts ss) ls t w) y → SameRunFrom n n n go go'
      → SameRun n n (caught (length ls) (run z m k p (lowered_block ss) ls t w) go) (caught (length ls) y go')
  body_same n n1 ss y go go' ls t w l le h a =
      let inside = run_all z m k p (stmt.stmts ss) ls t w in
      let r = subst (λ i. SameRun n n (caught i inside go) (caught i y go')) (sym l) (caught_same n n1 inside y go go' le h a) in
      record { same = caught_leave (length ls) inside go ∙ r.same; keeps = r.keeps }

  mutual
    pub statement_same : (s : tree.Stmt) (loop : Bool) (n : ℕ) (ls : List Slot) (t : ℕ) (w : World) → length ls ≡ n → SoundStatement M loop n s
        → SameRun n (declared s + n) (run_all z m k p (stmt.stmts (lowered_stmt n s)) ls t w) (source.run z m k' p' s ls t w)
    statement_same (tree.block ss) loop n ls t w l h =
        run_at n n (0 + n) _ _ (omega arith) (single z m k p n n (lowered_block (lowered_all n ss)) _ ls t w (block_same n (declared_by ss + n) (lowered_all n ss) (source.run_all z m k' p' ss) ls t w l (omega arith) (statements_same ss loop n ls t w l h)))
    statement_same (tree.locals xs) loop n ls t w l h = locals_same xs n ls t w l h
    statement_same (tree.expression e) loop n ls t w l h = run_at n n (0 + n) _ _ (omega arith) (single z m k p n n (lowered_simple n e) _ ls t w (simple_same e n ls t w l h))
    statement_same tree.break loop n ls t w l h = record { same = refl; keeps = omega (arith, l) }
    statement_same tree.continue loop n ls t w l h = record { same = refl; keeps = omega (arith, l) }
    statement_same (tree.return e) loop n ls t w l h =
        single z m k p n (0 + n) (stmt.return (low.lowered_or n 0 e)) _ ls t w
        (with_value_same n n (0 + n) (eval z m k (low.lowered_or n 0 e) ls t w) (evaluate_or z m k' 0 e ls t w) _ _ (or_same z m M k k' callees e 0 n ls t w l h) (λ v ls' t' w' l'. record { same = refl; keeps = tt }))
    statement_same (tree.either e ss otherwise) loop n ls t w l h =
        run_at n n (0 + n) _ _ (omega arith)
        (single z m k p n n (stmt.either (low.lowered n e) (lowered_block (lowered_all n ss)) (lowered_block (lowered_all n otherwise))) _ ls t w
        (either_same n e (lowered_all n ss) (lowered_all n otherwise) (source.run_all z m k' p' ss) (source.run_all z m k' p' otherwise) ls t w l h.0
        (λ ls' t' w' l'. block_same n (declared_by ss + n) (lowered_all n ss) (source.run_all z m k' p' ss) ls' t' w' l' (omega arith) (statements_same ss loop n ls' t' w' l' h.1))
        (λ ls' t' w' l'. block_same n (declared_by otherwise + n) (lowered_all n otherwise) (source.run_all z m k' p' otherwise) ls' t' w' l' (omega arith) (statements_same otherwise loop n ls' t' w' l' h.2))))
    statement_same (tree.while e ss) loop n ls t w l h =
        run_at n n (0 + n) _ _ (omega arith)
        (single z m k p n n (lowered_loop n (Some e) [] (lowered_all n ss)) _ ls t w (next_same n (Some e) ss [] ls t w l (h.0, tt, h.1)))
    statement_same (tree.do_while ss e) loop n ls t w l h =
        let again = λ (ls' : List Slot) (t' : ℕ) (w' : World). ticked t' (Halted Budget ls' w') (λ t2. p (low.lowered n e) (lowered_block (lowered_all n ss)) stmt.skip ls' t2 w') in
        run_at n n (0 + n) _ _ (omega arith)
        (single z m k p n n (stmt.do_while (low.lowered n e) (lowered_block (lowered_all n ss))) _ ls t w
        (body_same n (declared_by ss + n) (lowered_all n ss) (source.run_all z m k' p' ss ls t w) _ (tested (p' (Some e) ss [])) ls t w l (omega arith) (statements_same ss true n ls t w l h.0)
        (λ ls' t' w' l'.
        let r = next_same n (Some e) ss [] ls' t' w' l' (h.1, tt, h.0) in
        record { same = ap (λ x. then_run x again) (leave_went ls' t' w') ∙ r.same; keeps = r.keeps })))
    statement_same (tree.for start e steps ss) loop n ls t w l h =
        let n1 = declared_by start + n in
        let a = lowered_all n start in
        let b = lowered_loop n1 e steps (lowered_all n1 ss) in
        let first = statements_same start loop n ls t w l h.0 in
        let both = then_run_same n n1 n1 (run_all z m k p (stmt.stmts a) ls t w) (source.run_all z m k' p' start ls t w) (λ ls' t' w'. run_all z m k p (stmt.stmts (b ∷ [])) ls' t' w') (tested (p' e ss steps)) first
        (λ ls' t' w' l'. run_lower n n1 n1 _ _ (omega arith) (single z m k p n1 n1 b _ ls' t' w' (next_same n1 e ss steps ls' t' w' l' (h.1, h.2, h.3)))) in
        run_at n n (0 + n) _ _ (omega arith)
        (single z m k p n n (lowered_block (a ++ b ∷ [])) _ ls t w
        (block_same n n1 (a ++ b ∷ []) (λ ls' t' w'. then_run (source.run_all z m k' p' start ls' t' w') (tested (p' e ss steps))) ls t w l (omega arith)
        (record { same = run_append z m k p a (b ∷ []) ls t w ∙ both.same; keeps = both.keeps })))

    pub statements_same : (ss : tree.Stmts) (loop : Bool) (n : ℕ) (ls : List Slot) (t : ℕ) (w : World) → length ls ≡ n → SoundStatements M loop n ss
        → SameRun n (declared_by ss + n) (run_all z m k p (stmt.stmts (lowered_all n ss)) ls t w) (source.run_all z m k' p' ss ls t w)
    statements_same tree.end loop n ls t w l h = record { same = refl; keeps = omega (arith, l) }
    statements_same (tree.«then» s ss) loop n ls t w l h =
        let n1 = declared s + n in
        let a = lowered_stmt n s in
        let b = lowered_all n1 ss in
        let both = then_run_same n n1 (declared_by ss + n1) (run_all z m k p (stmt.stmts a) ls t w) (source.run z m k' p' s ls t w) (λ ls' t' w'. run_all z m k p (stmt.stmts b) ls' t' w') (source.run_all z m k' p' ss) (statement_same s loop n ls t w l h.0)
        (λ ls' t' w' l'. run_lower n n1 (declared_by ss + n1) _ _ (omega arith) (statements_same ss loop n1 ls' t' w' l' h.1)) in
        run_at n (declared_by ss + n1) (declared_by (tree.«then» s ss) + n) _ _ (omega arith) (record { same = run_append z m k p a b ls t w ∙ both.same; keeps = both.keeps })

  -- one pass of a loop
  pub pass_same : (n : ℕ) (e : Option tree.Expr) (ss : tree.Stmts) (steps : List tree.Expr) (ls : List Slot) (t : ℕ) (w : World) → length ls ≡ n → SoundLoop M n e ss steps
      → SameRun n n (plain.pass z m k p (low.lowered_or n 1 e) (lowered_block (lowered_all n ss)) (lowered_steps n steps) ls t w) (pass_of z m k' p' e ss steps ls t w)
  pass_same n e ss steps ls t w l h =
      let again = λ (ls' : List Slot) (t' : ℕ) (w' : World). ticked t' (Halted Budget ls' w') (λ t2. p (low.lowered_or n 1 e) (lowered_block (lowered_all n ss)) (lowered_steps n steps) ls' t2 w') in
      with_value_same n n n (eval z m k (low.lowered_or n 1 e) ls t w) (evaluate_or z m k' 1 e ls t w) _ _ (or_same z m M k k' callees e 1 n ls t w l h.0)
      (λ v ls' t' w' l'.
      test_run n n v (Halted Null ls' (give v w')) (Went ls' t' w') _ (Went ls' t' w') _ tt (record { same = refl; keeps = l' })
      (body_same n (declared_by ss + n) (lowered_all n ss) (source.run_all z m k' p' ss ls' t' w') _ (λ l2 t2 w2. then_run (run_steps z m k' steps l2 t2 w2) (tested (p' e ss steps))) ls' t' w' l' (omega arith)
      (statements_same ss true n ls' t' w' l' h.2)
      (λ l2 t2 w2 i.
      let s = loop_steps steps n l2 t2 w2 i h.1 in
      then_run_same n n n _ (run_steps z m k' steps l2 t2 w2) again (tested (p' e ss steps)) (record { same = s.same; keeps = exact_keeps n _ s.keeps }) (λ l3 t3 w3 i3. next_same n e ss steps l3 t3 w3 i3 h))))
