-- What a core tree does, read off the plain tree. No part of it depends on where a tree lies in memory.
use Rattle.std.proofs.Common.{◌≡◌, ℕ, zero, suc, List, [], ◌∷◌, length, None, refl, ◌∙◌}
use Rattle.ang_kinds.specs.declared.fault.Fault.TheVariants.{Null, Budget}
use Rattle.ang_meaning.specs.declared.slot.Slot.{Slot}
use Rattle.ang_meaning.specs.declared.slot.Slot.TheVariants.{Bits, Script}
use Rattle.ang_meaning.specs.declared.routine.Routine.{Routine}
use Rattle.ang_meaning.specs.World.{World, give}
use Rattle.ang_meaning.specs.Environment.{Environment, params_of}
use Rattle.ang_meaning.specs.Perform.{perform}
use Rattle.ang_meaning.specs.Results.{Evaluated, Gave, Gathered, Ready, Ran, Went, Returned, Halted, Broken, Continued, Calls, local_at, on_test, ticked, loaded, applied, assigned, altered, chosen, then_rest, called, leave, with_value, then_run, finished, enter}
use Rattle.ang_core.specs.declared.tree.CoreExpression.{CoreExpression, Row_of-CoreExpression, end_of-CoreExpression, more_of-CoreExpression}
use Rattle.ang_core.specs.declared.tree.CoreExpression.TheVariants.{Number, Null as Nothing, Local, Assign', Update', Apply', Call', Choose'}
use Rattle.ang_core.specs.declared.tree.CoreStatement.{CoreStatement, Row_of-CoreStatement, end_of-CoreStatement, more_of-CoreStatement}
use Rattle.ang_core.specs.declared.tree.CoreStatement.TheVariants.{Skip, Evaluate, Declare, Block', If', While', DoWhile', Return, Break, Continue}
use Rattle.ang_meaning.specs.Bodies.{Callees, PassesOf}
use Rattle.ang_meaning.specs.Bodies as bodies_of
use Rattle.ang_core.specs.Meaning.{Bodies, turned}
use Rattle.ang_core.specs.Meaning as core
use Rattle.ang_lower.specs.ExprTree as c
use Rattle.ang_lower.specs.Tree as stmt
use Rattle.ang_lower.specs.PlainExpr.{plain_expr, plain_row}
use Rattle.ang_lower.specs.Plain.{plain_stmt, plain_stmts}

abbrev mutual
  pub eval : Environment → ℕ → Callees → c.Expr → List Slot → ℕ → World → Evaluated
  eval z m k (c.number n) ls t w = Gave (Bits n) ls t w
  eval z m k c.null ls t w = Gave (Script None) ls t w
  eval z m k (c.local i) ls t w = loaded (local_at ls i) ls t w
  eval z m k (c.assign i e) ls t w = assigned i (eval z m k e ls t w)
  eval z m k (c.change i by e) ls t w = altered i by (eval z m k e ls t w)
  eval z m k (c.apply o args) ls t w = applied (perform z m o) (eval_all z m k args [] ls t w)
  eval z m k (c.call f args outs) ls t w = called m (k f) outs (eval_all z m k args [] ls t w)
  eval z m k (c.choose a b d) ls t w = chosen (eval z m k a ls t w) (eval z m k b) (eval z m k d)

  pub eval_all : Environment → ℕ → Callees → c.Exprs → List Slot → List Slot → ℕ → World → Gathered
  eval_all z m k c.none vs ls t w = Ready vs ls t w
  eval_all z m k (c.more e rest) vs ls t w = then_rest vs (eval z m k e ls t w) (λ v ls' t' w'. eval_all z m k rest (v ∷ vs) ls' t' w')

abbrev pub Passes : Type 0
Passes = PassesOf c.Expr stmt.Stmt stmt.Stmt

abbrev mutual
  pub run : Environment → ℕ → Callees → Passes → stmt.Stmt → List Slot → ℕ → World → Ran
  run z m k p stmt.skip ls t w = Went ls t w
  run z m k p (stmt.evaluate e) ls t w = with_value (eval z m k e ls t w) (λ v ls' t' w'. Went ls' t' (give v w'))
  run z m k p (stmt.declare e) ls t w = with_value (eval z m k e ls t w) (λ v ls' t' w'. Went (v ∷ ls') t' w')
  run z m k p (stmt.block ss) ls t w = leave (length ls) (run_all z m k p ss ls t w)
  run z m k p (stmt.either e a b) ls t w =
      with_value (eval z m k e ls t w)
      (λ v ls' t' w'. on_test v (Halted Null ls' (give v w')) (leave (length ls') (run z m k p b ls' t' w')) (leave (length ls') (run z m k p a ls' t' w')))
  run z m k p (stmt.while e s step) ls t w = ticked t (Halted Budget ls w) (λ t'. p e s step ls t' w)
  run z m k p (stmt.do_while e s) ls t w =
      turned (length ls) (run z m k p s ls t w) (λ ls' t' w'. Went ls' t' w') (λ ls' t' w'. p e s stmt.skip ls' t' w')
  run z m k p (stmt.return e) ls t w = with_value (eval z m k e ls t w) (λ v ls' t' w'. Returned v ls' t' w')
  run z m k p stmt.break ls t w = Broken ls t w
  run z m k p stmt.continue ls t w = Continued ls t w

  pub run_all : Environment → ℕ → Callees → Passes → stmt.Stmts → List Slot → ℕ → World → Ran
  run_all z m k p stmt.end ls t w = Went ls t w
  run_all z m k p (stmt.«then» s rest) ls t w = then_run (run z m k p s ls t w) (λ ls' t' w'. run_all z m k p rest ls' t' w')

abbrev pub pass : Environment → ℕ → Callees → Passes → Passes
pass z m k p e s step ls t w =
    with_value (eval z m k e ls t w)
    (λ v ls' t' w'. on_test v (Halted Null ls' (give v w')) (Went ls' t' w')
    (turned (length ls') (run z m k p s ls' t' w') (run z m k p step) (λ ls2 t2 w2. p e s step ls2 t2 w2)))

abbrev pub PlainBodies : Type 0
PlainBodies = Routine → stmt.Stmt

abbrev pub body_at : Environment → PlainBodies → ℕ → ℕ → Calls
body_at = bodies_of.body_at run pass

abbrev pub pass_at : Environment → PlainBodies → ℕ → ℕ → ℕ → Passes
pass_at = bodies_of.pass_at run pass

-- ---- a core tree does the same

mutual
  pub eval_is : (z : Environment) (m : ℕ) (k : Callees) (e : CoreExpression) (ls : List Slot) (t : ℕ) (w : World) → core.eval z m k e ls t w ≡ eval z m k (plain_expr e) ls t w
  eval_is z m k (Number n) ls t w = refl
  eval_is z m k Nothing ls t w = refl
  eval_is z m k (Local i) ls t w = refl
  eval_is z m k (Assign' i p e) ls t w = λ j. assigned i (eval_is z m k e ls t w j)
  eval_is z m k (Update' i by p e) ls t w = λ j. altered i by (eval_is z m k e ls t w j)
  eval_is z m k (Apply' o shape args) ls t w = λ j. applied (perform z m o) (eval_args_is z m k args [] ls t w j)
  eval_is z m k (Call' f shape args outs) ls t w = λ j. called m (k f) outs.value.items (eval_args_is z m k args [] ls t w j)
  eval_is z m k (Choose' p a q b s d) ls t w =
      λ j. chosen (eval_is z m k a ls t w j) (λ ls' t' w'. eval_is z m k b ls' t' w' j) (λ ls' t' w'. eval_is z m k d ls' t' w' j)

  eval_args_is : {r : _} → (z : Environment) (m : ℕ) (k : Callees) (args : Row_of-CoreExpression r) (vs ls : List Slot) (t : ℕ) (w : World)
      → core.eval_args z m k args vs ls t w ≡ eval_all z m k (plain_row args) vs ls t w
  eval_args_is z m k end_of-CoreExpression vs ls t w = refl
  eval_args_is z m k (more_of-CoreExpression e rest) vs ls t w =
      λ j. then_rest vs (eval_is z m k e ls t w j) (λ v ls' t' w'. eval_args_is z m k rest (v ∷ vs) ls' t' w' j)

-- where the passes of loops are the same
abbrev pub PassesAre : core.Passes → Passes → Type 0
PassesAre p q = (e : CoreExpression) (s step : CoreStatement) (ls : List Slot) (t : ℕ) (w : World) → p e s step ls t w ≡ q (plain_expr e) (plain_stmt s) (plain_stmt step) ls t w

module _ (z : Environment) (m : ℕ) (k : Callees) (p : core.Passes) (q : Passes) (same : PassesAre p q) where
  mutual
    pub run_is : (s : CoreStatement) (ls : List Slot) (t : ℕ) (w : World) → core.run z m k p s ls t w ≡ run z m k q (plain_stmt s) ls t w
    run_is Skip ls t w = refl
    run_is (Evaluate e) ls t w = λ j. with_value (eval_is z m k e.value ls t w j) (λ v ls' t' w'. Went ls' t' (give v w'))
    run_is (Declare e) ls t w = λ j. with_value (eval_is z m k e.value ls t w j) (λ v ls' t' w'. Went (v ∷ ls') t' w')
    run_is (Block' shape row) ls t w = λ j. leave (length ls) (run_row_is row ls t w j)
    run_is (If' e x a y b) ls t w =
        λ j. with_value (eval_is z m k e.value ls t w j)
        (λ v ls' t' w'. on_test v (Halted Null ls' (give v w')) (leave (length ls') (run_is b ls' t' w' j)) (leave (length ls') (run_is a ls' t' w' j)))
    run_is (While' e x s y step) ls t w = λ j. ticked t (Halted Budget ls w) (λ t'. same e.value s step ls t' w j)
    run_is (DoWhile' e x s) ls t w =
        λ j. turned (length ls) (run_is s ls t w j) (λ ls' t' w'. Went ls' t' w') (λ ls' t' w'. same e.value s Skip ls' t' w' j)
    run_is (Return e) ls t w = λ j. with_value (eval_is z m k e.value ls t w j) (λ v ls' t' w'. Returned v ls' t' w')
    run_is Break ls t w = refl
    run_is Continue ls t w = refl

    run_row_is : {r : _} → (row : Row_of-CoreStatement r) (ls : List Slot) (t : ℕ) (w : World) → core.run_row z m k p row ls t w ≡ run_all z m k q (plain_stmts row) ls t w
    run_row_is end_of-CoreStatement ls t w = refl
    run_row_is (more_of-CoreStatement s rest) ls t w = λ j. then_run (run_is s ls t w j) (λ ls' t' w'. run_row_is rest ls' t' w' j)

  pass_same : PassesAre (core.pass z m k p) (pass z m k q)
  pass_same e s step ls t w =
      λ j. with_value (eval_is z m k e ls t w j)
      (λ v ls' t' w'. on_test v (Halted Null ls' (give v w')) (Went ls' t' w')
      (turned (length ls') (run_is s ls' t' w' j) (λ ls2 t2 w2. run_is step ls2 t2 w2 j) (λ ls2 t2 w2. same e s step ls2 t2 w2 j)))

-- ---- bodies

abbrev pub plain_of : Bodies → PlainBodies
plain_of bodies g = plain_stmt (bodies g)

module _ (z : Environment) (bodies : Bodies) where
  mutual
    pub body_is : (n d : ℕ) (g : Routine) (vs : List Slot) (t : ℕ) (w : World) → core.body_at z bodies n d g vs t w ≡ body_at z (plain_of bodies) n d g vs t w
    body_is zero d g vs t w = refl
    body_is (suc n) d g vs t w =
        let at_callee : core.body_at z bodies (suc n) d g vs t w ≡ finished (params_of z g) (core.run z g.home (enter z (body_at z (plain_of bodies) n (suc d)) d g.home) (core.pass_at z bodies n d g.home) (bodies g) vs t w) =
        λ j. finished (params_of z g) (core.run z g.home (enter z (λ g' vs' t' w'. body_is n (suc d) g' vs' t' w' j) d g.home) (core.pass_at z bodies n d g.home) (bodies g) vs t w) in
        let at_body : finished (params_of z g) (core.run z g.home (enter z (body_at z (plain_of bodies) n (suc d)) d g.home) (core.pass_at z bodies n d g.home) (bodies g) vs t w) ≡ body_at z (plain_of bodies) (suc n) d g vs t w =
        λ j. finished (params_of z g) (run_is z g.home (enter z (body_at z (plain_of bodies) n (suc d)) d g.home) (core.pass_at z bodies n d g.home) (pass_at z (plain_of bodies) n d g.home) (passes_are n d g.home) (bodies g) vs t w j) in
        at_callee ∙ at_body

    passes_are : (n d m : ℕ) → PassesAre (core.pass_at z bodies n d m) (pass_at z (plain_of bodies) n d m)
    passes_are zero d m e s step ls t w = refl
    passes_are (suc n) d m e s step ls t w =
        let at_callee : core.pass_at z bodies (suc n) d m e s step ls t w ≡ core.pass z m (enter z (body_at z (plain_of bodies) n (suc d)) d m) (core.pass_at z bodies n d m) e s step ls t w =
        λ j. core.pass z m (enter z (λ g' vs' t' w'. body_is n (suc d) g' vs' t' w' j) d m) (core.pass_at z bodies n d m) e s step ls t w in
        let at_pass : core.pass z m (enter z (body_at z (plain_of bodies) n (suc d)) d m) (core.pass_at z bodies n d m) e s step ls t w ≡ pass_at z (plain_of bodies) (suc n) d m (plain_expr e) (plain_stmt s) (plain_stmt step) ls t w =
        λ j. pass_same z m (enter z (body_at z (plain_of bodies) n (suc d)) d m) (core.pass_at z bodies n d m) (pass_at z (plain_of bodies) n d m) (passes_are n d m) e s step ls t w j in
        at_callee ∙ at_pass
