-- What a body of the core tree does, by cases on the tree: the value or the fault, the ticks that are left, and the world
-- (docs/CLAIMS.md, "What a body does"; the AngelScript manual, "Expressions", "Statements" and "Functions").
use Rattle.std.specs.Prelude.{ℕ, List, [], ◌∷◌, length, None}
use Rattle.ang_kinds.specs.declared.fault.Fault.TheVariants.{Null, Budget}
use Rattle.ang_meaning.specs.declared.slot.Slot.{Slot}
use Rattle.ang_meaning.specs.declared.slot.Slot.TheVariants.{Bits, Script}
use Rattle.ang_meaning.specs.declared.routine.Routine.{Routine}
use Rattle.ang_meaning.specs.World.{World, give}
use Rattle.ang_meaning.specs.Environment.{Environment}
use Rattle.ang_meaning.specs.Perform.{perform}
use Rattle.ang_meaning.specs.Results.{Evaluated, Gave, Gathered, Ready, Ran, Went, Returned, Halted, Broken, Continued, Reply, Calls, local_at, on_test, ticked, loaded, applied, assigned, altered, chosen, then_rest, called, leave, with_value, then_run, caught}
use Rattle.ang_meaning.specs.Bodies.{Callees, PassesOf}
use Rattle.ang_meaning.specs.Bodies as bodies_of
use Rattle.ang_core.specs.declared.tree.CoreExpression.{CoreExpression, Row_of-CoreExpression, end_of-CoreExpression, more_of-CoreExpression}
use Rattle.ang_core.specs.declared.tree.CoreExpression.TheVariants.{Number, Null as Nothing, Local, Assign', Update', Apply', Call', Choose'}
use Rattle.ang_core.specs.declared.tree.CoreStatement.{CoreStatement, Row_of-CoreStatement, end_of-CoreStatement, more_of-CoreStatement}
use Rattle.ang_core.specs.declared.tree.CoreStatement.TheVariants.{Skip, Evaluate, Declare, Block', If', While', DoWhile', Return, Break, Continue}

-- one pass of a loop, its tick taken: the test, the body and the step
abbrev pub Passes : Type 0
Passes = PassesOf CoreExpression CoreStatement CoreStatement

-- An expression in module m.
abbrev mutual
  pub eval : Environment → ℕ → Callees → CoreExpression → List Slot → ℕ → World → Evaluated
  eval z m c (Number n) ls t w = Gave (Bits n) ls t w
  eval z m c Nothing ls t w = Gave (Script None) ls t w
  eval z m c (Local i) ls t w = loaded (local_at ls i) ls t w
  eval z m c (Assign' i p e) ls t w = assigned i (eval z m c e ls t w)
  eval z m c (Update' i by p e) ls t w = altered i by (eval z m c e ls t w)
  eval z m c (Apply' o shape args) ls t w = applied (perform z m o) (eval_args z m c args [] ls t w)
  eval z m c (Call' f shape args outs) ls t w = called m (c f) outs.value.items (eval_args z m c args [] ls t w)
  eval z m c (Choose' p a q b s d) ls t w = chosen (eval z m c a ls t w) (eval z m c b) (eval z m c d)

  pub eval_args : {k : _} → Environment → ℕ → Callees → Row_of-CoreExpression k → List Slot → List Slot → ℕ → World → Gathered
  eval_args z m c end_of-CoreExpression vs ls t w = Ready vs ls t w
  eval_args z m c (more_of-CoreExpression e rest) vs ls t w =
      then_rest vs (eval z m c e ls t w) (λ v ls' t' w'. eval_args z m c rest (v ∷ vs) ls' t' w')

-- the rest of a loop's pass after its test, where it leaves n locals: the body, the step, and the tick of the next pass
abbrev pub turned : ℕ → Ran → (List Slot → ℕ → World → Ran) → (List Slot → ℕ → World → Ran) → Ran
turned n body step next =
    caught n body (λ ls t w. then_run (leave (length ls) (step ls t w)) (λ ls' t' w'. ticked t' (Halted Budget ls' w') (λ t''. next ls' t'' w')))

abbrev mutual
  pub run : Environment → ℕ → Callees → Passes → CoreStatement → List Slot → ℕ → World → Ran
  run z m c p Skip ls t w = Went ls t w
  run z m c p (Evaluate e) ls t w = with_value (eval z m c e.value ls t w) (λ v ls' t' w'. Went ls' t' (give v w'))
  run z m c p (Declare e) ls t w = with_value (eval z m c e.value ls t w) (λ v ls' t' w'. Went (v ∷ ls') t' w')
  run z m c p (Block' shape row) ls t w = leave (length ls) (run_row z m c p row ls t w)
  run z m c p (If' e x a y b) ls t w =
      with_value (eval z m c e.value ls t w)
      (λ v ls' t' w'. on_test v (Halted Null ls' (give v w')) (leave (length ls') (run z m c p b ls' t' w')) (leave (length ls') (run z m c p a ls' t' w')))
  run z m c p (While' e x s y step) ls t w = ticked t (Halted Budget ls w) (λ t'. p e.value s step ls t' w)
  run z m c p (DoWhile' e x s) ls t w =
      turned (length ls) (run z m c p s ls t w) (λ ls' t' w'. Went ls' t' w') (λ ls' t' w'. p e.value s Skip ls' t' w')
  run z m c p (Return e) ls t w = with_value (eval z m c e.value ls t w) (λ v ls' t' w'. Returned v ls' t' w')
  run z m c p Break ls t w = Broken ls t w
  run z m c p Continue ls t w = Continued ls t w

  pub run_row : {k : _} → Environment → ℕ → Callees → Passes → Row_of-CoreStatement k → List Slot → ℕ → World → Ran
  run_row z m c p end_of-CoreStatement ls t w = Went ls t w
  run_row z m c p (more_of-CoreStatement s rest) ls t w = then_run (run z m c p s ls t w) (λ ls' t' w'. run_row z m c p rest ls' t' w')

-- one pass of a loop
abbrev pub pass : Environment → ℕ → Callees → Passes → Passes
pass z m c p e s step ls t w =
    with_value (eval z m c e ls t w)
    (λ v ls' t' w'. on_test v (Halted Null ls' (give v w')) (Went ls' t' w')
    (turned (length ls') (run z m c p s ls' t' w') (run z m c p step) (λ ls'' t'' w''. p e s step ls'' t'' w'')))

-- the statement of each function's body
abbrev pub Bodies : Type 0
Bodies = Routine → CoreStatement

-- Whole bodies and initializers, as `ang_meaning/specs/Bodies.antt` has them of any tree.
abbrev pub body_at : Environment → Bodies → ℕ → ℕ → Calls
body_at = bodies_of.body_at run pass

abbrev pub pass_at : Environment → Bodies → ℕ → ℕ → ℕ → Passes
pass_at = bodies_of.pass_at run pass

abbrev pub begun : Environment → Bodies → Routine → List Slot → ℕ → World → Reply
begun = bodies_of.begun run pass

abbrev pub called_with : Environment → Bodies → ℕ → Routine → List Slot → World → Reply
called_with = bodies_of.called_with run pass

abbrev pub initialized : Environment → Bodies → ℕ → Routine → World → Reply
initialized = bodies_of.initialized run pass

abbrev pub initialized_all : Environment → Bodies → List Routine → ℕ → World → Reply
initialized_all = bodies_of.initialized_all run pass
