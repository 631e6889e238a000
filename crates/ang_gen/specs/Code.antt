-- The instructions of a body of the core tree.
use Rattle.std.specs.Prelude.{ℕ, zero, suc, ◌+◌, ◌-◌, ◌^◌, ◌%◌, List, [], ◌∷◌, ◌++◌, length, Option}
use Rattle.ang_kinds.specs.declared.primitive.Primitive.{Primitive}
use Rattle.ang_meaning.specs.declared.routine.Spot.{Spot}
use Rattle.ang_meaning.specs.declared.routine.Spot.TheVariants as spot
use Rattle.ang_meaning.specs.declared.routine.Target.{Target}
use Rattle.ang_core.specs.declared.tree.CoreExpression.{CoreExpression, Row_of-CoreExpression, end_of-CoreExpression, more_of-CoreExpression}
use Rattle.ang_core.specs.declared.tree.CoreExpression.TheVariants.{Number, Null as Nothing, Local, Assign', Update', Apply', Call', Choose'}
use Rattle.ang_core.specs.declared.tree.CoreStatement.{CoreStatement, Row_of-CoreStatement, end_of-CoreStatement, more_of-CoreStatement}
use Rattle.ang_core.specs.declared.tree.CoreStatement.TheVariants.{Skip, Evaluate, Declare, Block', If', While', DoWhile', Return as ReturnOf, Break, Continue}
use Rattle.ang_core.specs.Sound.{declared, row_declared}
use Rattle.ang_code.specs.declared.instruction.Instruction.{Instruction}
use Rattle.ang_code.specs.declared.instruction.Instruction.TheVariants.{PushBits, PushNull, Load, Store, Update, Apply, Drop, Leave, JumpIfFalse, Jump, Tick, LoopBack, Enter, Swap, SwapGlobal, SwapField, DropUnder, Return}

-- The place of local i where d values stand above the locals, in 64 bits. The frame of a sound body is counted in 64 bits, and so are its places.
unfoldable pub place_above : ℕ → ℕ → ℕ
place_above d i = (d + i) % 2 ^ 64

-- a choice of values: the test, the first side with a jump past the second, and the second side
abbrev pub if_code : List Instruction → List Instruction → List Instruction → List Instruction
if_code test a b = test ++ (JumpIfFalse (length a + 1) ∷ (a ++ (Jump (length b) ∷ b)))

-- a jump past n instructions, where there are any
abbrev pub past_code : ℕ → List Instruction
past_code zero = []
past_code (suc n) = Jump (suc n) ∷ []

-- a choice of statements: the test, the first side, a jump past the second side where that does anything, and the second side
abbrev pub either_code : List Instruction → List Instruction → List Instruction → List Instruction
either_code test a b = test ++ (JumpIfFalse (length a + length (past_code (length b))) ∷ (a ++ (past_code (length b) ++ b)))

-- a loop: a tick, the test, a jump past the end, the body, the step, and a jump back to the test with a tick
abbrev pub while_code : List Instruction → List Instruction → List Instruction → List Instruction
while_code test body step =
    Tick ∷ (test ++ (JumpIfFalse (length body + length step + 1) ∷ (body ++ (step ++ LoopBack (length test + 1 + length body + length step) ∷ []))))

-- An `&out` value at the place u moves into its target, where the locals begin at the place base.
abbrev pub swap_at : Option Primitive → ℕ → ℕ → Spot → Instruction
swap_at to u base (spot.Local i) = Swap to u (place_above base i)
swap_at to u base (spot.Global g) = SwapGlobal to u g
swap_at to u base (spot.Field o i) = SwapField to u (place_above base o) i

-- the first target first; the list has the last one first, and its value lies at the place u
abbrev pub swaps_code : ℕ → ℕ → List Target → List Instruction
swaps_code u base [] = []
swaps_code u base (x ∷ xs) = swaps_code (suc u) base xs ++ swap_at x.to u base x.spot ∷ []

-- the `&out` values below a call's value move into their targets, and the old values are given up; d values stand between them and the locals
abbrev pub outs_code : ℕ → List Target → List Instruction
outs_code d [] = []
outs_code d (x ∷ xs) = swaps_code 1 (1 + length (x ∷ xs) + d) (x ∷ xs) ++ DropUnder (length (x ∷ xs)) ∷ []

-- an expression, where d values stand on the stack above the locals
abbrev mutual
  pub expr_code : ℕ → CoreExpression → List Instruction
  expr_code d (Number n) = PushBits n ∷ []
  expr_code d Nothing = PushNull ∷ []
  expr_code d (Local i) = Load (place_above d i) ∷ []
  expr_code d (Assign' i p e) = expr_code d e ++ Store (place_above d i) ∷ []
  expr_code d (Update' i by p e) = expr_code d e ++ Update by (place_above d i) ∷ []
  expr_code d (Apply' o shape args) = args_code d args ++ Apply o ∷ []
  expr_code d (Call' f shape args outs) = args_code d args ++ (Enter f ∷ outs_code d outs.value.items)
  expr_code d (Choose' p a q b s c) = if_code (expr_code d a) (expr_code d b) (expr_code d c)

  pub args_code : {k : _} → ℕ → Row_of-CoreExpression k → List Instruction
  args_code d end_of-CoreExpression = []
  args_code d (more_of-CoreExpression e rest) = expr_code d e ++ args_code (suc d) rest

-- n locals are given up
abbrev pub leave_code : ℕ → List Instruction
leave_code zero = []
leave_code (suc n) = Leave (suc n) ∷ []

abbrev pub block_code : List Instruction → ℕ → List Instruction
block_code code n = code ++ leave_code n

-- a statement of a body with q parameters, where n locals are alive, and m at the loop; kb instructions stand between the end of this statement
-- and the loop's exit, and kc before its next step
abbrev mutual
  pub stmt_code : ℕ → ℕ → ℕ → ℕ → ℕ → CoreStatement → List Instruction
  stmt_code q n m kb kc Skip = []
  stmt_code q n m kb kc (Evaluate e) = expr_code 0 e.value ++ Drop ∷ []
  stmt_code q n m kb kc (Declare e) = expr_code 0 e.value
  stmt_code q n m kb kc (Block' shape row) =
      block_code (row_code q n m (kb + length (leave_code (row_declared row))) (kc + length (leave_code (row_declared row))) row) (row_declared row)
  stmt_code q n m kb kc (If' e x a y b) =
      let cb = block_code (stmt_code q n m (kb + length (leave_code (declared b))) (kc + length (leave_code (declared b))) b) (declared b) in
      let cp = past_code (length cb) in
      either_code (expr_code 0 e.value)
      (block_code (stmt_code q n m (kb + length cb + length cp + length (leave_code (declared a))) (kc + length cb + length cp + length (leave_code (declared a))) a) (declared a))
      cb
  stmt_code q n m kb kc (While' e x s y step) =
      let cs = block_code (stmt_code q n 0 0 0 step) (declared step) in
      while_code (expr_code 0 e.value)
      (block_code (stmt_code q n n (length (leave_code (declared s)) + length cs + 1) (length (leave_code (declared s))) s) (declared s))
      cs
  stmt_code q n m kb kc (DoWhile' e x s) =
      Jump (length (expr_code 0 e.value) + 2)
      ∷ while_code (expr_code 0 e.value)
      (block_code (stmt_code q n n (length (leave_code (declared s)) + 0 + 1) (length (leave_code (declared s))) s) (declared s))
      []
  stmt_code q n m kb kc (ReturnOf e) = expr_code 0 e.value ++ Return (n - q) ∷ []
  stmt_code q n m kb kc Break = leave_code (n - m) ++ Jump kb ∷ []
  stmt_code q n m kb kc Continue = leave_code (n - m) ++ Jump kc ∷ []

  pub row_code : {k : _} → ℕ → ℕ → ℕ → ℕ → ℕ → Row_of-CoreStatement k → List Instruction
  row_code q n m kb kc end_of-CoreStatement = []
  row_code q n m kb kc (more_of-CoreStatement s rest) =
      let cr = row_code q (declared s + n) m kb kc rest in
      stmt_code q n m (kb + length cr) (kc + length cr) s ++ cr

-- a loop's code
abbrev pub loop_code : ℕ → ℕ → CoreExpression → CoreStatement → CoreStatement → List Instruction
loop_code q n e s step =
    let cs = block_code (stmt_code q n 0 0 0 step) (declared step) in
    while_code (expr_code 0 e)
    (block_code (stmt_code q n n (length (leave_code (declared s)) + length cs + 1) (length (leave_code (declared s))) s) (declared s))
    cs

-- a whole body with q parameters; one that ends without `return` gives 0
abbrev pub body_code : ℕ → CoreStatement → List Instruction
body_code q s = stmt_code q q 0 0 0 s ++ (PushBits 0 ∷ Return (declared s) ∷ [])
