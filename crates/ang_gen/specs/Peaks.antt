-- The greatest number of values in a body's frame.
use Rattle.std.specs.Prelude.{ℕ, suc, ◌+◌, max, List, [], ◌∷◌, length}
use Rattle.ang_core.specs.declared.tree.CoreExpression.{CoreExpression, Row_of-CoreExpression, end_of-CoreExpression, more_of-CoreExpression}
use Rattle.ang_core.specs.declared.tree.CoreExpression.TheVariants.{Number, Null as Nothing, Local, Assign', Update', Apply', Call', Choose'}
use Rattle.ang_core.specs.declared.tree.CoreStatement.{CoreStatement, Row_of-CoreStatement, end_of-CoreStatement, more_of-CoreStatement}
use Rattle.ang_core.specs.declared.tree.CoreStatement.TheVariants.{Skip, Evaluate, Declare, Block', If', While', DoWhile', Return, Break, Continue}
use Rattle.ang_core.specs.Sound.{declared}

-- while an expression is evaluated, where d values stand there already
abbrev mutual
  pub peak : ℕ → CoreExpression → ℕ
  peak d (Number n) = d + 1
  peak d Nothing = d + 1
  peak d (Local i) = d + 1
  peak d (Assign' i p e) = peak d e
  peak d (Update' i by p e) = peak d e
  peak d (Apply' o shape args) = max (d + 1) (args_peak d args)
  peak d (Call' f shape args outs) = max (length outs.value.items + d + 1) (args_peak d args)
  peak d (Choose' p a q b s c) = max (peak d a) (max (peak d b) (peak d c))

  pub args_peak : {k : _} → ℕ → Row_of-CoreExpression k → ℕ
  args_peak d end_of-CoreExpression = 0
  args_peak d (more_of-CoreExpression e rest) = max (peak d e) (args_peak (suc d) rest)

-- the same of a list of expressions
abbrev pub list_peak : ℕ → List CoreExpression → ℕ
list_peak d [] = 0
list_peak d (e ∷ es) = max (peak d e) (list_peak (suc d) es)

-- while a statement runs, where n locals are alive
abbrev mutual
  pub statement_peak : ℕ → CoreStatement → ℕ
  statement_peak n Skip = 0
  statement_peak n (Evaluate e) = peak n e.value
  statement_peak n (Declare e) = peak n e.value
  statement_peak n (Block' shape row) = row_peak n row
  statement_peak n (If' e x a y b) = max (peak n e.value) (max (statement_peak n a) (statement_peak n b))
  statement_peak n (While' e x s y step) = max (peak n e.value) (max (statement_peak n s) (statement_peak n step))
  statement_peak n (DoWhile' e x s) = max (peak n e.value) (statement_peak n s)
  statement_peak n (Return e) = peak n e.value
  statement_peak n Break = 0
  statement_peak n Continue = 0

  pub row_peak : {k : _} → ℕ → Row_of-CoreStatement k → ℕ
  row_peak n end_of-CoreStatement = 0
  row_peak n (more_of-CoreStatement s rest) = max (statement_peak n s) (row_peak (declared s + n) rest)

-- the same of a list of statements
abbrev pub statements_peak : ℕ → List CoreStatement → ℕ
statements_peak n [] = 0
statements_peak n (s ∷ ss) = max (statement_peak n s) (statements_peak (declared s + n) ss)

-- in a whole body with q parameters; at its end a value stands above its locals
abbrev pub body_peak : ℕ → CoreStatement → ℕ
body_peak q s = max (statement_peak q s) (declared s + q + 1)
