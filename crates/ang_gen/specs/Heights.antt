-- How many values a body has on the stack at once.
use Rattle.std.specs.Prelude.{ℕ, suc, ◌+◌, ◌<◌, length}
use Rattle.ang_core.specs.declared.tree.CoreExpression.{CoreExpression, Row_of-CoreExpression, end_of-CoreExpression, more_of-CoreExpression}
use Rattle.ang_core.specs.declared.tree.CoreExpression.TheVariants.{Number, Null as Nothing, Local, Assign', Update', Apply', Call', Choose'}
use Rattle.ang_core.specs.declared.tree.CoreStatement.{CoreStatement, Row_of-CoreStatement, end_of-CoreStatement, more_of-CoreStatement}
use Rattle.ang_core.specs.declared.tree.CoreStatement.TheVariants.{Skip, Evaluate, Declare, Block', If', While', DoWhile', Return, Break, Continue}
use Rattle.ang_core.specs.Sound.{declared}

-- Where d values stand below it in its frame, an expression never makes it more than h; a call's value stands above those of its `&out` parameters.
abbrev mutual
  pub Below : ℕ → ℕ → CoreExpression → Type 0
  Below h d (Number n) = d < h
  Below h d Nothing = d < h
  Below h d (Local i) = d < h
  Below h d (Assign' i p e) = Below h d e
  Below h d (Update' i by p e) = Below h d e
  Below h d (Apply' o shape args) = (d < h) × BelowArgs h d args
  Below h d (Call' f shape args outs) = (length outs.value.items + d < h) × BelowArgs h d args
  Below h d (Choose' p a q b s c) = Below h d a × Below h d b × Below h d c

  pub BelowArgs : {k : _} → ℕ → ℕ → Row_of-CoreExpression k → Type 0
  BelowArgs h d end_of-CoreExpression = Unit {0}
  BelowArgs h d (more_of-CoreExpression e rest) = Below h d e × BelowArgs h (suc d) rest

-- the same of a statement where n locals are alive
abbrev mutual
  pub BelowStatement : ℕ → ℕ → CoreStatement → Type 0
  BelowStatement h n Skip = Unit {0}
  BelowStatement h n (Evaluate e) = Below h n e.value
  BelowStatement h n (Declare e) = Below h n e.value
  BelowStatement h n (Block' shape row) = BelowRow h n row
  BelowStatement h n (If' e x a y b) = Below h n e.value × BelowStatement h n a × BelowStatement h n b
  BelowStatement h n (While' e x s y step) = Below h n e.value × BelowStatement h n s × BelowStatement h n step
  BelowStatement h n (DoWhile' e x s) = Below h n e.value × BelowStatement h n s
  BelowStatement h n (Return e) = Below h n e.value
  BelowStatement h n Break = Unit {0}
  BelowStatement h n Continue = Unit {0}

  pub BelowRow : {k : _} → ℕ → ℕ → Row_of-CoreStatement k → Type 0
  BelowRow h n end_of-CoreStatement = Unit {0}
  BelowRow h n (more_of-CoreStatement s rest) = BelowStatement h n s × BelowRow h (declared s + n) rest

-- a whole body with q parameters; at its end a value stands above its locals
pub record BelowBody (h q : ℕ) (s : CoreStatement) : Type 0 where
  pub inside : BelowStatement h q s
  pub at_end : declared s + q < h
