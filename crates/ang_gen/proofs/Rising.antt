-- The greatest number of values in a frame is the least bound that the frame stays within.
use Rattle.std.proofs.Common.{◌≡◌, ℕ, suc, ◌+◌, ◌-◌, ◌≤◌, arith}
use Rattle.ang_core.specs.declared.tree.CoreBody.{CoreBody}
use Rattle.ang_core.specs.declared.tree.CoreExpression.{CoreExpression, Row_of-CoreExpression, end_of-CoreExpression, more_of-CoreExpression}
use Rattle.ang_core.specs.declared.tree.CoreExpression.TheVariants.{Number, Null as Nothing, Local, Assign', Update', Apply', Call', Choose'}
use Rattle.ang_core.specs.declared.tree.CoreStatement.{CoreStatement, Row_of-CoreStatement, end_of-CoreStatement, more_of-CoreStatement}
use Rattle.ang_core.specs.declared.tree.CoreStatement.TheVariants.{Skip, Evaluate, Declare, Block', If', While', DoWhile', Return, Break, Continue}
use Rattle.ang_core.specs.Sound.{declared}
use Rattle.ang_gen.specs.Heights.{Below, BelowArgs, BelowStatement, BelowRow, BelowBody}
use Rattle.ang_gen.specs.Peaks.{peak, args_peak, statement_peak, row_peak, body_peak}
use Rattle.ang_gen.specs.Programs.{parameter_count, IsHeight}

mutual
  below : (h d : ℕ) (e : CoreExpression) → peak d e ≤ h → Below h d e
  below h d (Number n) le = omega arith
  below h d Nothing le = omega arith
  below h d (Local i) le = omega arith
  below h d (Assign' i p e) le = below h d e le
  below h d (Update' i by p e) le = below h d e le
  below h d (Apply' o shape args) le = (omega arith, below_args h d args (omega arith))
  below h d (Call' f shape args outs) le = (omega arith, below_args h d args (omega arith))
  below h d (Choose' p a q b s c) le = (below h d a (omega arith), below h d b (omega arith), below h d c (omega arith))

  below_args : {k : _} → (h d : ℕ) (args : Row_of-CoreExpression k) → args_peak d args ≤ h → BelowArgs h d args
  below_args h d end_of-CoreExpression le = tt
  below_args h d (more_of-CoreExpression e rest) le = (below h d e (omega arith), below_args h (suc d) rest (omega arith))

mutual
  peaks : (h d : ℕ) (e : CoreExpression) → Below h d e → peak d e ≤ h
  peaks h d (Number n) b = omega arith
  peaks h d Nothing b = omega arith
  peaks h d (Local i) b = omega arith
  peaks h d (Assign' i p e) b = peaks h d e b
  peaks h d (Update' i by p e) b = peaks h d e b
  peaks h d (Apply' o shape args) b = omega (arith, b.0, peaks_args h d args b.1)
  peaks h d (Call' f shape args outs) b = omega (arith, b.0, peaks_args h d args b.1)
  peaks h d (Choose' p a q x s c) b = omega (arith, peaks h d a b.0, peaks h d x b.1, peaks h d c b.2)

  peaks_args : {k : _} → (h d : ℕ) (args : Row_of-CoreExpression k) → BelowArgs h d args → args_peak d args ≤ h
  peaks_args h d end_of-CoreExpression b = omega arith
  peaks_args h d (more_of-CoreExpression e rest) b = omega (arith, peaks h d e b.0, peaks_args h (suc d) rest b.1)

mutual
  below_statement : (h n : ℕ) (s : CoreStatement) → statement_peak n s ≤ h → BelowStatement h n s
  below_statement h n Skip le = tt
  below_statement h n (Evaluate e) le = below h n e.value le
  below_statement h n (Declare e) le = below h n e.value le
  below_statement h n (Block' shape row) le = below_row h n row le
  below_statement h n (If' e x a y b) le = (below h n e.value (omega arith), below_statement h n a (omega arith), below_statement h n b (omega arith))
  below_statement h n (While' e x s y step) le = (below h n e.value (omega arith), below_statement h n s (omega arith), below_statement h n step (omega arith))
  below_statement h n (DoWhile' e x s) le = (below h n e.value (omega arith), below_statement h n s (omega arith))
  below_statement h n (Return e) le = below h n e.value le
  below_statement h n Break le = tt
  below_statement h n Continue le = tt

  below_row : {k : _} → (h n : ℕ) (row : Row_of-CoreStatement k) → row_peak n row ≤ h → BelowRow h n row
  below_row h n end_of-CoreStatement le = tt
  below_row h n (more_of-CoreStatement s rest) le = (below_statement h n s (omega arith), below_row h (declared s + n) rest (omega arith))

mutual
  peaks_statement : (h n : ℕ) (s : CoreStatement) → BelowStatement h n s → statement_peak n s ≤ h
  peaks_statement h n Skip b = omega arith
  peaks_statement h n (Evaluate e) b = peaks h n e.value b
  peaks_statement h n (Declare e) b = peaks h n e.value b
  peaks_statement h n (Block' shape row) b = peaks_row h n row b
  peaks_statement h n (If' e x s y r) b = omega (arith, peaks h n e.value b.0, peaks_statement h n s b.1, peaks_statement h n r b.2)
  peaks_statement h n (While' e x s y step) b = omega (arith, peaks h n e.value b.0, peaks_statement h n s b.1, peaks_statement h n step b.2)
  peaks_statement h n (DoWhile' e x s) b = omega (arith, peaks h n e.value b.0, peaks_statement h n s b.1)
  peaks_statement h n (Return e) b = peaks h n e.value b
  peaks_statement h n Break b = omega arith
  peaks_statement h n Continue b = omega arith

  peaks_row : {k : _} → (h n : ℕ) (row : Row_of-CoreStatement k) → BelowRow h n row → row_peak n row ≤ h
  peaks_row h n end_of-CoreStatement b = omega arith
  peaks_row h n (more_of-CoreStatement s rest) b = omega (arith, peaks_statement h n s b.0, peaks_row h (declared s + n) rest b.1)

body_below : (h q : ℕ) (s : CoreStatement) → body_peak q s ≤ h → BelowBody h q s
body_below h q s le = record { inside = below_statement h q s (omega arith); at_end = omega arith }

peak_within : (h q : ℕ) (s : CoreStatement) → BelowBody h q s → body_peak q s ≤ h
peak_within h q s b = omega (arith, peaks_statement h q s b.inside, b.at_end)

-- what is left of the peak above the parameters is the height
pub is_height : (b : CoreBody) (top height : ℕ) → top ≡ body_peak (parameter_count b) b.statement → height ≡ top - parameter_count b → IsHeight height b
is_height b top height e f = record {
  enough = body_below (parameter_count b + height) (parameter_count b) b.statement (omega arith);
  least = λ h within. let le : body_peak (parameter_count b) b.statement ≤ parameter_count b + h = peak_within (parameter_count b + h) (parameter_count b) b.statement within in omega arith;
}
