-- A row of children in a tree and the list of its elements.
use Rattle.std.proofs.Common.{◌≡◌, ℕ, suc, ◌+◌, [], ◌∷◌, ◌++◌, length, refl, ap, ◌∙◌}
use Rattle.std.specs.Prelude.{max}
use Rattle.std.specs.declared.boxed.Box.{Box}
use Rattle.std.specs.declared.vec.Vec.{Vec}
use Rattle.std.specs.declared.alloc.Global.{Global}
use Rattle.ang_meaning.specs.declared.operation.Operation.{Operation}
use Rattle.ang_meaning.specs.declared.routine.Callee.{Callee}
use Rattle.ang_meaning.specs.declared.routine.Target.{Target}
use Rattle.ang_core.specs.declared.tree.CoreExpression.{CoreExpression, Row_of-CoreExpression, end_of-CoreExpression, more_of-CoreExpression, items-the_row-CoreExpression, items_hidden-the_row-CoreExpression-0}
use Rattle.ang_core.specs.declared.tree.CoreExpression.TheVariants.{Apply, Call}
use Rattle.ang_core.specs.declared.tree.CoreStatement.{CoreStatement, Row_of-CoreStatement, end_of-CoreStatement, more_of-CoreStatement, items-the_row-CoreStatement, items_hidden-the_row-CoreStatement-0}
use Rattle.ang_core.specs.declared.tree.CoreStatement.TheVariants.{Block}
use Rattle.ang_core.specs.Sound.{declared, row_declared}
use Rattle.ang_code.specs.declared.instruction.Instruction.TheVariants.{Apply as InstructionApply, Enter}
use Rattle.ang_gen.specs.Code.{expr_code, args_code, outs_code, stmt_code, row_code, leave_code, block_code}
use Rattle.ang_gen.specs.Rows.{list_code, declared_in, statements_code}
use Rattle.ang_gen.specs.Peaks.{peak, args_peak, list_peak, statement_peak, row_peak, statements_peak}

-- ---- expressions

args_list : {m : _} → (d : ℕ) (k : Row_of-CoreExpression m) → args_code d k ≡ list_code d (items-the_row-CoreExpression m k)
args_list d end_of-CoreExpression = refl
args_list d (more_of-CoreExpression e rest) = ap (λ l. expr_code d e ++ l) (args_list (suc d) rest)

args_code_is : (d : ℕ) (v : Vec CoreExpression Global) → args_code d (Rattle.ang_core.specs.declared.tree.CoreExpression.TheBlock.hidden-the_row-CoreExpression-0 v) ≡ list_code d v.items
args_code_is d v =
    args_list d (Rattle.ang_core.specs.declared.tree.CoreExpression.TheBlock.hidden-the_row-CoreExpression-0 v) ∙ ap (λ l. list_code d l) (items_hidden-the_row-CoreExpression-0 v)

pub apply_code : (d : ℕ) (o : Operation) (v : Vec CoreExpression Global) → expr_code d (Apply o v) ≡ list_code d v.items ++ InstructionApply o ∷ []
apply_code d o v = ap (λ l. l ++ InstructionApply o ∷ []) (args_code_is d v)

pub call_code : (d : ℕ) (f : Callee) (v : Vec CoreExpression Global) (xs : Box (Vec Target Global) Global) → expr_code d (Call f v xs) ≡ list_code d v.items ++ (Enter f ∷ outs_code d xs.value.items)
call_code d f v xs = ap (λ l. l ++ (Enter f ∷ outs_code d xs.value.items)) (args_code_is d v)

args_peak_list : {m : _} → (d : ℕ) (k : Row_of-CoreExpression m) → args_peak d k ≡ list_peak d (items-the_row-CoreExpression m k)
args_peak_list d end_of-CoreExpression = refl
args_peak_list d (more_of-CoreExpression e rest) = ap (λ n. max (peak d e) n) (args_peak_list (suc d) rest)

args_peak_is : (d : ℕ) (v : Vec CoreExpression Global) → args_peak d (Rattle.ang_core.specs.declared.tree.CoreExpression.TheBlock.hidden-the_row-CoreExpression-0 v) ≡ list_peak d v.items
args_peak_is d v =
    args_peak_list d (Rattle.ang_core.specs.declared.tree.CoreExpression.TheBlock.hidden-the_row-CoreExpression-0 v) ∙ ap (λ l. list_peak d l) (items_hidden-the_row-CoreExpression-0 v)

pub apply_peak : (d : ℕ) (o : Operation) (v : Vec CoreExpression Global) → peak d (Apply o v) ≡ max (d + 1) (list_peak d v.items)
apply_peak d o v = ap (λ n. max (d + 1) n) (args_peak_is d v)

pub call_peak : (d : ℕ) (f : Callee) (v : Vec CoreExpression Global) (xs : Box (Vec Target Global) Global) → peak d (Call f v xs) ≡ max (length xs.value.items + d + 1) (list_peak d v.items)
call_peak d f v xs = ap (λ n. max (length xs.value.items + d + 1) n) (args_peak_is d v)

-- ---- statements

declared_list : {m : _} → (k : Row_of-CoreStatement m) → row_declared k ≡ declared_in (items-the_row-CoreStatement m k)
declared_list end_of-CoreStatement = refl
declared_list (more_of-CoreStatement s rest) = ap (λ n. n + declared s) (declared_list rest)

row_list : {m : _} → (q n j kb kc : ℕ) (k : Row_of-CoreStatement m) → row_code q n j kb kc k ≡ statements_code q n j kb kc (items-the_row-CoreStatement m k)
row_list q n j kb kc end_of-CoreStatement = refl
row_list q n j kb kc (more_of-CoreStatement s rest) =
    ap (λ cr. stmt_code q n j (kb + length cr) (kc + length cr) s ++ cr) (row_list q (declared s + n) j kb kc rest)

row_peak_list : {m : _} → (n : ℕ) (k : Row_of-CoreStatement m) → row_peak n k ≡ statements_peak n (items-the_row-CoreStatement m k)
row_peak_list n end_of-CoreStatement = refl
row_peak_list n (more_of-CoreStatement s rest) = ap (λ m. max (statement_peak n s) m) (row_peak_list (declared s + n) rest)

pub block_row : (q n j kb kc : ℕ) (v : Vec CoreStatement Global) →
    stmt_code q n j kb kc (Block v) ≡ block_code (statements_code q n j (kb + length (leave_code (declared_in v.items))) (kc + length (leave_code (declared_in v.items))) v.items) (declared_in v.items)
block_row q n j kb kc v =
    let row = Rattle.ang_core.specs.declared.tree.CoreStatement.TheBlock.hidden-the_row-CoreStatement-0 v in
    let items : items-the_row-CoreStatement _ row ≡ v.items = items_hidden-the_row-CoreStatement-0 v in
    let count : row_declared row ≡ declared_in v.items = declared_list row ∙ ap (λ l. declared_in l) items in
    ap (λ m. block_code (row_code q n j (kb + length (leave_code m)) (kc + length (leave_code m)) row) m) count
    ∙ ap (λ l. block_code l (declared_in v.items)) (row_list q n j (kb + length (leave_code (declared_in v.items))) (kc + length (leave_code (declared_in v.items))) row
    ∙ ap (λ l. statements_code q n j (kb + length (leave_code (declared_in v.items))) (kc + length (leave_code (declared_in v.items))) l) items)

pub block_peak : (n : ℕ) (v : Vec CoreStatement Global) → statement_peak n (Block v) ≡ statements_peak n v.items
block_peak n v =
    let row = Rattle.ang_core.specs.declared.tree.CoreStatement.TheBlock.hidden-the_row-CoreStatement-0 v in
    row_peak_list n row ∙ ap (λ l. statements_peak n l) (items_hidden-the_row-CoreStatement-0 v)
