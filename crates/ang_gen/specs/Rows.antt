-- The code of lists of expressions and of statements.
use Rattle.std.specs.Prelude.{ℕ, suc, ◌+◌, List, [], ◌∷◌, ◌++◌, length}
use Rattle.ang_core.specs.declared.tree.CoreExpression.{CoreExpression}
use Rattle.ang_core.specs.declared.tree.CoreStatement.{CoreStatement}
use Rattle.ang_core.specs.Sound.{declared}
use Rattle.ang_code.specs.declared.instruction.Instruction.{Instruction}
use Rattle.ang_gen.specs.Code.{expr_code, stmt_code}

-- expressions, each above the values of those before it
abbrev pub list_code : ℕ → List CoreExpression → List Instruction
list_code d [] = []
list_code d (e ∷ es) = expr_code d e ++ list_code (suc d) es

-- the locals that statements leave alive
abbrev pub declared_in : List CoreStatement → ℕ
declared_in [] = 0
declared_in (s ∷ ss) = declared_in ss + declared s

-- each where the locals of those before it are alive
abbrev pub statements_code : ℕ → ℕ → ℕ → ℕ → ℕ → List CoreStatement → List Instruction
statements_code q n m kb kc [] = []
statements_code q n m kb kc (s ∷ ss) =
    let cr = statements_code q (declared s + n) m kb kc ss in
    stmt_code q n m (kb + length cr) (kc + length cr) s ++ cr
