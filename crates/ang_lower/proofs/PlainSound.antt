-- What the generator wants of a body, read off the plain tree.
use Rattle.std.proofs.Common.{◌≡◌, ℕ, suc, ◌+◌, ◌<◌, length, refl, sym, ap, ◌∙◌, subst}
use Rattle.std.specs.Prelude.{Bool, true, false, IsTrue}
use Rattle.ang_meaning.specs.Environment.{Environment, is_fit}
use Rattle.ang_meaning.specs.Perform.{operands}
use Rattle.ang_core.specs.declared.tree.CoreExpression.{CoreExpression, Row_of-CoreExpression, end_of-CoreExpression, more_of-CoreExpression}
use Rattle.ang_core.specs.declared.tree.CoreExpression.TheVariants.{Number, Null as Nothing, Local, Assign', Update', Apply', Call', Choose'}
use Rattle.ang_core.specs.declared.tree.CoreStatement.{CoreStatement, Row_of-CoreStatement, end_of-CoreStatement, more_of-CoreStatement}
use Rattle.ang_core.specs.declared.tree.CoreStatement.TheVariants.{Skip, Evaluate, Declare, Block', If', While', DoWhile', Return, Break, Continue}
use Rattle.ang_core.specs.Sound.{row_count, Fits, AreSpots, Sound, SoundArgs, declared, SoundStatement, SoundRow}
use Rattle.ang_lower.specs.ExprTree as c
use Rattle.ang_lower.specs.Tree as stmt
use Rattle.ang_lower.specs.PlainExpr.{plain_expr, plain_row}
use Rattle.ang_lower.specs.Plain.{plain_stmt, plain_stmts}

abbrev pub operand_count : c.Exprs → ℕ
operand_count c.none = 0
operand_count (c.more e es) = suc (operand_count es)

abbrev mutual
  pub IsSound : Environment → ℕ → ℕ → c.Expr → Type 0
  IsSound z m n (c.number x) = Unit {0}
  IsSound z m n c.null = Unit {0}
  IsSound z m n (c.local i) = i < n
  IsSound z m n (c.assign i e) = (i < n) × IsSound z m n e
  IsSound z m n (c.change i by e) = (i < n) × IsSound z m n e
  IsSound z m n (c.apply o args) = (operand_count args ≡ operands z m o) × (is_fit z m o ≡ true) × AreSoundArgs z m n args
  IsSound z m n (c.call f args outs) = Fits z m f (operand_count args) (length outs) × AreSpots n outs × AreSoundArgs z m n args
  IsSound z m n (c.choose a b d) = IsSound z m n a × IsSound z m n b × IsSound z m n d

  pub AreSoundArgs : Environment → ℕ → ℕ → c.Exprs → Type 0
  AreSoundArgs z m n c.none = Unit {0}
  AreSoundArgs z m n (c.more e es) = IsSound z m n e × AreSoundArgs z m n es

abbrev pub leaves : stmt.Stmt → ℕ
leaves stmt.skip = 0
leaves (stmt.evaluate e) = 0
leaves (stmt.declare e) = 1
leaves (stmt.block ss) = 0
leaves (stmt.either e a b) = 0
leaves (stmt.while e s step) = 0
leaves (stmt.do_while e s) = 0
leaves (stmt.return e) = 0
leaves stmt.break = 0
leaves stmt.continue = 0

abbrev pub leaves_all : stmt.Stmts → ℕ
leaves_all stmt.end = 0
leaves_all (stmt.«then» s ss) = leaves_all ss + leaves s

abbrev mutual
  pub IsSoundStmt : Environment → ℕ → Bool → ℕ → stmt.Stmt → Type 0
  IsSoundStmt z m loop n stmt.skip = Unit {0}
  IsSoundStmt z m loop n (stmt.evaluate e) = IsSound z m n e
  IsSoundStmt z m loop n (stmt.declare e) = IsSound z m n e
  IsSoundStmt z m loop n (stmt.block ss) = AreSoundStmts z m loop n ss
  IsSoundStmt z m loop n (stmt.either e a b) = IsSound z m n e × IsSoundStmt z m loop n a × IsSoundStmt z m loop n b
  IsSoundStmt z m loop n (stmt.while e s step) = IsSound z m n e × IsSoundStmt z m true n s × IsSoundStmt z m false n step
  IsSoundStmt z m loop n (stmt.do_while e s) = IsSound z m n e × IsSoundStmt z m true n s
  IsSoundStmt z m loop n (stmt.return e) = IsSound z m n e
  IsSoundStmt z m loop n stmt.break = IsTrue loop
  IsSoundStmt z m loop n stmt.continue = IsTrue loop

  pub AreSoundStmts : Environment → ℕ → Bool → ℕ → stmt.Stmts → Type 0
  AreSoundStmts z m loop n stmt.end = Unit {0}
  AreSoundStmts z m loop n (stmt.«then» s ss) = IsSoundStmt z m loop n s × AreSoundStmts z m loop (leaves s + n) ss

-- ---- of a core tree

count_is : {r : _} → (args : Row_of-CoreExpression r) → operand_count (plain_row args) ≡ row_count args
count_is end_of-CoreExpression = refl
count_is (more_of-CoreExpression e rest) = ap suc (count_is rest)

module _ (z : Environment) (m : ℕ) where
  mutual
    sound_is : (n : ℕ) (e : CoreExpression) → IsSound z m n (plain_expr e) → Sound z m n e
    sound_is n (Number x) h = tt
    sound_is n Nothing h = tt
    sound_is n (Local i) h = h
    sound_is n (Assign' i p e) h = (h.0, sound_is n e h.1)
    sound_is n (Update' i by p e) h = (h.0, sound_is n e h.1)
    sound_is n (Apply' o shape args) h = (sym (count_is args) ∙ h.0, h.1, args_are n args h.2)
    sound_is n (Call' f shape args outs) h = (subst (λ i. Fits z m f i (length outs.value.items)) (count_is args) h.0, h.1, args_are n args h.2)
    sound_is n (Choose' p a q b s d) h = (sound_is n a h.0, sound_is n b h.1, sound_is n d h.2)

    args_are : {r : _} → (n : ℕ) (args : Row_of-CoreExpression r) → AreSoundArgs z m n (plain_row args) → SoundArgs z m n args
    args_are n end_of-CoreExpression h = tt
    args_are n (more_of-CoreExpression e rest) h = (sound_is n e h.0, args_are n rest h.1)

  leaves_is : (s : CoreStatement) → leaves (plain_stmt s) ≡ declared s
  leaves_is Skip = refl
  leaves_is (Evaluate e) = refl
  leaves_is (Declare e) = refl
  leaves_is (Block' shape row) = refl
  leaves_is (If' e x a y b) = refl
  leaves_is (While' e x s y step) = refl
  leaves_is (DoWhile' e x s) = refl
  leaves_is (Return e) = refl
  leaves_is Break = refl
  leaves_is Continue = refl

  mutual
    pub statement_is : (loop : Bool) (n : ℕ) (s : CoreStatement) → IsSoundStmt z m loop n (plain_stmt s) → SoundStatement z m loop n s
    statement_is loop n Skip h = tt
    statement_is loop n (Evaluate e) h = sound_is n e.value h
    statement_is loop n (Declare e) h = sound_is n e.value h
    statement_is loop n (Block' shape row) h = row_is loop n row h
    statement_is loop n (If' e x a y b) h = (sound_is n e.value h.0, statement_is loop n a h.1, statement_is loop n b h.2)
    statement_is loop n (While' e x s y step) h = (sound_is n e.value h.0, statement_is true n s h.1, statement_is false n step h.2)
    statement_is loop n (DoWhile' e x s) h = (sound_is n e.value h.0, statement_is true n s h.1)
    statement_is loop n (Return e) h = sound_is n e.value h
    statement_is loop n Break h = h
    statement_is loop n Continue h = h

    row_is : {r : _} → (loop : Bool) (n : ℕ) (row : Row_of-CoreStatement r) → AreSoundStmts z m loop n (plain_stmts row) → SoundRow z m loop n row
    row_is loop n end_of-CoreStatement h = tt
    row_is loop n (more_of-CoreStatement s rest) h =
        (statement_is loop n s h.0, subst (λ i. SoundRow z m loop (i + n) rest) (leaves_is s) (row_is loop (leaves (plain_stmt s) + n) rest h.1))
