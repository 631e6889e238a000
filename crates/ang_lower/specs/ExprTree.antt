-- The core tree of expressions without where it lies in memory (docs/CLAIMS.md, "What a body does").
use Rattle.std.specs.Prelude.{ℕ, List, [], ◌∷◌}
use Rattle.ang_meaning.specs.declared.operation.Update.{Update}
use Rattle.ang_meaning.specs.declared.operation.Operation.{Operation}
use Rattle.ang_meaning.specs.declared.routine.Callee.{Callee}
use Rattle.ang_meaning.specs.declared.routine.Target.{Target}

mutual
  pub data Expr : Type 0 where
    number : ℕ → Expr
    null : Expr
    local : ℕ → Expr
    assign : ℕ → Expr → Expr
    change : ℕ → Update → Expr → Expr
    apply : Operation → Exprs → Expr
    call : Callee → Exprs → List Target → Expr
    choose : Expr → Expr → Expr → Expr

  -- operands
  pub data Exprs : Type 0 where
    none : Exprs
    more : Expr → Exprs → Exprs

abbrev pub exprs : List Expr → Exprs
exprs [] = none
exprs (e ∷ es) = more e (exprs es)
