-- The core tree of statements and bodies without where it lies in memory (docs/CLAIMS.md, "What a body does").
use Rattle.std.specs.Prelude.{List, [], ◌∷◌, Option}
use Rattle.ang_kinds.specs.declared.primitive.Primitive.{Primitive}
use Rattle.ang_meaning.specs.declared.routine.Passing.{Passing}
use Rattle.ang_lower.specs.ExprTree.{Expr}

mutual
  pub data Stmt : Type 0 where
    skip : Stmt
    evaluate : Expr → Stmt
    declare : Expr → Stmt
    block : Stmts → Stmt
    either : Expr → Stmt → Stmt → Stmt
    while : Expr → Stmt → Stmt → Stmt
    do_while : Expr → Stmt → Stmt
    return : Expr → Stmt
    break : Stmt
    continue : Stmt

  -- statements in turn
  pub data Stmts : Type 0 where
    end : Stmts
    then : Stmt → Stmts → Stmts

abbrev pub stmts : List Stmt → Stmts
stmts [] = end
stmts (s ∷ ss) = then s (stmts ss)

-- a function's body or an initializer's: how each parameter takes its argument, the last one first, the primitive type of its value, and what it does
pub record Whole : Type 0 where
  pub params : List Passing
  pub result : Option Primitive
  pub statement : Stmt
