-- The core tree of a statement, of a body and of a module of the resolved tree (docs/CLAIMS.md, "What a script means" and "What a body does"), where n
-- locals are alive.
use Rattle.std.specs.Prelude.{◌≡◌, ℕ, suc, ◌+◌, List, [], ◌∷◌, ◌++◌, length, map, Option, Some, None}
use Rattle.ang_typed.specs.declared.expression.TypedVariable.TheVariants as variable
use Rattle.ang_typed.specs.Typed as t
use Rattle.ang_typed.specs.View.{Repeated}
use Rattle.ang_core.specs.declared.tree.CoreStatement.{CoreStatement}
use Rattle.ang_source.specs.Meaning.{Code, of_function, of_global, passings_of}
use Rattle.ang_types.specs.ArgTypes.{primitive_of}
use Rattle.ang_source.specs.Sound.{declared, declared_by}
use Rattle.ang_lower.specs.LoweredExpr.{stored, lowered, lowered_or, lowered_begin}
use Rattle.ang_lower.specs.Tree as stmt
use Rattle.ang_lower.specs.Plain.{plain_stmt}

-- ---- statements

-- each local is a statement of its own
abbrev pub lowered_locals : ℕ → List t.Local → List stmt.Stmt
lowered_locals n [] = []
lowered_locals n (l ∷ ls) = stmt.declare (lowered_begin n l.ty l.initializer) ∷ lowered_locals (suc n) ls

abbrev pub lowered_simple : ℕ → Option t.Expr → stmt.Stmt
lowered_simple n None = stmt.skip
lowered_simple n (Some e) = stmt.evaluate (lowered n e)

-- the steps of a `for`
abbrev pub lowered_each : ℕ → List t.Expr → List stmt.Stmt
lowered_each n es = map (λ e. stmt.evaluate (lowered n e)) es

abbrev pub lowered_steps : ℕ → List t.Expr → stmt.Stmt
lowered_steps n [] = stmt.skip
lowered_steps n (e ∷ es) = stmt.block (stmt.stmts (lowered_each n (e ∷ es)))

-- statements in a block of their own
abbrev pub lowered_block : List stmt.Stmt → stmt.Stmt
lowered_block ss = stmt.block (stmt.stmts ss)

-- a loop with its body's statements; a condition that is not written is true
abbrev pub lowered_loop : ℕ → Option t.Expr → List t.Expr → List stmt.Stmt → stmt.Stmt
lowered_loop n e steps ss = stmt.while (lowered_or n 1 e) (lowered_block ss) (lowered_steps n steps)

abbrev mutual
  -- the statements that stand for one
  pub lowered_stmt : ℕ → t.Stmt → List stmt.Stmt
  lowered_stmt n (t.block ss) = lowered_block (lowered_all n ss) ∷ []
  lowered_stmt n (t.locals ls) = lowered_locals n ls
  lowered_stmt n (t.expression e) = lowered_simple n e ∷ []
  lowered_stmt n t.break = stmt.break ∷ []
  lowered_stmt n t.continue = stmt.continue ∷ []
  lowered_stmt n (t.return e) = stmt.return (lowered_or n 0 e) ∷ []
  lowered_stmt n (t.either e ss otherwise) =
      stmt.either (lowered n e) (lowered_block (lowered_all n ss)) (lowered_block (lowered_all n otherwise)) ∷ []
  lowered_stmt n (t.while e ss) = lowered_loop n (Some e) [] (lowered_all n ss) ∷ []
  lowered_stmt n (t.do_while ss e) = stmt.do_while (lowered n e) (lowered_block (lowered_all n ss)) ∷ []
  lowered_stmt n (t.for start e steps ss) =
      lowered_block (lowered_all n start ++ lowered_loop (declared_by start + n) e steps (lowered_all (declared_by start + n) ss) ∷ []) ∷ []

  -- statements in turn
  pub lowered_all : ℕ → t.Stmts → List stmt.Stmt
  lowered_all n t.end = []
  lowered_all n (t.«then» s ss) = lowered_stmt n s ++ lowered_all (declared s + n) ss

-- loops of a condition and a body
abbrev pub lowered_while : ℕ → Repeated → stmt.Stmt
lowered_while n l = lowered_loop n (Some l.0) [] (lowered_all n l.1)

abbrev pub lowered_do_while : ℕ → Repeated → stmt.Stmt
lowered_do_while n l = stmt.do_while (lowered n l.0) (lowered_block (lowered_all n l.1))

-- ---- bodies

-- a whole body with n parameters
abbrev pub lowered_code : ℕ → Code → stmt.Stmt
lowered_code n (of_function ss) = lowered_block (lowered_all n ss)
lowered_code n (of_global g e) = stmt.evaluate (stored n (variable.Global g) (lowered n e))

-- the statement is that body's
pub record IsLowered (n : ℕ) (k : Code) (s : CoreStatement) : Type 0 where
  pub same : plain_stmt s ≡ lowered_code n k

abbrev pub lowered_function : t.TypedFunction → stmt.Whole
lowered_function f =
    record { params = passings_of f.parameters; result = primitive_of f.result; statement = lowered_code (length f.parameters) (of_function f.body) }

-- the initializers of globals, counted from this number on
abbrev pub lowered_initializer : ℕ → Option t.Expr → List stmt.Whole
lowered_initializer g None = []
lowered_initializer g (Some e) = record { params = []; result = None; statement = lowered_code 0 (of_global g e) } ∷ []

abbrev pub lowered_globals : ℕ → List t.Global → List stmt.Whole
lowered_globals g [] = []
lowered_globals g (x ∷ xs) = lowered_initializer g x.initializer ++ lowered_globals (suc g) xs

-- The bodies of a module by number: the functions' first, and then the initializers'.
abbrev pub lowered_module : t.Program → List stmt.Whole
lowered_module p = map lowered_function p.functions ++ lowered_globals 0 p.globals
