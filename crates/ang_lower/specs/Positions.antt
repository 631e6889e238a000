-- Where the statements of core bodies stand: each where that statement of the resolved body stands of which it comes.
use Rattle.std.specs.Prelude.{ℕ, suc, ◌+◌, List, [], ◌∷◌, ◌++◌, length, replicate, map, Option, Some, None}
use Rattle.std.specs.List.{flat_map}
use Rattle.ang_kinds.specs.declared.position.Position.{Position}
use Rattle.ang_typed.specs.Typed as t
use Rattle.ang_core.specs.declared.tree.CoreBody.{CoreBody}
use Rattle.ang_lower.specs.Tree as stmt

-- Places of statements of the resolved tree are listed in the order of the text: each statement's own, then those of the statements inside it.

-- the first one listed; the beginning of the section where none is
abbrev pub first : List Position → Position
first [] = record { line = 0; column = 0 }
first (p ∷ ps) = p

abbrev pub others : List Position → List Position
others [] = []
others (p ∷ ps) = ps

abbrev mutual
  -- those listed behind the ones of the statements inside a statement
  pub behind_inside : t.Stmt → List Position → List Position
  behind_inside (t.block ss) ps = behind ss ps
  behind_inside (t.locals ls) ps = ps
  behind_inside (t.expression e) ps = ps
  behind_inside t.break ps = ps
  behind_inside t.continue ps = ps
  behind_inside (t.return e) ps = ps
  behind_inside (t.either e ss otherwise) ps = behind otherwise (behind ss ps)
  behind_inside (t.while e ss) ps = behind ss ps
  behind_inside (t.do_while ss e) ps = behind ss ps
  behind_inside (t.for start e steps ss) ps = behind ss (behind start ps)

  -- behind those of statements in turn
  pub behind : t.Stmts → List Position → List Position
  behind t.end ps = ps
  behind (t.«then» s ss) ps = behind ss (behind_inside s (others ps))

-- ---- the core statements that stand in blocks, each after those inside it

abbrev mutual
  -- What a statement at p is lowered to, where those inside it stand at the first of ps. All of it that comes of none of those stands at p:
  -- the declaration of each variable; of a `for` the steps, the loop, and the block around it.
  pub core_in : t.Stmt → Position → List Position → List Position
  core_in (t.block ss) p ps = core_of ss ps ++ p ∷ []
  core_in (t.locals ls) p ps = replicate (length ls) p
  core_in (t.expression e) p ps = p ∷ []
  core_in t.break p ps = p ∷ []
  core_in t.continue p ps = p ∷ []
  core_in (t.return e) p ps = p ∷ []
  core_in (t.either e ss otherwise) p ps = core_of ss ps ++ (core_of otherwise (behind ss ps) ++ p ∷ [])
  core_in (t.while e ss) p ps = core_of ss ps ++ p ∷ []
  core_in (t.do_while ss e) p ps = core_of ss ps ++ p ∷ []
  core_in (t.for start e steps ss) p ps = core_of start ps ++ (core_of ss (behind start ps) ++ (replicate (length steps) p ++ p ∷ p ∷ []))

  -- what statements in turn are lowered to
  pub core_of : t.Stmts → List Position → List Position
  core_of t.end ps = []
  core_of (t.«then» s ss) ps = core_in s (first ps) (others ps) ++ core_of ss (behind_inside s (others ps))

-- ---- how many those are, in the core tree itself

abbrev mutual
  -- in the blocks of a statement
  pub in_blocks : stmt.Stmt → ℕ
  in_blocks stmt.skip = 0
  in_blocks (stmt.evaluate e) = 0
  in_blocks (stmt.declare e) = 0
  in_blocks (stmt.block ss) = in_block ss
  in_blocks (stmt.either e s r) = in_blocks s + in_blocks r
  in_blocks (stmt.while e s step) = in_blocks s + in_blocks step
  in_blocks (stmt.do_while e s) = in_blocks s
  in_blocks (stmt.return e) = 0
  in_blocks stmt.break = 0
  in_blocks stmt.continue = 0

  -- in a block of these, and in the blocks inside
  pub in_block : stmt.Stmts → ℕ
  in_block stmt.end = 0
  in_block (stmt.«then» s ss) = suc (in_blocks s + in_block ss)

-- ---- the bodies of a module, by number

abbrev pub of_function : t.TypedFunction → List Position
of_function f = core_of f.body f.positions

-- an initializer has no block
abbrev pub of_initializer : {A : Type 0} → Option A → List (List Position)
of_initializer None = []
of_initializer (Some e) = [] ∷ []

abbrev pub of_global : t.Global → List (List Position)
of_global g = of_initializer g.initializer

abbrev pub of_module : t.Program → List (List Position)
of_module m = map of_function m.functions ++ flat_map of_global m.globals

-- those that core bodies list
abbrev pub listed : List CoreBody → List (List Position)
listed bodies = map (λ b. b.positions.items) bodies
