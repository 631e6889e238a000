-- Whole bodies and a build's initializers, whatever tree they are written in: the ticks, the nesting and the memory that stand around what a body's
-- statements do (docs/CLAIMS.md, "What a body does"; the AngelScript manual, "Functions" and "Global variables").
use Rattle.std.specs.Prelude.{ℕ, zero, suc, List, [], ◌∷◌}
use Rattle.ang_kinds.specs.declared.fault.Fault.TheVariants.{Budget, Memory}
use Rattle.ang_meaning.specs.declared.slot.Slot.{Slot}
use Rattle.ang_meaning.specs.declared.slot.Slot.TheVariants.{Bits}
use Rattle.ang_meaning.specs.declared.routine.Routine.{Routine}
use Rattle.ang_meaning.specs.declared.routine.Callee.{Callee}
use Rattle.ang_meaning.specs.World.{World, give, give_all, memory_step, or_else}
use Rattle.ang_meaning.specs.Environment.{Environment, params_of}
use Rattle.ang_meaning.specs.Results.{Ran, Halted, Reply, Yields, Raises, Calls, ticked, finished, enter}

-- the calls that a body makes
abbrev pub Callees : Type 0
Callees = Callee → List Slot → ℕ → World → Reply

-- one pass of a loop, its tick taken: the test, the body and the step, as the tree has them
abbrev pub PassesOf : Type 0 → Type 0 → Type 0 → Type 0
PassesOf E S N = E → S → N → List Slot → ℕ → World → Ran

-- what follows an initializer
abbrev pub then_initialized : Reply → (ℕ → World → Reply) → Reply
then_initialized (Yields v outs t w) go = go t (give v w)
then_initialized (Raises f w) go = Raises f w

-- A tree says what a body of it does, and what one pass of a loop does.
module _ {B E S N : Type 0}
    (run : Environment → ℕ → Callees → PassesOf E S N → B → List Slot → ℕ → World → Ran)
    (pass : Environment → ℕ → Callees → PassesOf E S N → PassesOf E S N) where
  -- Bodies and loops where fewer than n ticks are left; d counts the callers of the body. With no n left a run has used up its ticks before.
  abbrev mutual
    pub body_at : Environment → (Routine → B) → ℕ → ℕ → Calls
    body_at z bodies zero d g vs t w = Raises Budget w
    body_at z bodies (suc n) d g vs t w =
        finished (params_of z g) (run z g.home (enter z (body_at z bodies n (suc d)) d g.home) (pass_at z bodies n d g.home) (bodies g) vs t w)

    pub pass_at : Environment → (Routine → B) → ℕ → ℕ → ℕ → PassesOf E S N
    pass_at z bodies zero d m e s step ls t w = Halted Budget ls w
    pass_at z bodies (suc n) d m e s step ls t w =
        pass z m (enter z (body_at z bodies n (suc d)) d m) (pass_at z bodies n d m) e s step ls t w

  -- the entry of a body that wants memory for its frame
  abbrev pub begun : Environment → (Routine → B) → Routine → List Slot → ℕ → World → Reply
  begun z bodies g vs t w = or_else (memory_step w) (λ w'. Raises Memory (give_all vs w')) (λ w'. body_at z bodies (suc t) 0 g vs t w')

  -- A command's call of a function with a budget of ticks: its entry takes one.
  abbrev pub called_with : Environment → (Routine → B) → ℕ → Routine → List Slot → World → Reply
  called_with z bodies budget g vs w = ticked budget (Raises Budget (give_all vs w)) (λ t. begun z bodies g vs t w)

  -- An initializer's run, with t ticks left: its entry takes none.
  abbrev pub initialized : Environment → (Routine → B) → ℕ → Routine → World → Reply
  initialized z bodies t g w = begun z bodies g [] t w

  -- A build's initializers in order of declaration, on one budget: each stores into its global, and a fault ends them.
  abbrev pub initialized_all : Environment → (Routine → B) → List Routine → ℕ → World → Reply
  initialized_all z bodies [] t w = Yields (Bits 0) [] t w
  initialized_all z bodies (g ∷ gs) t w = then_initialized (initialized z bodies t g w) (λ t' w'. initialized_all z bodies gs t' w')
