-- What the checker promises of a body: each local is alive, each call and each operation has its operands, and `break` and `continue` stand in a loop.
use Rattle.std.specs.Prelude.{◌≡◌, ℕ, suc, ◌+◌, ◌<◌, Bool, true, false, IsTrue, List, [], ◌∷◌, length, Some}
use Rattle.ang_meaning.specs.declared.routine.Routine.{Routine}
use Rattle.ang_meaning.specs.declared.routine.Callee.{Callee}
use Rattle.ang_meaning.specs.declared.routine.Callee.TheVariants.{Own, Import, Virtual}
use Rattle.ang_meaning.specs.declared.routine.Passing.{Passing}
use Rattle.ang_meaning.specs.declared.routine.Passing.TheVariants.{In, Out, Object}
use Rattle.ang_meaning.specs.declared.routine.Spot.{Spot}
use Rattle.ang_meaning.specs.declared.routine.Spot.TheVariants as spot
use Rattle.ang_meaning.specs.declared.routine.Target.{Target}
use Rattle.ang_meaning.specs.Environment.{Environment, is_fit}
use Rattle.ang_meaning.specs.Perform.{operands}
use Rattle.ang_core.specs.declared.tree.CoreExpression.{CoreExpression, Row_of-CoreExpression, end_of-CoreExpression, more_of-CoreExpression}
use Rattle.ang_core.specs.declared.tree.CoreExpression.TheVariants.{Number, Null as Nothing, Local, Assign', Update', Apply', Call', Choose'}
use Rattle.ang_core.specs.declared.tree.CoreStatement.{CoreStatement, Row_of-CoreStatement, end_of-CoreStatement, more_of-CoreStatement}
use Rattle.ang_core.specs.declared.tree.CoreStatement.TheVariants.{Skip, Evaluate, Declare, Block', If', While', DoWhile', Return, Break, Continue}
use Rattle.ang_core.specs.Meaning.{Bodies}

-- how many operands stand in a row
abbrev pub row_count : {k : _} → Row_of-CoreExpression k → ℕ
row_count end_of-CoreExpression = 0
row_count (more_of-CoreExpression e rest) = suc (row_count rest)

-- how many of the parameters are `&out`
abbrev pub out_count : List Passing → ℕ
out_count [] = 0
out_count (In ∷ ps) = out_count ps
out_count (Object ∷ ps) = out_count ps
out_count (Out ∷ ps) = suc (out_count ps)

-- a function takes `args` arguments and gives `outs` values of `&out` parameters
pub record Takes (z : Environment) (g : Routine) (args outs : ℕ) : Type 0 where
  pub params : List Passing
  pub known : z.params g ≡ Some params
  pub count : length params ≡ args
  pub given : out_count params ≡ outs

-- a call gives `args` arguments and takes `outs` values of `&out` parameters, as the function or the import is declared, or the methods in a slot
abbrev pub Fits : Environment → ℕ → Callee → ℕ → ℕ → Type 0
Fits z m (Own g) args outs = Takes z (record { home = m; number = g }) args outs
Fits z m (Import i) args outs = (params : List Passing) × (z.imported m i ≡ Some params) × (length params ≡ args) × (out_count params ≡ outs)
Fits z m (Virtual s) args outs = (params : List Passing) × (z.slot m s ≡ Some params) × (length params ≡ args) × (out_count params ≡ outs)

-- an import leads to a function with the parameters that it declares, and a method has those of its slot
pub record LinksFit (z : Environment) : Type 0 where
  pub same : (m i : ℕ) (g : Routine) → z.linked m i ≡ Some g → z.params g ≡ z.imported m i
  pub methods : (m c s : ℕ) (g : Routine) → z.method m c s ≡ Some g → z.params g ≡ z.slot m s

-- a target's local, or the one that holds the target's object, is among the n that are alive
abbrev pub IsSpot : ℕ → Spot → Type 0
IsSpot n (spot.Local i) = i < n
IsSpot n (spot.Global g) = Unit {0}
IsSpot n (spot.Field o i) = o < n

abbrev pub AreSpots : ℕ → List Target → Type 0
AreSpots n [] = Unit {0}
AreSpots n (x ∷ xs) = IsSpot n x.spot × AreSpots n xs

-- an expression of module m where n locals are alive
abbrev mutual
  pub Sound : Environment → ℕ → ℕ → CoreExpression → Type 0
  Sound z m n (Number x) = Unit {0}
  Sound z m n Nothing = Unit {0}
  Sound z m n (Local i) = i < n
  Sound z m n (Assign' i p e) = (i < n) × Sound z m n e
  Sound z m n (Update' i by p e) = (i < n) × Sound z m n e
  Sound z m n (Apply' o shape args) = (row_count args ≡ operands z m o) × (is_fit z m o ≡ true) × SoundArgs z m n args
  Sound z m n (Call' f shape args outs) = Fits z m f (row_count args) (length outs.value.items) × AreSpots n outs.value.items × SoundArgs z m n args
  Sound z m n (Choose' p a q b s c) = Sound z m n a × Sound z m n b × Sound z m n c

  pub SoundArgs : {k : _} → Environment → ℕ → ℕ → Row_of-CoreExpression k → Type 0
  SoundArgs z m n end_of-CoreExpression = Unit {0}
  SoundArgs z m n (more_of-CoreExpression e rest) = Sound z m n e × SoundArgs z m n rest

-- the locals that a statement leaves alive
abbrev pub declared : CoreStatement → ℕ
declared Skip = 0
declared (Evaluate e) = 0
declared (Declare e) = 1
declared (Block' shape row) = 0
declared (If' e x a y b) = 0
declared (While' e x s y step) = 0
declared (DoWhile' e x s) = 0
declared (Return e) = 0
declared Break = 0
declared Continue = 0

abbrev pub row_declared : {k : _} → Row_of-CoreStatement k → ℕ
row_declared end_of-CoreStatement = 0
row_declared (more_of-CoreStatement s rest) = row_declared rest + declared s

-- a statement where n locals are alive, in a loop or not
abbrev mutual
  pub SoundStatement : Environment → ℕ → Bool → ℕ → CoreStatement → Type 0
  SoundStatement z m loop n Skip = Unit {0}
  SoundStatement z m loop n (Evaluate e) = Sound z m n e.value
  SoundStatement z m loop n (Declare e) = Sound z m n e.value
  SoundStatement z m loop n (Block' shape row) = SoundRow z m loop n row
  SoundStatement z m loop n (If' e x a y b) = Sound z m n e.value × SoundStatement z m loop n a × SoundStatement z m loop n b
  SoundStatement z m loop n (While' e x s y step) = Sound z m n e.value × SoundStatement z m true n s × SoundStatement z m false n step
  SoundStatement z m loop n (DoWhile' e x s) = Sound z m n e.value × SoundStatement z m true n s
  SoundStatement z m loop n (Return e) = Sound z m n e.value
  SoundStatement z m loop n Break = IsTrue loop
  SoundStatement z m loop n Continue = IsTrue loop

  pub SoundRow : {k : _} → Environment → ℕ → Bool → ℕ → Row_of-CoreStatement k → Type 0
  SoundRow z m loop n end_of-CoreStatement = Unit {0}
  SoundRow z m loop n (more_of-CoreStatement s rest) = SoundStatement z m loop n s × SoundRow z m loop (declared s + n) rest

-- each function that there is has a sound body, and imports lead where they may
pub record AreSound (z : Environment) (bodies : Bodies) : Type 0 where
  pub each : (g : Routine) (ps : List Passing) → z.params g ≡ Some ps → SoundStatement z g.home false (length ps) (bodies g)
  pub links : LinksFit z
