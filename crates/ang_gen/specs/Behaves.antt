-- Compiled modules do what their source means (docs/CLAIMS.md, "What a script means" and "Code").
use Rattle.std.specs.Prelude.{◌≡◌, ◌≢◌, ℕ, List, [], length, Some, slice_get}
use Rattle.ang_view.specs.Registration.{RegistrationList}
use Rattle.ang_typed.specs.Typed as t
use Rattle.ang_meaning.specs.declared.slot.Slot.{Slot}
use Rattle.ang_meaning.specs.declared.routine.Routine.{Routine}
use Rattle.ang_meaning.specs.declared.routine.Passing.{Passing}
use Rattle.ang_meaning.specs.World.{World}
use Rattle.ang_meaning.specs.Environment.{Environment}
use Rattle.ang_core.specs.Sound.{LinksFit}
use Rattle.ang_code.specs.declared.instruction.RoutineCode.{RoutineCode}
use Rattle.ang_code.specs.Machine.{Texts, Over, Stuck, steps, call_begins, initializer_begins}
use Rattle.ang_gen.specs.BodyBehaves.{outcome_of}
use Rattle.ang_source.specs.Meaning.{Codes, codes_of, code_or, routine, called_with, initialized}
use Rattle.ang_source.specs.Sound.{SoundProgram}
use Rattle.ang_source.specs.Hosts.{HasView}
use Rattle.ang_lower.specs.Same.{HasProgram}
use Rattle.ang_gen.specs.Compiled.{IsCompiled, IsWellFormed}

-- ---- what runs

-- the texts of module m are these codes
pub record HasCodes (m : ℕ) (codes : List RoutineCode) (code : Texts) : Type 0 where
  pub text : (k : ℕ) (c : RoutineCode) → slice_get codes k ≡ Some c → code.text (routine m k) ≡ c.text.items
  pub height : (k : ℕ) (c : RoutineCode) → slice_get codes k ≡ Some c → code.height (routine m k) ≡ c.height

-- Module m of a run: its tree is sound over what it sees of the host, which the setting has, its bodies, imports, methods and classes are the setting's, and
-- its texts are codes of it.
pub record IsModule (z : Environment) (m : ℕ) (V : RegistrationList) (p : t.Program) (code : Texts) : Type 0 where
  pub sound : SoundProgram V p
  pub view : HasView z m V
  pub program : HasProgram z m p
  pub codes : List RoutineCode
  pub compiled : IsCompiled p codes
  pub texts : HasCodes m codes code

-- Module m of a run has well-formed code: what it sees of the host, its bodies, imports, methods and classes are those of the tree whose code it is, and its
-- texts are these codes.
pub record RunsCode (z : Environment) (m : ℕ) (codes : List RoutineCode) (code : Texts) : Type 0 where
  pub well_formed : IsWellFormed codes
  pub view : HasView z m well_formed.view
  pub program : HasProgram z m well_formed.program
  pub texts : HasCodes m codes code

-- the source of each routine, where modules have these trees by their numbers
abbrev pub sources_of : (ℕ → t.Program) → Codes
sources_of program g = code_or (slice_get (codes_of (program g.home)) g.number)

-- ---- what it does

-- For every function, budget, arguments and world, and for every initializer, some number of steps leads exactly to the end that the source has.
pub record BehavesAsSource (z : Environment) (sources : Codes) (code : Texts) : Type 0 where
  pub calls : (budget : ℕ) (g : Routine) (ps : List Passing) (vs : List Slot) (w : World) → z.params g ≡ Some ps → length ps ≡ length vs →
      (n : ℕ) × (steps z code n (call_begins z code budget g vs w) ≡ Over (outcome_of (called_with z sources budget g vs w)))
  pub initializers : (ticks : ℕ) (g : Routine) (w : World) → z.params g ≡ Some [] →
      (n : ℕ) × (steps z code n (initializer_begins z code ticks g w) ≡ Over (outcome_of (initialized z sources ticks g w)))

-- Wherever a module of a run has this tree, which is sound over what the module sees of the host, and runs these codes, each other module runs its own
-- compiled code, and imports and methods lead where they may, the machine ends as the trees mean.
pub record MeansProgram (p : t.Program) (codes : List RoutineCode) : Type 0 where
  pub behaves : (z : Environment) (view : ℕ → RegistrationList) (program : ℕ → t.Program) (code : Texts) (m : ℕ)
      → program m ≡ p → SoundProgram (view m) p → HasView z m (view m) → HasProgram z m p → HasCodes m codes code
      → ((k : ℕ) → k ≢ m → IsModule z k (view k) (program k) code) → LinksFit z
      → BehavesAsSource z (sources_of program) code

-- no number of steps leads to where an instruction finds less than it takes
pub record NeverStuck (z : Environment) (code : Texts) : Type 0 where
  pub calls : (budget : ℕ) (g : Routine) (ps : List Passing) (vs : List Slot) (w : World) → z.params g ≡ Some ps → length ps ≡ length vs →
      (n : ℕ) → steps z code n (call_begins z code budget g vs w) ≢ Over Stuck
  pub initializers : (ticks : ℕ) (g : Routine) (w : World) → z.params g ≡ Some [] →
      (n : ℕ) → steps z code n (initializer_begins z code ticks g w) ≢ Over Stuck
