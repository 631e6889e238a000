-- Bodies that are lowered mean what their source means.
use Rattle.std.specs.Prelude.{◌≡◌, ℕ, ◌<◌, true, false, is_some, List, [], ◌∷◌, length, Some, slice_get}
use Rattle.ang_view.specs.Registration.{RegistrationList}
use Rattle.ang_typed.specs.declared.program.TypedParameter.{TypedParameter}
use Rattle.ang_typed.specs.Typed as t
use Rattle.ang_meaning.specs.declared.slot.Slot.{Slot}
use Rattle.ang_meaning.specs.declared.routine.Routine.{Routine}
use Rattle.ang_meaning.specs.declared.routine.Passing.{Passing}
use Rattle.ang_meaning.specs.World.{World}
use Rattle.ang_meaning.specs.Environment.{Environment}
use Rattle.ang_core.specs.declared.tree.CoreBody.{CoreBody}
use Rattle.ang_core.specs.Meaning.{Bodies}
use Rattle.ang_core.specs.Meaning as core
use Rattle.ang_core.specs.Sound.{SoundStatement}
use Rattle.ang_source.specs.Meaning.{Code, of_function, of_global, Codes, codes_of, passings_of, passings_in, routine, heading_among, class_among, method_among}
use Rattle.ang_source.specs.Meaning as source
use Rattle.ang_source.specs.Sound.{Module, module_of, Sound, SoundStatements, SoundProgram}
use Rattle.ang_lower.specs.Lowered.{IsLowered}
use Rattle.ang_source.specs.Hosts.{HasView}

-- a body of a module with n parameters
abbrev pub SoundCode : Module → ℕ → Code → Type 0
SoundCode M n (of_function ss) = SoundStatements M false n ss
SoundCode M n (of_global g e) = (g < M.globals) × Sound M n e

-- under its number m the setting has what a module calls, its functions, its imports and its methods by slot, and the classes of which it makes objects
pub record HasCallees (z : Environment) (m : ℕ) (M : Module) : Type 0 where
  pub functions : (f : ℕ) (ps : List TypedParameter) → slice_get M.parameters f ≡ Some ps → z.params (routine m f) ≡ Some (passings_of ps)
  pub imports : (i : ℕ) (ps : List TypedParameter) → slice_get M.imports i ≡ Some ps → z.imported m i ≡ Some (passings_of ps)
  pub methods : (s : ℕ) (ps : List TypedParameter) → slice_get M.methods s ≡ Some ps → z.slot m s ≡ Some (passings_of ps)
  pub classes : (n : ℕ) → n < M.classes → is_some (z.class m n) ≡ true

-- the bodies of module m are lowered from this code, which is sound
pub record AreLowered (z : Environment) (m : ℕ) (M : Module) (bodies : Bodies) (codes : Codes) : Type 0 where
  pub callees : HasCallees z m M
  pub lowered : (k : ℕ) (ps : List Passing) → z.params (routine m k) ≡ Some ps → IsLowered (length ps) (codes (routine m k)) (bodies (routine m k))
  pub sound : (k : ℕ) (ps : List Passing) → z.params (routine m k) ≡ Some ps → SoundCode M (length ps) (codes (routine m k))

-- For every budget, arguments and world a routine's body ends as its source says, called by a command or run as an initializer.
pub record MeansSame (z : Environment) (bodies : Bodies) (codes : Codes) (g : Routine) : Type 0 where
  pub calls : (budget : ℕ) (ps : List Passing) (vs : List Slot) (w : World) → z.params g ≡ Some ps → length ps ≡ length vs →
      core.called_with z bodies budget g vs w ≡ source.called_with z codes budget g vs w
  pub initializers : (ticks : ℕ) (w : World) → z.params g ≡ Some [] → core.initialized z bodies ticks g w ≡ source.initialized z codes ticks g w

-- all of these are initializers that mean what their source means
abbrev pub AllMeanSame : Environment → Bodies → Codes → List Routine → Type 0
AllMeanSame z bodies codes [] = Unit {0}
AllMeanSame z bodies codes (g ∷ gs) = (z.params g ≡ Some []) × MeansSame z bodies codes g × AllMeanSame z bodies codes gs

-- all of these are initializers
abbrev pub TakeNothing : Environment → List Routine → Type 0
TakeNothing z [] = Unit {0}
TakeNothing z (g ∷ gs) = (z.params g ≡ Some []) × TakeNothing z gs

-- each body of module m that there is keeps what the generator wants of it
pub record AreSoundIn (z : Environment) (m : ℕ) (bodies : Bodies) : Type 0 where
  pub each : (k : ℕ) (ps : List Passing) → z.params (routine m k) ≡ Some ps → SoundStatement z m false (length ps) (bodies (routine m k))

-- ---- the bodies of one module

-- the setting's routines of module m are the bodies of this program, and its imports, methods and classes are the program's
pub record HasProgram (z : Environment) (m : ℕ) (p : t.Program) : Type 0 where
  pub bodies : (k : ℕ) → z.params (routine m k) ≡ slice_get (passings_in p) k
  pub imports : (i : ℕ) → z.imported m i ≡ heading_among p.imports i
  pub slots : (s : ℕ) → z.slot m s ≡ heading_among p.methods s
  pub classes : (n : ℕ) → z.class m n ≡ class_among p.classes n
  pub methods : (n s : ℕ) → z.method m n s ≡ method_among m p.classes n s

-- the bodies under the number m are these
pub record AreBodies (m : ℕ) (bs : List CoreBody) (bodies : Bodies) : Type 0 where
  pub each : (k : ℕ) (b : CoreBody) → slice_get bs k ≡ Some b → bodies (routine m k) ≡ b.statement

-- and the code is that of this program
pub record AreCodes (m : ℕ) (p : t.Program) (codes : Codes) : Type 0 where
  pub each : (k : ℕ) (x : Code) → slice_get (codes_of p) k ≡ Some x → codes (routine m k) ≡ x

-- Wherever these are the bodies of a module whose tree is sound, they are lowered from its code. Where that holds of all modules each body means what its
-- source means, since imports lead from one module to another.
pub record LowersProgram (p : t.Program) (bs : List CoreBody) : Type 0 where
  pub lowered : (V : RegistrationList) (z : Environment) (m : ℕ) (bodies : Bodies) (codes : Codes) → SoundProgram V p → HasProgram z m p → AreBodies m bs bodies → AreCodes m p codes
      → AreLowered z m (module_of V p) bodies codes

-- And where the module sees what its view has, each keeps what the generator wants of it.
pub record KeepsSound (p : t.Program) (bs : List CoreBody) : Type 0 where
  pub sound : (V : RegistrationList) (z : Environment) (m : ℕ) (bodies : Bodies) → SoundProgram V p → HasView z m V → HasProgram z m p → AreBodies m bs bodies → AreSoundIn z m bodies
