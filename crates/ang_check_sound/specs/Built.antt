-- What a body of a build stands in (docs/LANGUAGE.md, "Names of a build"): the host's declarations, and names whose methods and constructors
-- the module has.
use Rattle.std.specs.Prelude.{◌≡◌, ℕ, ◌≤◌, ◌<◌, false, List, length, Some, IfSome, slice_get}
use Rattle.ang_view.specs.Values.{TakesValues}
use Rattle.ang_typed.specs.declared.program.TypedParameter.{TypedParameter}
use Rattle.ang_names_known.specs.declared.names.ScriptConstructor.{ScriptConstructor}
use Rattle.ang_names_known.specs.declared.names.Family.{Family}
use Rattle.ang_names_known.specs.declared.names.ScriptMethod.{ScriptMethod}
use Rattle.ang_names_known.specs.Spaces.{first_family}
use Rattle.ang_check_context.specs.Scope.{BodyContext}
use Rattle.ang_source.specs.Meaning.{passings_of}
use Rattle.ang_source.specs.Sound.{Module}
use Rattle.ang_check_sound.specs.Checked.{with_this, module_in}

-- In a module:
module _ (M : Module) where
  -- The methods of the slot of a method of family c take what it takes, and its body, where it has one, has its parameters after `this`.
  pub record IsMethodIn (c : ℕ) (y : ScriptMethod) : Type 0 where
    pub heading : List TypedParameter
    pub slot_is : slice_get M.methods y.slot ≡ Some heading
    pub alike : passings_of heading ≡ passings_of (with_this (record { family = c; read_only = y.read_only }) y.function)
    pub body : (k : ℕ) → y.body ≡ Some k → slice_get M.parameters k ≡ Some (with_this (record { family = c; read_only = y.read_only }) y.function)

  -- The body of a constructor of family c has its parameters after `this`.
  abbrev pub IsConstructorIn : ℕ → ScriptConstructor → Type 0
  IsConstructorIn c k = slice_get M.parameters k.body ≡ Some (with_this (record { family = c; read_only = false }) k.function)

  -- All that family c declares is so.
  pub record IsFamilyIn (c : ℕ) (f : Family) : Type 0 where
    pub methods : (m : ℕ) (y : ScriptMethod) → slice_get f.methods m ≡ Some y → IsMethodIn c y
    pub constructors : (m : ℕ) (k : ScriptConstructor) → slice_get f.constructors m ≡ Some k → IsConstructorIn c k

-- Its host's declarations take values, no number of a host's type is one of a class or an interface, and the module has the methods and
-- constructors of each of these.
pub record IsBuiltContext (s : BodyContext) : Type 0 where
  pub values : TakesValues s.view
  pub few : length s.view ≤ first_family
  pub families : (c : ℕ) (f : Family) → slice_get s.names.families c ≡ Some f → IsFamilyIn (module_in s.view s.names) c f

-- In a class's body `this` is alive: it is the first of n parameters and locals.
abbrev pub HasThis : BodyContext → ℕ → Type 0
HasThis s n = IfSome s.within (λ w. 0 < n)
