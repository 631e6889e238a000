-- A setting of which each module is built, or none is there, is typed: runs of typed programs are said of such settings.
use Rattle.std.specs.Prelude.{◌≡◌, ◌⊎◌, ℕ, List, Some, slice_get}
use Rattle.ang_view.specs.Only.{IsWithin}
use Rattle.ang_view.specs.Registration.{RegistrationList}
use Rattle.ang_typed.specs.declared.program.Heading.{Heading}
use Rattle.ang_typed.specs.Typed as t
use Rattle.ang_meaning.specs.declared.routine.Routine.{Routine}
use Rattle.ang_meaning.specs.Environment.{Environment}
use Rattle.ang_source.specs.Meaning.{nothing as no_program}
use Rattle.ang_source_typed.specs.Types.{Modules}
use Rattle.ang_source_typed.specs.Runs.{HasTree, IsTypedSetting}
use Rattle.ang_engine_build.specs.Build.{Resolved, Compiled, build_of}
use Rattle.ang_engine_build.specs.Narrowed.{narrowed}
use Rattle.ang_check_laws.specs.HostTypes.{HandlesAreOwn}
use Rattle.ang_check_laws.specs.Narrowed.{IsKept, TakesFewValues, module_unbuilt}

-- nothing is built as module m
pub record IsUnbuilt (z : Environment) (ms : Modules) (m : ℕ) : Type 0 where
  pub known : ms m ≡ module_unbuilt
  pub tree : HasTree z m no_program

-- Module m is what these sections built to over what it saw then, and what it keeps of that stands in the list.
pub record IsStanding (R : RegistrationList) (z : Environment) (ms : Modules) (m : ℕ) : Type 0 where
  pub sight : RegistrationList
  pub takes : TakesFewValues sight
  pub own : HandlesAreOwn sight
  pub sections : List (List ℕ)
  pub resolved : Resolved
  pub built : build_of sight sections ≡ Compiled resolved
  pub kept : IsKept z ms m sight resolved
  pub stands : IsWithin (narrowed sight resolved.tree) R

-- Import i of module m leads to a function of the types that it is declared with, which takes its arguments in the same ways.
pub record IsDeclaredSo (ms : Modules) (m i : ℕ) (g : Routine) : Type 0 where
  pub heading : Heading
  pub declared : slice_get (ms m).program.imports i ≡ Some heading
  pub function : t.TypedFunction
  pub there : slice_get (ms g.home).program.functions g.number ≡ Some function
  pub parameters : function.parameters ≡ heading.parameters
  pub result : function.result ≡ heading.result

abbrev pub SettingsAreTyped : Type 0
SettingsAreTyped = (R : RegistrationList) (z : Environment) (ms : Modules) → ((m : ℕ) → IsUnbuilt z ms m ⊎ IsStanding R z ms m)
    → ((m i : ℕ) (g : Routine) → z.linked m i ≡ Some g → IsDeclaredSo ms m i g) → IsTypedSetting z ms
