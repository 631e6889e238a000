-- What typing knows of the module that scripts build to.
use Rattle.std.specs.Prelude.{◌≡◌, ◌==◌, ℕ, Bool, false, List, Option, Some, None, slice_get}
use Rattle.std.specs.List.{list_any}
use Rattle.ang_view.specs.Registration.{RegistrationList}
use Rattle.ang_names_known.specs.declared.names.Names.{Names}
use Rattle.ang_names_known.specs.declared.names.Family.{Family}
use Rattle.ang_names_known.specs.declared.names.ScriptConstructor.{ScriptConstructor}
use Rattle.ang_names_listed.specs.Sources.{Source}
use Rattle.ang_check.specs.Bodies.{program_of}
use Rattle.ang_meaning.specs.Environment.{Environment}
use Rattle.ang_source.specs.Hosts.{HasView}
use Rattle.ang_source.specs.Meaning.{method_among}
use Rattle.ang_source_typed.specs.Types.{TypedModule, Modules}
use Rattle.ang_source_typed.specs.Runs.{HasTree}

abbrev pub is_class_at : Option Family → Bool
is_class_at None = false
is_class_at (Some f) = f.is_class

abbrev pub constructs : ℕ → Family → Bool
constructs k f = list_any (λ (c : ScriptConstructor). c.body == k) f.constructors

-- What typing knows of the module that these sections build to.
abbrev pub module_typed : RegistrationList → Names → List Source → TypedModule
module_typed V names ss = record {
  view = V;
  program = program_of V names ss;
  is_class = λ c. is_class_at (slice_get names.families c);
  is_constructor = λ k. list_any (constructs k) names.families;
}

-- In the setting, module m is that one: it has that tree and that view, and a method of it is the body that the tree has in the slot.
pub record IsBuilt (z : Environment) (ms : Modules) (m : ℕ) (V : RegistrationList) (names : Names) (ss : List Source) : Type 0 where
  pub known : ms m ≡ module_typed V names ss
  pub tree : HasTree z m (program_of V names ss)
  pub view : HasView z m V
  pub methods : (c s : ℕ) → z.method m c s ≡ method_among m (program_of V names ss).classes c s
