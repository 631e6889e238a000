-- The function of a module that a text declares (docs/HOST.md, "Commands"; the AngelScript manual, "Calling a script function").
use Rattle.std.specs.Prelude.{◌≡◌, ℕ, List, Option, Some, None, slice_get}
use Rattle.ang_view.specs.Registration.{RegistrationList}
use Rattle.ang_names_known.specs.declared.names.Names.{Names}
use Rattle.ang_names_known.specs.declared.names.ScriptFunction.{ScriptFunction}
use Rattle.ang_names_known.specs.Lookup.{function_with}
use Rattle.ang_names_known.specs.Spaces.{space_of_names}
use Rattle.ang_engine_call.specs.Declaration.{declared_by}
use Rattle.ang_engine_call.specs.Headings.{heading_of}

abbrev pub number_of : Option ScriptFunction → List ScriptFunction → Option ℕ
number_of None fs = None
number_of (Some f) fs = function_with fs f

-- The number of the module's function with the heading of the function that the text declares among the module's types. Functions of
-- one name differ in their parameters, so a module has no two of them; of several this would be the first.
unfoldable pub function_named_by : RegistrationList → Names → List ℕ → Option ℕ
function_named_by V names decl = number_of (declared_by (space_of_names V names) decl) names.functions

-- the number of the module's import with that heading, likewise
unfoldable pub import_named_by : RegistrationList → Names → List ℕ → Option ℕ
import_named_by V names decl = number_of (declared_by (space_of_names V names) decl) names.imports

-- The function of this number has the heading of the function that the text declares.
pub record IsNamedBy (V : RegistrationList) (names : Names) (decl : List ℕ) (number : ℕ) : Type 0 where
  pub declared : ScriptFunction
  pub has : declared_by (space_of_names V names) decl ≡ Some declared
  pub function : ScriptFunction
  pub at : slice_get names.functions number ≡ Some function
  pub same : heading_of function ≡ heading_of declared
