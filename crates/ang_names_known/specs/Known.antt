-- What calls can mean, with the kinds of its parameters.
use Rattle.std.specs.Prelude.{List}
use Rattle.ang_names_known.specs.declared.found.MethodPlaces.{MethodPlaces}
use Rattle.ang_names_known.specs.declared.found.MethodPlaces.TheVariants as places
use Rattle.ang_names_known.specs.declared.methods.MethodPlace.{MethodPlace}
use Rattle.ang_names_known.specs.declared.names.ScriptFunction.{ScriptFunction}
use Rattle.ang_names_known.specs.declared.numbering.ParameterKinds.{ParameterKinds}
use Rattle.ang_names_known.specs.Kinds.{AreRows, Kind, function_params}
use Rattle.ang_names_known.specs.Lookup.{FoundMethod}

-- functions and imports, and the kinds of all parameters of the scripts
pub record KnownFunctions : Type 0 where
  pub functions : List ScriptFunction
  pub imports : List ScriptFunction
  pub kinds : List Kind

pub record AreNumbered (functions imports : List ScriptFunction) (k : ParameterKinds) : Type 0 where
  pub of_functions : AreRows k.kinds.items k.functions (λ t. function_params functions)
  pub of_imports : AreRows k.kinds.items k.imports (λ t. function_params imports)

-- methods, and the kinds of all parameters of the scripts
pub record KnownMethods : Type 0 where
  pub methods : List FoundMethod
  pub kinds : List Kind

abbrev pub places_in : MethodPlaces → List MethodPlace
places_in (places.Kept ps) = ps.now
places_in (places.Listed ps) = ps.items
