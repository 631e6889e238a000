-- The module that names stand for, before any body is judged, and trees that have what the names declare.
use Rattle.std.specs.Prelude.{◌≡◌, ◌==◌, ℕ, false, List, [], ◌∷◌, ◌++◌, map, filter_map, find, length, take, unwrap_or, option_map}
use Rattle.std.specs.List.{range_with_len}
use Rattle.ang_view.specs.Registration.{RegistrationList}
use Rattle.ang_typed.specs.declared.program.TypedParameter.{TypedParameter}
use Rattle.ang_typed.specs.Typed as t
use Rattle.ang_names_known.specs.declared.names.ScriptConstructor.{ScriptConstructor}
use Rattle.ang_names_known.specs.declared.names.Family.{Family}
use Rattle.ang_names_known.specs.declared.names.ScriptMethod.{ScriptMethod}
use Rattle.ang_names_known.specs.declared.names.Names.{Names}
use Rattle.ang_names_known.specs.declared.names.ScriptFunction.{ScriptFunction}
use Rattle.ang_names_known.specs.Items.{each_after}
use Rattle.ang_names_listed.specs.Sources.{Source}
use Rattle.ang_check_context.specs.declared.scope.Within.{Within}
use Rattle.ang_check.specs.Typing.{this_parameter, typed_parameters}
use Rattle.ang_check.specs.Bodies.{HasBodies, method_headings}
use Rattle.ang_source.specs.Sound.{Module}

-- a body by its number, with its parameters
abbrev pub NumberedBody : Type 0
NumberedBody = ℕ × List TypedParameter

abbrev pub with_this : Within → ScriptFunction → List TypedParameter
with_this w f = this_parameter w ∷ typed_parameters f

abbrev pub method_bodies : ℕ → Family → List NumberedBody
method_bodies c f =
    filter_map (λ (m : ScriptMethod). option_map (λ k. (k, with_this (record { family = c; read_only = m.read_only }) m.function)) m.body) f.methods

abbrev pub constructor_bodies : ℕ → Family → List NumberedBody
constructor_bodies c f = map (λ (k : ScriptConstructor). (k.body, with_this (record { family = c; read_only = false }) k.function)) f.constructors

-- the bodies of methods and constructors
abbrev pub bodies_of : Names → List NumberedBody
bodies_of names = each_after (λ before f. method_bodies (length before) f ++ constructor_bodies (length before) f) [] names.families

abbrev pub body_parameters : Names → ℕ → List TypedParameter
body_parameters names k = unwrap_or (option_map (λ (b : NumberedBody). b.1) (find (λ (b : NumberedBody). b.0 == k) (bodies_of names))) []

-- what a module with these names has, over its view: after its functions the bodies of its families, by number
abbrev pub module_in : RegistrationList → Names → Module
module_in V names = record {
  view = V;
  parameters = map typed_parameters names.functions ++ map (body_parameters names) (range_with_len (length names.functions) (length (bodies_of names)));
  methods = map (λ h. h.parameters) (method_headings names.families);
  imports = map typed_parameters names.imports;
  globals = length names.globals;
  classes = length names.families;
}

-- The functions, bodies and globals of a resolved tree are those of the names, each at its number, with what they were declared with.
pub record HasNames (V : RegistrationList) (names : Names) (sources : List Source) (p : t.Program) : Type 0 where
  pub parameters : map (λ f. f.parameters) p.functions ≡ (module_in V names).parameters
  pub results : take (length names.functions) (map (λ f. f.result) p.functions) ≡ map (λ f. f.result.ty) names.functions
  pub types : map (λ g. g.ty) p.globals ≡ map (λ g. g.written.ty) names.globals
  pub bodies : HasBodies V names sources p
