-- The parts of a build, each with what it belongs to (docs/LANGUAGE.md, "Statements").
use Rattle.std.specs.Prelude.{◌≡◌, true, [], Some, slice_get}
use Rattle.ang_view.specs.Registration.{RegistrationList}
use Rattle.ang_names_known.specs.declared.names.ScriptConstructor.{ScriptConstructor}
use Rattle.ang_names_known.specs.declared.names.Family.{Family}
use Rattle.ang_names_known.specs.declared.names.ScriptMethod.{ScriptMethod}
use Rattle.ang_names_known.specs.declared.names.Names.{Names}
use Rattle.ang_names_known.specs.declared.names.ScriptFunction.{ScriptFunction}
use Rattle.ang_names_known.specs.declared.names.ScriptGlobal.{ScriptGlobal}
use Rattle.ang_names_known.specs.Spaces.{space_of_names}
use Rattle.ang_names_listed.specs.declared.role.TypePosition.TheVariants as role
use Rattle.ang_lex.specs.Text.{text_of}
use Rattle.ang_names_listed.specs.Types.{written_in}
use Rattle.ang_check.specs.Bodies.{Part, a_function, a_global, a_method, a_constructor, a_default, method_at, constructor_at}

-- What has the number of a part is what the part is written for: a function, a method or a constructor of its name at its place, a global
-- of its type, a class without a constructor.
abbrev pub IsPartOf : RegistrationList → Names → Part → Type 0
IsPartOf V names (a_function n text x b) =
    (f : ScriptFunction) × (slice_get names.functions n ≡ Some f) × (f.name ≡ text_of text x) × (f.place ≡ x.place)
IsPartOf V names (a_global n text y i) =
    (g : ScriptGlobal) × (slice_get names.globals n ≡ Some g) × (g.written ≡ written_in (space_of_names V names) role.Variable text y)
IsPartOf V names (a_method c m text x b) =
    (y : ScriptMethod) × (method_at V names c m ≡ Some y) × (y.function.name ≡ text_of text x) × (y.function.place ≡ x.place)
IsPartOf V names (a_constructor c m text x own bases u ss close) =
    (k : ScriptConstructor) × (constructor_at V names c m ≡ Some k) × (k.function.name ≡ text_of text x) × (k.function.place ≡ x.place)
IsPartOf V names (a_default c text x bases) =
    (f : Family) × (slice_get names.families c ≡ Some f) × (f.is_class ≡ true) × (f.constructors ≡ []) × (f.place ≡ x.place)
