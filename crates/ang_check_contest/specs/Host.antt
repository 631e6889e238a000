-- What a module sees of the host's functions, factories, methods and properties, with what their types mean (docs/LANGUAGE.md, "Names
-- of a build"; the AngelScript manual, "Registering a function", "Registering object methods" and "Registering global properties").
-- A host's declaration names types of the host alone. One of which some type is not in the view is none that a script can use; the view of a
-- mask has all types that it names.
use Rattle.std.specs.Prelude.{ℕ, ◌+◌, Bool, true, false, ◌&&◌, List, [], ◌∷◌, ◌++◌, Option, Some, None, bytes_eq, option_map, option_to_list, if◌then◌else◌}
use Rattle.std.specs.Option.{option_or}
use Rattle.ang_kinds.specs.declared.types.Param.{Param}
use Rattle.ang_kinds.specs.declared.types.Pass.{Pass}
use Rattle.ang_kinds.specs.declared.types.Shape.{Shape}
use Rattle.ang_kinds.specs.declared.types.Shape.TheVariants as shape
use Rattle.ang_kinds.specs.declared.types.TypeRef.{TypeRef}
use Rattle.ang_kinds.specs.declared.types.TypeRef.TheVariants as ref
use Rattle.ang_view.specs.declared.entry.Entry.{Entry}
use Rattle.ang_view.specs.declared.entry.EntryKind.{EntryKind}
use Rattle.ang_view.specs.declared.entry.EntryKind.TheVariants as entry
use Rattle.ang_view.specs.Named.{is_factory}
use Rattle.ang_view.specs.Registration.{RegistrationList, is_function, is_number}
use Rattle.ang_view.specs.Types.{enumeration_named, type_named}
use Rattle.ang_types.specs.declared.arg_type.ArgType.{ArgType}
use Rattle.ang_types.specs.declared.arg_type.ArgType.TheVariants as type
use Rattle.ang_check_contest.specs.declared.host.SeenFunction.{SeenFunction}
use Rattle.ang_check_contest.specs.declared.host.SeenProperty.{SeenProperty}
use Rattle.ang_check_contest.specs.declared.host.Wanted.{Wanted}
use Rattle.ang_check_contest.specs.declared.host.Wanted.TheVariants as wanted
use Rattle.ang_check_contest.specs.declared.host.WantedProperty.{WantedProperty}
use Rattle.ang_check_contest.specs.declared.host.WantedProperty.TheVariants as property

-- ---- types

abbrev pub shaped : Shape → ℕ → Bool → ArgType
shaped shape.ByValue n constant = type.Object n constant
shaped shape.Handle n constant = type.Handle n constant
shaped shape.AutoHandle n constant = type.Handle n constant

abbrev pub object_with : Shape → Bool → Option ℕ → Option ArgType
object_with s constant None = None
object_with s constant (Some n) = Some (shaped s n constant)

-- the type that a host's declaration names, if the view has it
abbrev pub host_type : RegistrationList → TypeRef → Option ArgType
host_type V ref.Void = Some type.Void
host_type V (ref.Plain p) = Some (type.Plain p)
host_type V (ref.Enumeration name) = option_map type.Enumeration (enumeration_named V name)
host_type V (ref.Object name s o h) = object_with s o (type_named V name)

-- ---- functions, factories and methods

abbrev pub in_front : Option ArgType → Pass → Option (List (ArgType × Pass)) → Option (List (ArgType × Pass))
in_front (Some t) pass (Some rest) = Some ((t, pass) ∷ rest)
in_front _ pass _ = None

abbrev pub host_parameters : RegistrationList → List Param → Option (List (ArgType × Pass))
host_parameters V [] = Some []
host_parameters V (p ∷ ps) = in_front (host_type V p.ty) p.pass (host_parameters V ps)

abbrev pub host_function : ℕ → Entry → Option ArgType → Option (List (ArgType × Pass)) → Option SeenFunction
host_function n x None params = None
host_function n x (Some t) None = None
host_function n x (Some t) (Some params) = Some (record {
  entity = record { 0 = n };
  driver = x.driver;
  f = x.f;
  result = t;
  params = params;
  read_only = x.signature.read_only;
})

-- the function of an entry
abbrev pub function_of_entry : RegistrationList → ℕ → Entry → Option SeenFunction
function_of_entry V n x = host_function n x (host_type V x.signature.result) (host_parameters V x.signature.params)

abbrev pub is_method : EntryKind → Bool
is_method entry.Method = true
is_method _ = false

-- functions of a name, factories of a type, and methods of a type and a name
abbrev pub is_wanted : Wanted → Entry → Bool
is_wanted (wanted.Function name) x = is_function x.kind && bytes_eq x.signature.name name
is_wanted (wanted.Factory n) x = is_factory x.kind && is_number n x.owner
is_wanted (wanted.Method n name) x = is_method x.kind && (is_number n x.owner && bytes_eq x.signature.name name)

abbrev pub wants_in : Wanted → Option Entry → Bool
wants_in w None = false
wants_in w (Some x) = is_wanted w x

-- what is found in the entry of a number
abbrev pub found : Wanted → RegistrationList → ℕ → Option Entry → Option SeenFunction
found w V n None = None
found w V n (Some x) = if is_wanted w x then function_of_entry V n x else None

abbrev pub scan : (ℕ → Option Entry → Option SeenFunction) → ℕ → RegistrationList → List SeenFunction
scan f n [] = []
scan f n (x ∷ xs) = option_to_list (f n x) ++ scan f (n + 1) xs

-- All that is wanted in a view, in the order of the numbers.
unfoldable pub host_where : Wanted → RegistrationList → List SeenFunction
host_where w V = scan (found w V) 0 V

-- ---- properties

abbrev pub is_global : EntryKind → Bool
is_global entry.Global = true
is_global _ = false

abbrev pub is_property : EntryKind → Bool
is_property entry.Property = true
is_property _ = false

-- the global property of a name, and the property of a type and a name
abbrev pub is_wanted_property : WantedProperty → Entry → Bool
is_wanted_property (property.Global name) x = is_global x.kind && bytes_eq x.signature.name name
is_wanted_property (property.Member n name) x = is_property x.kind && (is_number n x.owner && bytes_eq x.signature.name name)

abbrev pub property_with : ℕ → Entry → Option ArgType → Option SeenProperty
property_with n x None = None
property_with n x (Some t) = Some (record { entity = record { 0 = n }; driver = x.driver; f = x.f; ty = t; read_only = x.signature.read_only })

abbrev pub property_found : WantedProperty → RegistrationList → ℕ → Option Entry → Option SeenProperty
property_found w V n None = None
property_found w V n (Some x) = if is_wanted_property w x then property_with n x (host_type V x.signature.result) else None

abbrev pub first_found : (ℕ → Option Entry → Option SeenProperty) → ℕ → RegistrationList → Option SeenProperty
first_found f n [] = None
first_found f n (x ∷ xs) = option_or (f n x) (first_found f (n + 1) xs)

-- The property that is wanted, in a view. The registry has one at most.
unfoldable pub property_where : WantedProperty → RegistrationList → Option SeenProperty
property_where w V = first_found (property_found w V) 0 V
