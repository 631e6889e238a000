-- What a use of a name means where no local and no member of a script's class has the name (docs/LANGUAGE.md, "Expressions": names and
-- calls; the AngelScript manual, "Function overloading", "Object handles" and "Access masks"). A use is a name and what is asked of it.
-- The denial report asks the same over a larger view.
use Rattle.std.specs.Prelude.{ℕ, Bool, true, false, not, ◌&&◌, if◌then◌else◌, List, [], ◌∷◌, ◌++◌, map, slice_get, option_to_list, Option, Some, None}
use Rattle.std.specs.List.{flat_map}
use Rattle.ang_kinds.specs.declared.error.ErrorKind.{ErrorKind}
use Rattle.ang_kinds.specs.declared.error.ErrorKind.TheVariants as kind
use Rattle.ang_kinds.specs.declared.mask.EntityNo.{EntityNo}
use Rattle.ang_kinds.specs.declared.types.Pass.TheVariants as pass
use Rattle.ang_types.specs.declared.arg_type.ArgType.{ArgType}
use Rattle.ang_types.specs.declared.arg_type.ArgType.TheVariants as type
use Rattle.ang_types.specs.declared.asks.Asks.{Asks}
use Rattle.ang_types.specs.declared.asks.Asks.TheVariants as asks
use Rattle.ang_types.specs.declared.candidate.Candidate.{Candidate}
use Rattle.ang_types.specs.declared.candidate.Pick.{Pick}
use Rattle.ang_types.specs.declared.candidate.Pick.TheVariants as pick
use Rattle.ang_types.specs.Best.{best_of}
use Rattle.ang_types.specs.Integers.{is_integer}
use Rattle.ang_types.specs.Ranks.{Ancestors}
use Rattle.ang_typed.specs.declared.expression.TypedCallee.TheVariants as callee
use Rattle.ang_typed.specs.declared.expression.HostEntity.{HostEntity}
use Rattle.ang_typed.specs.declared.expression.TypedVariable.TheVariants as variable
use Rattle.ang_view.specs.declared.entry.Entry.{Entry}
use Rattle.ang_view.specs.declared.entry.EntryKind.{EntryKind}
use Rattle.ang_view.specs.declared.entry.EntryKind.TheVariants as entry
use Rattle.ang_view.specs.Named.{members, values_named}
use Rattle.ang_view.specs.Registration.{RegistrationList, entry_at}
use Rattle.ang_check_contest.specs.declared.host.SeenFunction.{SeenFunction}
use Rattle.ang_check_contest.specs.declared.host.SeenProperty.{SeenProperty}
use Rattle.ang_names_known.specs.declared.names.ScriptConstructor.{ScriptConstructor}
use Rattle.ang_names_known.specs.declared.names.Default.{Default}
use Rattle.ang_names_known.specs.declared.names.Default.TheVariants as default
use Rattle.ang_names_known.specs.declared.names.Family.{Family}
use Rattle.ang_names_known.specs.declared.names.Names.{Names}
use Rattle.ang_names_known.specs.declared.names.ScriptFunction.{ScriptFunction}
use Rattle.ang_names_known.specs.declared.names.ScriptGlobal.{ScriptGlobal}
use Rattle.ang_check_uses.specs.declared.uses.Callable.{Callable}
use Rattle.ang_check_uses.specs.declared.uses.Called.TheVariants as called
use Rattle.ang_check_uses.specs.declared.uses.EnumerationValue.{EnumerationValue}
use Rattle.ang_check_uses.specs.declared.uses.Resolution.{Resolution}
use Rattle.ang_check_uses.specs.declared.uses.Resolution.TheVariants as resolution
use Rattle.ang_check_contest.specs.declared.host.Wanted.TheVariants as wanted
use Rattle.ang_check_contest.specs.declared.host.WantedProperty.TheVariants as property
use Rattle.ang_names_known.specs.declared.space.Named.{Named}
use Rattle.ang_names_known.specs.declared.space.Named.TheVariants as named
use Rattle.ang_check_contest.specs.Host.{host_where, property_where}
use Rattle.ang_check_contest.specs.Scopes.{Scope}
use Rattle.ang_names_known.specs.Items.{is_empty}
use Rattle.ang_names_known.specs.Lookup.{is_read_only, functions_named, global_named, parameters_of, default_of}
use Rattle.ang_names_known.specs.Spaces.{family_type, family_of_type, type_of_name, space_of_names}

-- why a use means nothing; where it means what can't stand there no such name is known
abbrev pub why : Resolution → ErrorKind
why (resolution.Refused k) = k
why _ = kind.UnknownName

-- ---- values of enumerations

-- the entry of number n as a value of the enumeration that it names
abbrev pub value_by : ℕ → EntryKind → Option EntityNo → Option EnumerationValue
value_by n (entry.EnumValue v) (Some e) = Some (record { entity = record { 0 = n }; enumeration = e.0; number = v })
value_by n _ owner = None

abbrev pub value_in : ℕ → Option Entry → Option EnumerationValue
value_in n None = None
value_in n (Some x) = value_by n x.kind x.owner

abbrev pub value_at : RegistrationList → ℕ → Option EnumerationValue
value_at V n = value_in n (entry_at V n)

abbrev pub first_value : RegistrationList → List ℕ → Option EnumerationValue
first_value V [] = None
first_value V (n ∷ rest) = value_at V n

-- the value of this name that the enumeration of number n has; it has one of a name at most
unfoldable pub value_of : RegistrationList → ℕ → List ℕ → Option EnumerationValue
value_of V n name = first_value V (members V n name)

abbrev pub one_value : Option EnumerationValue → Resolution
one_value None = resolution.Refused kind.UnknownName
one_value (Some v) = resolution.Value v

abbrev pub value_among : RegistrationList → List ℕ → Resolution
value_among V [] = resolution.Refused kind.UnknownName
value_among V (n ∷ []) = one_value (value_at V n)
value_among V (n ∷ m ∷ rest) = resolution.Refused kind.Ambiguous

-- the value of this name in the one enumeration that has it
unfoldable pub value_meant : RegistrationList → List ℕ → Resolution
value_meant V name = value_among V (values_named V name)

-- ---- a bare name: a global of the script, else a global property that the module sees, else a value of an enumeration

abbrev pub entity_of : SeenProperty → HostEntity
entity_of h = record { entity = h.entity; driver = h.driver; f = h.f }

abbrev pub host_meant : Resolution → Option SeenProperty → Resolution
host_meant otherwise None = otherwise
host_meant otherwise (Some h) = resolution.Variable (variable.Property (entity_of h)) h.ty h.read_only

abbrev pub variable_meant : Resolution → ℕ → Option ScriptGlobal → Option SeenProperty → Resolution
variable_meant otherwise n None host = host_meant otherwise host
variable_meant otherwise n (Some g) host = resolution.Variable (variable.Global n) g.written.ty (is_read_only g.written)

abbrev pub global_or_host : Resolution → List ScriptGlobal → Option ℕ → Option SeenProperty → Resolution
global_or_host otherwise gs None host = host_meant otherwise host
global_or_host otherwise gs (Some n) host = variable_meant otherwise n (slice_get gs n) host

unfoldable pub global_meant : Scope → List ℕ → Resolution
global_meant s name =
    global_or_host (value_meant s.view name) s.names.globals (global_named s.names.globals name) (property_where (property.Global name) s.view)

-- ---- what can be called

abbrev pub own_function : ℕ → ScriptFunction → Callable
own_function n f = record {
  called = called.Script (callee.Own n);
  result = f.result.ty;
  candidate = record { params = parameters_of f };
  reach = None;
}

abbrev pub imported_function : ℕ → ScriptFunction → Callable
imported_function n f = record (own_function n f) { called = called.Script (callee.Import n) }

abbrev pub callable_in : (ℕ → ScriptFunction → Callable) → ℕ → Option ScriptFunction → Option Callable
callable_in f n None = None
callable_in f n (Some x) = Some (f n x)

abbrev pub callable_at : (ℕ → ScriptFunction → Callable) → List ScriptFunction → ℕ → List Callable
callable_at f fs n = option_to_list (callable_in f n (slice_get fs n))

-- the functions and the imports of the script of this name
unfoldable pub script_callables : Names → List ℕ → List Callable
script_callables names name =
    flat_map (callable_at own_function names.functions) (functions_named names.functions name)
    ++ flat_map (callable_at imported_function names.imports) (functions_named names.imports name)

abbrev pub host_callable : SeenFunction → Callable
host_callable f = record {
  called = called.Host (record { entity = f.entity; driver = f.driver; f = f.f });
  result = f.result;
  candidate = record { params = f.params };
  reach = None;
}

-- what makes an object of this type gives the object, though a factory's declaration gives a handle
abbrev pub maker : ℕ → SeenFunction → Callable
maker n f = record (host_callable f) { result = type.Object n false }

abbrev pub factories_of : RegistrationList → ℕ → List Callable
factories_of V n = map (maker n) (host_where (wanted.Factory n) V)

abbrev pub constructor_of : ℕ → ScriptConstructor → Callable
constructor_of c k = record {
  called = called.Makes c (Some k.body);
  result = type.Object (family_type c) false;
  candidate = record { params = parameters_of k.function };
  reach = None;
}

abbrev pub default_maker : ℕ → Default → List Callable
default_maker c default.Missing = []
default_maker c default.Unwritten =
    record { called = called.Makes c None; result = type.Object (family_type c) false; candidate = record { params = [] }; reach = None } ∷ []
default_maker c (default.Written body) =
    record { called = called.Makes c (Some body); result = type.Object (family_type c) false; candidate = record { params = [] }; reach = None } ∷ []

-- A class's constructors, or the default one where it has none; an interface has none.
abbrev pub makers_in : List Family → ℕ → Option Family → List Callable
makers_in fs c None = []
makers_in fs c (Some f) =
    if f.is_class then (if is_empty f.constructors then default_maker c (default_of fs c) else map (constructor_of c) f.constructors) else []

abbrev pub makers_for : Scope → ℕ → Option ℕ → List Callable
makers_for s n None = factories_of s.view n
makers_for s n (Some c) = makers_in s.names.families c (slice_get s.names.families c)

-- all that makes an object of the type of this number
unfoldable pub makers_of : Scope → ℕ → List Callable
makers_of s n = makers_for s n (family_of_type n)

-- ---- the best of them

abbrev pub called_at : Option Callable → Resolution
called_at None = resolution.Refused kind.UnknownName
called_at (Some c) = resolution.Call c

abbrev pub picked : ErrorKind → List Callable → Pick → Resolution
picked unviable cs pick.NoViable = resolution.Refused unviable
picked unviable cs pick.Ambiguous = resolution.Refused kind.Ambiguous
picked unviable cs (pick.One i) = called_at (slice_get cs i)

abbrev pub candidates_of : List Callable → List Candidate
candidates_of cs = map (λ (c : Callable). c.candidate) cs

-- The best for arguments of these types: this kind of error where none takes them, `Ambiguous` where none of those that do is the best.
unfoldable pub best_of_those : Ancestors → ErrorKind → List Callable → List ArgType → Resolution
best_of_those ancestors unviable cs args = picked unviable cs (best_of ancestors (candidates_of cs) args)

-- ---- a bare call: of an enumeration's name a conversion, else what makes an object of the type of the name, else the functions of the name

-- an integer type or an enumeration
abbrev pub is_numeric : ArgType → Bool
is_numeric (type.Plain p) = is_integer p
is_numeric (type.Enumeration n) = true
is_numeric _ = false

-- one integer, or one value of an enumeration
abbrev pub takes_number : List ArgType → Bool
takes_number (ty ∷ []) = is_numeric ty
takes_number _ = false

abbrev pub enumeration_called : ℕ → List ArgType → Resolution
enumeration_called n args = if takes_number args then resolution.Enumeration n else resolution.Refused kind.NoMatch

abbrev pub functions_of : Scope → List ℕ → List Callable
functions_of s name = script_callables s.names name ++ map host_callable (host_where (wanted.Function name) s.view)

abbrev pub best_function : Ancestors → List Callable → List ArgType → Resolution
best_function ancestors cs args = if is_empty cs then resolution.Refused kind.UnknownName else best_of_those ancestors kind.NoMatch cs args

abbrev pub called_by : Scope → List ℕ → List ArgType → Named → Resolution
called_by s name args (named.Object n) = best_of_those s.ancestors kind.NoMatch (makers_of s n) args
called_by s name args (named.Enumeration n) = enumeration_called n args
called_by s name args named.Unknown = best_function s.ancestors (functions_of s name) args

unfoldable pub called_name : Scope → List ℕ → List ArgType → Resolution
called_name s name args = called_by s name args (type_of_name (space_of_names s.view s.names) name)

-- ---- a type's name

abbrev pub type_meant : Named → Resolution
type_meant named.Unknown = resolution.Refused kind.UnknownType
type_meant (named.Object n) = resolution.Type n
type_meant (named.Enumeration n) = resolution.Enumeration n

-- in front of `::`
abbrev pub enumeration_meant : Named → Resolution
enumeration_meant (named.Enumeration n) = resolution.Enumeration n
enumeration_meant _ = resolution.Refused kind.UnknownName

-- ---- members of a host type

abbrev pub property_meant : Option SeenProperty → Resolution
property_meant None = resolution.Refused kind.UnknownName
property_meant (Some h) = resolution.Property h

-- a method with its receiver in front, which is an object of the receiver's own type, `const` where the method is
abbrev pub host_method : ℕ → SeenFunction → Callable
host_method n f = record (host_callable f) { candidate = record { params = (type.Object n f.read_only, pass.RefInOut) ∷ f.params } }

abbrev pub host_methods : RegistrationList → ℕ → List ℕ → List Callable
host_methods V n name = map (host_method n) (host_where (wanted.Method n name) V)

abbrev pub is_none_viable : Pick → Bool
is_none_viable pick.NoViable = true
is_none_viable _ = false

-- `Const` where some method would take the arguments on a receiver that may be changed
abbrev pub unmatched : Ancestors → List Callable → ℕ → Bool → List ArgType → ErrorKind
unmatched ancestors cs n c args =
    if c && not (is_none_viable (best_of ancestors (candidates_of cs) (type.Object n false ∷ args))) then kind.Const else kind.NoMatch

-- The best of some methods on a receiver of this type, `const` or not, for arguments of these types.
unfoldable pub best_method : Ancestors → List Callable → ℕ → Bool → List ArgType → Resolution
best_method ancestors cs n c args =
    if is_empty cs then resolution.Refused kind.UnknownName
    else best_of_those ancestors (unmatched ancestors cs n c args) cs (type.Object n c ∷ args)

-- ---- any use

-- What a use means, over a view and the declarations of the scripts.
abbrev pub resolution_of : Scope → List ℕ → Asks → Resolution
resolution_of s name asks.Value = global_meant s name
resolution_of s name asks.Type = type_meant (type_of_name (space_of_names s.view s.names) name)
resolution_of s name asks.Enumeration = enumeration_meant (type_of_name (space_of_names s.view s.names) name)
resolution_of s name (asks.Call args) = called_name s name args
resolution_of s name (asks.Make n args) = best_of_those s.ancestors kind.NoMatch (factories_of s.view n) args
resolution_of s name (asks.Default n) = best_of_those s.ancestors kind.NoDefault (factories_of s.view n) []
resolution_of s name (asks.Property n) = property_meant (property_where (property.Member n name) s.view)
resolution_of s name (asks.Method n c args) = best_method s.ancestors (host_methods s.view n name) n c args
