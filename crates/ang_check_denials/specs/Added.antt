-- What a use means where a hidden entry is added to what a module sees, told from the entry and from what is seen alone
-- (docs/LANGUAGE.md, "Denials"). No view with an entry more is made.
use Rattle.std.specs.Prelude.{ℕ, ◌==◌, Bool, false, not, ◌&&◌, ◌||◌, List, [], ◌∷◌, map, is_some, slice_get, Option, Some, None, bytes_eq}
use Rattle.std.specs.List.{position}
use Rattle.ang_kinds.specs.declared.mask.EntityNo.{EntityNo}
use Rattle.ang_types.specs.declared.arg_type.ArgType.{ArgType}
use Rattle.ang_types.specs.declared.arg_type.ArgType.TheVariants as type
use Rattle.ang_types.specs.declared.asks.Asks.{Asks}
use Rattle.ang_types.specs.declared.asks.Asks.TheVariants as asks
use Rattle.ang_types.specs.declared.candidate.Candidate.{Candidate}
use Rattle.ang_types.specs.Best.{is_best}
use Rattle.ang_types.specs.Ranks.{Ancestors}
use Rattle.ang_view.specs.declared.entry.Entry.{Entry}
use Rattle.ang_view.specs.Hidden.{is_with, seen_with}
use Rattle.ang_view.specs.Registration.{RegistrationList, entry_at, is_function_named}
use Rattle.ang_view.specs.Named.{is_value_named, values_named, is_factory}
use Rattle.ang_view.specs.Types.{is_enumeration_named, is_type_named}
use Rattle.ang_check_contest.specs.declared.host.SeenFunction.{SeenFunction}
use Rattle.ang_check_contest.specs.declared.host.SeenProperty.{SeenProperty}
use Rattle.ang_check_contest.specs.declared.host.Wanted.TheVariants as wanted
use Rattle.ang_check_contest.specs.declared.host.WantedProperty.{WantedProperty}
use Rattle.ang_check_contest.specs.declared.host.WantedProperty.TheVariants as property
use Rattle.ang_names_known.specs.declared.names.Family.{Family}
use Rattle.ang_names_known.specs.declared.names.ScriptGlobal.{ScriptGlobal}
use Rattle.ang_names_known.specs.declared.space.Named.{Named}
use Rattle.ang_names_known.specs.declared.space.Named.TheVariants as named
use Rattle.ang_check_contest.specs.Added.{added_property}
use Rattle.ang_check_contest.specs.Host.{host_where, property_found, property_where}
use Rattle.ang_names_known.specs.Items.{is_empty}
use Rattle.ang_names_known.specs.Lookup.{global_named}
use Rattle.ang_names_known.specs.Spaces.{family_of_type, family_or_host, space_of_names, type_of_name}
use Rattle.ang_check_uses.specs.Uses.{candidates_of, functions_of, host_methods, takes_number, value_in}
use Rattle.ang_check_contest.specs.Scopes.{Scope}
use Rattle.ang_check_added.specs.Made.{found_in, plain, with_receiver}
use Rattle.ang_check_denials.specs.Denials.{is_call}
use Rattle.ang_check_denials.specs.Names.{is_a_type_named}

-- ---- what is seen beside the entry that is added

abbrev pub factories : RegistrationList → ℕ → List Candidate
factories V n = map plain (host_where (wanted.Factory n) V)

-- the candidates that are seen, beside which the one that is added has to be the best
abbrev pub candidates_for : Scope → List ℕ → Asks → List Candidate
candidates_for s name asks.Value = []
candidates_for s name asks.Type = []
candidates_for s name asks.Enumeration = []
candidates_for s name (asks.Call args) = candidates_of (functions_of s name)
candidates_for s name (asks.Make n args) = factories s.view n
candidates_for s name (asks.Default n) = factories s.view n
candidates_for s name (asks.Property n) = []
candidates_for s name (asks.Method n c args) = candidates_of (host_methods s.view n name)

-- the types of all arguments, a receiver's in front
abbrev pub types_of : Asks → List ArgType
types_of asks.Value = []
types_of asks.Type = []
types_of asks.Enumeration = []
types_of (asks.Call args) = args
types_of (asks.Make n args) = args
types_of (asks.Default n) = []
types_of (asks.Property n) = []
types_of (asks.Method n c args) = type.Object n c ∷ args

-- the property that is seen
abbrev pub property_for : Scope → List ℕ → Asks → Option SeenProperty
property_for s name asks.Value = property_where (property.Global name) s.view
property_for s name asks.Type = None
property_for s name asks.Enumeration = None
property_for s name (asks.Call args) = None
property_for s name (asks.Make n args) = None
property_for s name (asks.Default n) = None
property_for s name (asks.Property n) = property_where (property.Member n name) s.view
property_for s name (asks.Method n c args) = None

-- whether there are functions of the name that a hidden one would join
abbrev pub is_joined : Scope → List ℕ → Asks → Bool
is_joined s name a = is_call a && not (is_empty (functions_of s name))

-- ---- types by name

-- an entry is seen, or comes with entry x
abbrev pub is_shown : RegistrationList → RegistrationList → ℕ → ℕ → Bool
is_shown R V x k = is_some (entry_at V k) || is_with R x k

abbrev pub is_shown_type : RegistrationList → RegistrationList → List ℕ → ℕ → ℕ → Bool
is_shown_type R V name x k = is_type_named name (entry_at R k) && is_shown R V x k

abbrev pub is_shown_enumeration : RegistrationList → RegistrationList → List ℕ → ℕ → ℕ → Bool
is_shown_enumeration R V name x k = is_enumeration_named name (entry_at R k) && is_shown R V x k

-- the script's family of a name, as a type
abbrev pub family_of_name : Scope → List ℕ → Named
family_of_name s name = family_or_host (position (bytes_eq name) (map (λ (f : Family). f.name) s.names.families)) None None

-- what a name means as a type where entry x is added
abbrev pub named_with : RegistrationList → ℕ → Scope → ℕ → List ℕ → Named
named_with R m s x name = type_of_name (space_of_names (seen_with R m x) s.names) name

-- ---- what entry x would be

abbrev pub has_place : {A : Type 0} → List A → Option ℕ → Bool
has_place xs None = false
has_place xs (Some n) = is_some (slice_get xs n)

-- the script has a global of this name
abbrev pub has_global : List ScriptGlobal → List ℕ → Bool
has_global gs name = has_place gs (global_named gs name)

abbrev pub is_property_of : ℕ → Option SeenProperty → Bool
is_property_of x None = false
is_property_of x (Some h) = h.entity.0 == x

-- the property that is wanted would be that of entry x, beside the one that is seen
abbrev pub property_wins : RegistrationList → ℕ → WantedProperty → Option SeenProperty → Bool
property_wins R x w seen = is_property_of x (added_property (property_found w R x (entry_at R x)) seen)

-- entry x is a value of the name, of some enumeration
abbrev pub is_value_at : List ℕ → ℕ → Option Entry → Bool
is_value_at name x o = is_value_named name o && is_some (value_in x o)

-- what a bare name means that no global of the script has: this property, else entry x, where that is the only value of the name
abbrev pub value_wins : RegistrationList → Scope → List ℕ → ℕ → Option SeenProperty → Bool
value_wins R s name x None = is_value_at name x (entry_at R x) && is_empty (values_named s.view name)
value_wins R s name x (Some h) = h.entity.0 == x

-- a function that is found would be the best beside some candidates
abbrev pub wins : Ancestors → (SeenFunction → Candidate) → List Candidate → List ArgType → Option SeenFunction → Bool
wins ancestors candidate cs args None = false
wins ancestors candidate cs args (Some f) = is_best ancestors (candidate f ∷ cs) args 0

abbrev pub is_number_of : ℕ → Named → Bool
is_number_of x named.Unknown = false
is_number_of x (named.Object n) = n == x
is_number_of x (named.Enumeration n) = n == x

abbrev pub is_enumeration_number : ℕ → Named → Bool
is_enumeration_number x named.Unknown = false
is_enumeration_number x (named.Object n) = false
is_enumeration_number x (named.Enumeration n) = n == x

abbrev pub factory_wins : RegistrationList → Scope → List ArgType → ℕ → ℕ → Option ℕ → Bool
factory_wins R s args x n (Some c) = false
factory_wins R s args x n None = wins s.ancestors plain (factories s.view n) args (found_in R x (wanted.Factory n))

-- a call of a name: entry x makes an object of the type of the name, or is the enumeration of it where that takes the argument, or is
-- the best function of it
abbrev pub call_wins : RegistrationList → Scope → List ℕ → List ArgType → ℕ → Named → Bool
call_wins R s name args x named.Unknown =
    wins s.ancestors plain (candidates_of (functions_of s name)) args (found_in R x (wanted.Function name))
call_wins R s name args x (named.Object n) = factory_wins R s args x n (family_of_type n)
call_wins R s name args x (named.Enumeration n) = n == x && takes_number args

abbrev pub is_type_number : RegistrationList → List ℕ → Option EntityNo → Bool
is_type_number R name None = false
is_type_number R name (Some n) = is_type_named name (entry_at R n.0)

abbrev pub is_factory_of : RegistrationList → List ℕ → Option Entry → Bool
is_factory_of R name None = false
is_factory_of R name (Some x) = is_factory x.kind && is_type_number R name x.owner

-- entry x is a function or an enumeration of the name, or a factory of a type of the name
abbrev pub is_called_by : RegistrationList → List ℕ → ℕ → Bool
is_called_by R name x =
    is_function_named name (entry_at R x) || (is_enumeration_named name (entry_at R x) || is_factory_of R name (entry_at R x))

-- The use would mean entry x, where its name means this as a type.
abbrev pub adds : RegistrationList → Scope → List ℕ → ℕ → Named → Asks → Bool
adds R s name x as_type asks.Value =
    not (has_global s.names.globals name)
    && value_wins R s name x (added_property (property_found (property.Global name) R x (entry_at R x)) (property_for s name asks.Value))
adds R s name x as_type asks.Type = is_a_type_named name (entry_at R x) && is_number_of x as_type
adds R s name x as_type asks.Enumeration = is_enumeration_named name (entry_at R x) && is_enumeration_number x as_type
adds R s name x as_type (asks.Call args) = is_called_by R name x && call_wins R s name args x as_type
adds R s name x as_type (asks.Make n args) = wins s.ancestors plain (factories s.view n) args (found_in R x (wanted.Factory n))
adds R s name x as_type (asks.Default n) = wins s.ancestors plain (factories s.view n) [] (found_in R x (wanted.Factory n))
adds R s name x as_type (asks.Property n) = property_wins R x (property.Member n name) (property_for s name (asks.Property n))
adds R s name x as_type (asks.Method n c args) =
    wins s.ancestors (with_receiver n) (candidates_of (host_methods s.view n name)) (type.Object n c ∷ args) (found_in R x (wanted.Method n name))
