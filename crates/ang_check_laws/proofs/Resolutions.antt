-- What a use of a name can mean, as a variable, a property or a function, where it is not refused.
use Rattle.std.specs.Prelude.{ℕ, Bool, true, false, if◌then◌else◌, List, [], ◌∷◌, Option, Some, None, slice_get}
use Rattle.ang_kinds.specs.declared.error.ErrorKind.{ErrorKind}
use Rattle.ang_kinds.specs.declared.error.ErrorKind.TheVariants as kind
use Rattle.ang_types.specs.declared.arg_type.ArgType.{ArgType}
use Rattle.ang_types.specs.declared.candidate.Pick.{Pick}
use Rattle.ang_types.specs.declared.candidate.Pick.TheVariants as pick
use Rattle.ang_types.specs.Best.{best_of}
use Rattle.ang_types.specs.Ranks.{Ancestors}
use Rattle.ang_view.specs.Named.{values_named}
use Rattle.ang_view.specs.Registration.{RegistrationList}
use Rattle.ang_check_contest.specs.declared.host.SeenProperty.{SeenProperty}
use Rattle.ang_check_contest.specs.declared.host.WantedProperty.TheVariants as property
use Rattle.ang_names_known.specs.declared.names.ScriptGlobal.{ScriptGlobal}
use Rattle.ang_names_known.specs.declared.space.Named.{Named}
use Rattle.ang_names_known.specs.declared.space.Named.TheVariants as named
use Rattle.ang_check_contest.specs.Host.{property_where}
use Rattle.ang_names_known.specs.Items.{is_empty}
use Rattle.ang_names_known.specs.Lookup.{global_named}
use Rattle.ang_names_known.specs.Spaces.{type_of_name, space_of_names}
use Rattle.ang_check_uses.specs.declared.uses.Callable.{Callable}
use Rattle.ang_check_uses.specs.declared.uses.EnumerationValue.{EnumerationValue}
use Rattle.ang_check_uses.specs.declared.uses.Resolution.{Resolution}
use Rattle.ang_check_uses.specs.declared.uses.Resolution.TheVariants as resolution
use Rattle.ang_check_uses.specs.Uses.{host_meant, variable_meant, global_or_host, global_meant, property_meant, candidates_of, called_at, picked, best_of_those, best_function, functions_of, makers_of, called_by, called_name, enumeration_meant, one_value, takes_number, unmatched, best_method, value_among, value_at, value_meant}
use Rattle.ang_check_contest.specs.Scopes.{Scope}

abbrev pub IsVariable : Resolution → Type 0
IsVariable (resolution.Variable v ty read_only) = Unit {0}
IsVariable (resolution.Property h) = ⊥
IsVariable (resolution.Call c) = ⊥
IsVariable (resolution.Type n) = ⊥
IsVariable (resolution.Enumeration n) = ⊥
IsVariable (resolution.Value v) = Unit {0}
IsVariable (resolution.Refused why) = Unit {0}

abbrev pub IsProperty : Resolution → Type 0
IsProperty (resolution.Variable v ty read_only) = ⊥
IsProperty (resolution.Property h) = Unit {0}
IsProperty (resolution.Call c) = ⊥
IsProperty (resolution.Type n) = ⊥
IsProperty (resolution.Enumeration n) = ⊥
IsProperty (resolution.Value v) = ⊥
IsProperty (resolution.Refused why) = Unit {0}

abbrev pub IsCall : Resolution → Type 0
IsCall (resolution.Variable v ty read_only) = ⊥
IsCall (resolution.Property h) = ⊥
IsCall (resolution.Call c) = Unit {0}
IsCall (resolution.Type n) = ⊥
IsCall (resolution.Enumeration n) = ⊥
IsCall (resolution.Value v) = ⊥
IsCall (resolution.Refused why) = Unit {0}

-- a call, or a conversion to an enumeration
abbrev pub IsBareCall : Resolution → Type 0
IsBareCall (resolution.Variable v ty read_only) = ⊥
IsBareCall (resolution.Property h) = ⊥
IsBareCall (resolution.Call c) = Unit {0}
IsBareCall (resolution.Type n) = ⊥
IsBareCall (resolution.Enumeration n) = Unit {0}
IsBareCall (resolution.Value v) = ⊥
IsBareCall (resolution.Refused why) = Unit {0}

abbrev pub IsEnumeration : Resolution → Type 0
IsEnumeration (resolution.Variable v ty read_only) = ⊥
IsEnumeration (resolution.Property h) = ⊥
IsEnumeration (resolution.Call c) = ⊥
IsEnumeration (resolution.Type n) = ⊥
IsEnumeration (resolution.Enumeration n) = Unit {0}
IsEnumeration (resolution.Value v) = ⊥
IsEnumeration (resolution.Refused why) = Unit {0}

-- ---- variables, values and properties

one_is : (v : Option EnumerationValue) → IsVariable (one_value v)
one_is None = tt
one_is (Some v) = tt

among_is : (V : RegistrationList) (ns : List ℕ) → IsVariable (value_among V ns)
among_is V [] = tt
among_is V (n ∷ []) = one_is (value_at V n)
among_is V (n ∷ m ∷ rest) = tt

value_is : (V : RegistrationList) (name : List ℕ) → IsVariable (value_meant V name)
unfolding value_meant
value_is V name = among_is V (values_named V name)

module _ (otherwise : Resolution) (is : IsVariable otherwise) where
  host_is : (host : Option SeenProperty) → IsVariable (host_meant otherwise host)
  host_is None = is
  host_is (Some h) = tt

  variable_is : (n : ℕ) (g : Option ScriptGlobal) (host : Option SeenProperty) → IsVariable (variable_meant otherwise n g host)
  variable_is n None host = host_is host
  variable_is n (Some g) host = tt

  global_is : (gs : List ScriptGlobal) (o : Option ℕ) (host : Option SeenProperty) → IsVariable (global_or_host otherwise gs o host)
  global_is gs None host = host_is host
  global_is gs (Some n) host = variable_is n (slice_get gs n) host

pub value_is_variable : (s : Scope) (name : List ℕ) → IsVariable (global_meant s name)
unfolding global_meant
value_is_variable s name =
    global_is (value_meant s.view name) (value_is s.view name) s.names.globals (global_named s.names.globals name)
    (property_where (property.Global name) s.view)

pub enumeration_is : (d : Named) → IsEnumeration (enumeration_meant d)
enumeration_is named.Unknown = tt
enumeration_is (named.Object n) = tt
enumeration_is (named.Enumeration n) = tt

pub property_is : (h : Option SeenProperty) → IsProperty (property_meant h)
property_is None = tt
property_is (Some h) = tt

-- ---- functions

at_is : (c : Option Callable) → IsCall (called_at c)
at_is None = tt
at_is (Some c) = tt

picked_is : (unviable : ErrorKind) (cs : List Callable) (p : Pick) → IsCall (picked unviable cs p)
picked_is unviable cs pick.NoViable = tt
picked_is unviable cs pick.Ambiguous = tt
picked_is unviable cs (pick.One i) = at_is (slice_get cs i)

pub best_is_call : (ancestors : Ancestors) (unviable : ErrorKind) (cs : List Callable) (args : List ArgType)
    → IsCall (best_of_those ancestors unviable cs args)
unfolding best_of_those
best_is_call ancestors unviable cs args = picked_is unviable cs (best_of ancestors (candidates_of cs) args)

either_call : (b : Bool) (x y : Resolution) → IsCall x → IsCall y → IsCall (if b then x else y)
either_call true x y h k = h
either_call false x y h k = k

pub method_is_call : (ancestors : Ancestors) (cs : List Callable) (n : ℕ) (c : Bool) (args : List ArgType) → IsCall (best_method ancestors cs n c args)
unfolding best_method
method_is_call ancestors cs n c args =
    either_call (is_empty cs) _ _ tt (best_is_call ancestors (unmatched ancestors cs n c args) cs _)

bare : (r : Resolution) → IsCall r → IsBareCall r
bare (resolution.Variable v ty read_only) h = absurd h
bare (resolution.Property p) h = absurd h
bare (resolution.Call c) h = tt
bare (resolution.Type n) h = absurd h
bare (resolution.Enumeration n) h = absurd h
bare (resolution.Value v) h = absurd h
bare (resolution.Refused why) h = tt

converted_is : (n : ℕ) (takes : Bool) → IsBareCall (if takes then resolution.Enumeration n else resolution.Refused kind.NoMatch)
converted_is n true = tt
converted_is n false = tt

by_is_call : (s : Scope) (name : List ℕ) (args : List ArgType) (d : Named) → IsBareCall (called_by s name args d)
by_is_call s name args (named.Object n) =
    bare (best_of_those s.ancestors kind.NoMatch (makers_of s n) args) (best_is_call s.ancestors kind.NoMatch (makers_of s n) args)
by_is_call s name args (named.Enumeration n) = converted_is n (takes_number args)
by_is_call s name args named.Unknown =
    bare (best_function s.ancestors (functions_of s name) args)
    (either_call (is_empty (functions_of s name)) _ _ tt (best_is_call s.ancestors kind.NoMatch (functions_of s name) args))

pub name_is_call : (s : Scope) (name : List ℕ) (args : List ArgType) → IsBareCall (called_name s name args)
unfolding called_name
name_is_call s name args = by_is_call s name args (type_of_name (space_of_names s.view s.names) name)
