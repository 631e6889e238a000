-- What the refusal of a use can be.
use Rattle.std.specs.Prelude.{◌≡◌, ℕ, Bool, true, false, not, ◌&&◌, if◌then◌else◌, List, [], ◌∷◌, All, Option, Some, None, IfSome, slice_get, slice_index_or}
use Rattle.std.proofs.Common.{refl, subst}
use Rattle.ang_kinds.specs.declared.error.ErrorKind.{ErrorKind}
use Rattle.ang_kinds.specs.declared.error.ErrorKind.TheVariants as kind
use Rattle.ang_types.specs.declared.arg_type.ArgType.{ArgType}
use Rattle.ang_types.specs.declared.asks.Asks.{Asks}
use Rattle.ang_types.specs.declared.asks.Asks.TheVariants as asks
use Rattle.ang_types.specs.declared.asks.Refused.{Refused}
use Rattle.ang_types.specs.declared.candidate.Pick.{Pick}
use Rattle.ang_types.specs.declared.candidate.Pick.TheVariants as pick
use Rattle.ang_types.specs.Best.{best_of}
use Rattle.ang_types.specs.Ranks.{Ancestors}
use Rattle.ang_view.specs.Named.{values_named}
use Rattle.ang_view.specs.Registration.{RegistrationList}
use Rattle.ang_check_contest.specs.declared.host.SeenProperty.{SeenProperty}
use Rattle.ang_check_contest.specs.declared.host.WantedProperty.TheVariants as property
use Rattle.ang_names_known.specs.declared.names.ScriptGlobal.{ScriptGlobal}
use Rattle.ang_names_known.specs.declared.space.Named.{Named}
use Rattle.ang_names_known.specs.declared.space.Named.TheVariants as named
use Rattle.ang_check_contest.specs.Host.{property_where}
use Rattle.ang_names_known.specs.Items.{is_empty}
use Rattle.ang_names_known.specs.Lookup.{global_named}
use Rattle.ang_names_known.specs.Spaces.{type_of_name, space_of_names}
use Rattle.ang_names_listed.specs.Sources.{Source}
use Rattle.ang_check_uses.specs.declared.uses.Callable.{Callable}
use Rattle.ang_check_uses.specs.declared.uses.EnumerationValue.{EnumerationValue}
use Rattle.ang_check_uses.specs.declared.uses.Resolution.{Resolution}
use Rattle.ang_check_uses.specs.declared.uses.Resolution.TheVariants as resolution
use Rattle.ang_check_uses.specs.Uses.{host_meant, variable_meant, global_or_host, global_meant, property_meant, type_meant, enumeration_meant, one_value, value_among, value_at, value_meant, takes_number, candidates_of, called_at, picked, best_of_those, functions_of, factories_of, makers_of, called_by, called_name, host_methods, is_none_viable, unmatched, best_method, resolution_of}
use Rattle.ang_check_contest.specs.Scopes.{Scope}
use Rattle.ang_check.specs.Denials.{scope_over, script_refusals}
use Rattle.ang_check_laws.specs.Asked.{IsAskedAgain, IsOfUse, refuses_use}
use Rattle.ang_check_laws.proofs.Scripts.{asked_again}

-- if it is refused, then so
abbrev IsSix : Resolution → Type 0
IsSix (resolution.Variable v ty read_only) = Unit {0}
IsSix (resolution.Property h) = Unit {0}
IsSix (resolution.Call c) = Unit {0}
IsSix (resolution.Type n) = Unit {0}
IsSix (resolution.Enumeration n) = Unit {0}
IsSix (resolution.Value v) = Unit {0}
IsSix (resolution.Refused why) = refuses_use why ≡ true

either_six : (b : Bool) (x y : Resolution) → IsSix x → IsSix y → IsSix (if b then x else y)
either_six true x y h k = h
either_six false x y h k = k

-- ---- names

one_six : (v : Option EnumerationValue) → IsSix (one_value v)
one_six None = refl
one_six (Some v) = tt

among_six : (V : RegistrationList) (ns : List ℕ) → IsSix (value_among V ns)
among_six V [] = refl
among_six V (n ∷ []) = one_six (value_at V n)
among_six V (n ∷ m ∷ rest) = refl

meant_six : (V : RegistrationList) (name : List ℕ) → IsSix (value_meant V name)
unfolding value_meant
meant_six V name = among_six V (values_named V name)

module _ (otherwise : Resolution) (six : IsSix otherwise) where
  host_six : (host : Option SeenProperty) → IsSix (host_meant otherwise host)
  host_six None = six
  host_six (Some h) = tt

  variable_six : (n : ℕ) (g : Option ScriptGlobal) (host : Option SeenProperty) → IsSix (variable_meant otherwise n g host)
  variable_six n None host = host_six host
  variable_six n (Some g) host = tt

  global_six : (gs : List ScriptGlobal) (o : Option ℕ) (host : Option SeenProperty) → IsSix (global_or_host otherwise gs o host)
  global_six gs None host = host_six host
  global_six gs (Some n) host = variable_six n (slice_get gs n) host

value_six : (s : Scope) (name : List ℕ) → IsSix (global_meant s name)
unfolding global_meant
value_six s name =
    global_six (value_meant s.view name) (meant_six s.view name) s.names.globals (global_named s.names.globals name) (property_where (property.Global name) s.view)

property_six : (h : Option SeenProperty) → IsSix (property_meant h)
property_six None = refl
property_six (Some h) = tt

type_six : (d : Named) → IsSix (type_meant d)
type_six named.Unknown = refl
type_six (named.Object n) = tt
type_six (named.Enumeration n) = tt

enumeration_six : (d : Named) → IsSix (enumeration_meant d)
enumeration_six named.Unknown = refl
enumeration_six (named.Object n) = refl
enumeration_six (named.Enumeration n) = tt

-- ---- functions

at_six : (c : Option Callable) → IsSix (called_at c)
at_six None = refl
at_six (Some c) = tt

picked_six : (unviable : ErrorKind) (cs : List Callable) (p : Pick) → refuses_use unviable ≡ true → IsSix (picked unviable cs p)
picked_six unviable cs pick.NoViable h = h
picked_six unviable cs pick.Ambiguous h = refl
picked_six unviable cs (pick.One i) h = at_six (slice_get cs i)

best_six : (ancestors : Ancestors) (unviable : ErrorKind) (cs : List Callable) (args : List ArgType) → refuses_use unviable ≡ true
    → IsSix (best_of_those ancestors unviable cs args)
unfolding best_of_those
best_six ancestors unviable cs args h = picked_six unviable cs (best_of ancestors (candidates_of cs) args) h

either_kind : (b : Bool) → refuses_use (if b then kind.Const else kind.NoMatch) ≡ true
either_kind true = refl
either_kind false = refl

method_six : (ancestors : Ancestors) (cs : List Callable) (n : ℕ) (c : Bool) (args : List ArgType) → IsSix (best_method ancestors cs n c args)
unfolding best_method
method_six ancestors cs n c args =
    either_six (is_empty cs) _ _ refl
    (best_six ancestors (unmatched ancestors cs n c args) cs _ (either_kind (c && not (is_none_viable (best_of ancestors (candidates_of cs) _)))))

by_six : (s : Scope) (name : List ℕ) (args : List ArgType) (d : Named) → IsSix (called_by s name args d)
by_six s name args (named.Object n) = best_six s.ancestors kind.NoMatch (makers_of s n) args refl
by_six s name args (named.Enumeration n) = either_six (takes_number args) _ _ tt refl
by_six s name args named.Unknown =
    either_six (is_empty (functions_of s name)) _ _ refl (best_six s.ancestors kind.NoMatch (functions_of s name) args refl)

name_six : (s : Scope) (name : List ℕ) (args : List ArgType) → IsSix (called_name s name args)
unfolding called_name
name_six s name args = by_six s name args (type_of_name (space_of_names s.view s.names) name)

-- ---- any use

use_six : (s : Scope) (name : List ℕ) (a : Asks) → IsSix (resolution_of s name a)
use_six s name asks.Value = value_six s name
use_six s name asks.Type = type_six (type_of_name (space_of_names s.view s.names) name)
use_six s name asks.Enumeration = enumeration_six (type_of_name (space_of_names s.view s.names) name)
use_six s name (asks.Call args) = name_six s name args
use_six s name (asks.Make n args) = best_six s.ancestors kind.NoMatch (factories_of s.view n) args refl
use_six s name (asks.Default n) = best_six s.ancestors kind.NoDefault (factories_of s.view n) [] refl
use_six s name (asks.Property n) = property_six (property_where (property.Member n name) s.view)
use_six s name (asks.Method n c args) = method_six s.ancestors (host_methods s.view n name) n c args

asked_six : (s : Scope) (r : Refused) (o : Option Asks)
    → IfSome o (λ (a : Asks). resolution_of s r.error.name a ≡ resolution.Refused r.error.kind)
    → IfSome o (λ (a : Asks). refuses_use r.error.kind ≡ true)
asked_six s r None h = tt
asked_six s r (Some a) h = subst IsSix h (use_six s r.error.name a)

pub six_kinds : (V : RegistrationList) (ss : List Source) → All IsOfUse (script_refusals V ss)
six_kinds V ss = λ k r inside. by (slice_index_or (script_refusals V ss) k r) (asked_again V ss k r inside)
  where
    by : (q : Refused) → IsAskedAgain (scope_over V ss) q → IsOfUse q
    by q h = asked_six (scope_over V ss) q q.asks h
