-- What is taken in by the numbers of its parameters' kinds is what is taken in by its parameters.
use Rattle.std.proofs.Common.{◌≡◌, ℕ, ◌&&◌, Bool, true, false, List, [], ◌∷◌, map, is_some, Option, Some, None, refl, sym, ap, ◌∙◌}
use Rattle.std.specs.Prelude.{slice_get, option_map, option_and_then}
use Rattle.std.proofs.lemmas.Option.{same_Some}
use Rattle.ang_types.specs.declared.arg_type.ArgType.{ArgType}
use Rattle.ang_types.specs.Overloads.{Params}
use Rattle.ang_types.specs.Ranks.{Ancestors}
use Rattle.ang_view.specs.declared.entry.Entry.{Entry as ViewEntry}
use Rattle.ang_view.specs.declared.entry.EntryKind.{EntryKind}
use Rattle.ang_view.specs.declared.entry.EntryKind.TheVariants as entry
use Rattle.ang_view.specs.Named.{is_factory}
use Rattle.ang_view.specs.Registration.{RegistrationList, is_function}
use Rattle.ang_check_contest.specs.declared.host.Wanted.{Wanted}
use Rattle.ang_check_contest.specs.declared.host.Wanted.TheVariants as wanted
use Rattle.ang_names_known.specs.declared.names.ScriptFunction.{ScriptFunction}
use Rattle.ang_check_contest.specs.Host.{host_parameters, host_type, is_method, is_wanted}
use Rattle.ang_names_known.specs.Kinds.{Kind, Says, kinds_at, numbered}
use Rattle.ang_check_contest.specs.EntryKinds.{entry_params, params_by, seen_with}
use Rattle.ang_names_known.specs.Lookup.{parameters_of}
use Rattle.ang_check_uses.specs.declared.hosts.HostCallKind.{HostCallKind}
use Rattle.ang_check_uses.specs.declared.hosts.HostCallKind.TheVariants as usage
use Rattle.ang_check_uses.specs.declared.scripts.FunctionList.{FunctionList}
use Rattle.ang_check_uses.specs.CallableKinds.{function_in}
use Rattle.ang_check_uses.specs.Choosing.{contender_in, function_entry, is_seen, is_used_as, params_as, receiver_as}
use Rattle.ang_check_contest.specs.Contest.{Standing, after, entered}
use Rattle.ang_check_uses.specs.Contenders.{entry_in}
use Rattle.ang_check_uses.specs.Uses.{callable_in}
use Rattle.ang_check_uses.proofs.ChosenLaws.{function_params}

-- ---- functions of the scripts

pub no_function : (list : FunctionList) (fs : List ScriptFunction) (n t : ℕ) (kinds : List Kind) → Says t kinds None (option_map parameters_of (slice_get fs n)) → function_entry list fs n ≡ []
no_function list fs n t kinds says = by (slice_get fs n) says
  where
    by : (o : Option ScriptFunction) → Says t kinds None (option_map parameters_of o) → entry_in (contender_in list n) (callable_in (function_in list) n o) ≡ []
    by None says = refl
    by (Some f) says = cc

pub function_told : (l : Ancestors) (args : List ArgType) (list : FunctionList) (fs : List ScriptFunction) (n t : ℕ) (kinds : List Kind) (row : List ℕ) (old new : Standing)
    → Says t kinds (Some row) (option_map parameters_of (slice_get fs n))
    → ((params : Params) → kinds_at (numbered t kinds) row ≡ map Some params → new ≡ entered l args old (contender_in list n) params)
    → new ≡ after l args old (function_entry list fs n)
function_told l args list fs n t kinds row old new says enters = by (slice_get fs n) says
  where
    by : (o : Option ScriptFunction) → Says t kinds (Some row) (option_map parameters_of o) → new ≡ after l args old (entry_in (contender_in list n) (callable_in (function_in list) n o))
    by None says = cc
    by (Some f) says =
        enters (parameters_of f) (same_Some (kinds_at (numbered t kinds) row) (map Some (parameters_of f)) says)
        ∙ ap (entered l args old (contender_in list n)) (sym (function_params list n f))

-- ---- functions of the host

first_true : (b c : Bool) → (b && c) ≡ true → b ≡ true
first_true true c e = refl
first_true false c e = cc

function_kind : (t : ℕ) (k : EntryKind) (read_only : Bool) (params : Params) → is_function k ≡ true → params_by t k read_only params ≡ Some params
function_kind t entry.HostType read_only params e = cc
function_kind t entry.Factory read_only params e = cc
function_kind t entry.Method read_only params e = cc
function_kind t entry.Property read_only params e = cc
function_kind t entry.Function read_only params e = refl
function_kind t entry.Global read_only params e = cc
function_kind t entry.Enumeration read_only params e = cc
function_kind t (entry.EnumValue v) read_only params e = cc

factory_kind : (t : ℕ) (k : EntryKind) (read_only : Bool) (params : Params) → is_factory k ≡ true → params_by t k read_only params ≡ Some params
factory_kind t entry.HostType read_only params e = cc
factory_kind t entry.Factory read_only params e = refl
factory_kind t entry.Method read_only params e = cc
factory_kind t entry.Property read_only params e = cc
factory_kind t entry.Function read_only params e = cc
factory_kind t entry.Global read_only params e = cc
factory_kind t entry.Enumeration read_only params e = cc
factory_kind t (entry.EnumValue v) read_only params e = cc

method_kind : (t : ℕ) (k : EntryKind) (read_only : Bool) (params : Params) → is_method k ≡ true → params_by t k read_only params ≡ Some (params_as (usage.Method t) read_only params)
method_kind t entry.HostType read_only params e = cc
method_kind t entry.Factory read_only params e = cc
method_kind t entry.Method read_only params e = refl
method_kind t entry.Property read_only params e = cc
method_kind t entry.Function read_only params e = cc
method_kind t entry.Global read_only params e = cc
method_kind t entry.Enumeration read_only params e = cc
method_kind t (entry.EnumValue v) read_only params e = cc

-- what is wanted has the parameters as which it is used
used_params : (u : HostCallKind) (w : Wanted) (x : ViewEntry) (params : Params) → is_used_as u w ≡ true → is_wanted w x ≡ true
    → params_by (receiver_as u) x.kind x.signature.read_only params ≡ Some (params_as u x.signature.read_only params)
used_params usage.Function (wanted.Function name) x params fits want = function_kind 0 x.kind x.signature.read_only params (first_true (is_function x.kind) _ want)
used_params usage.Function (wanted.Factory n) x params fits want = cc
used_params usage.Function (wanted.Method n name) x params fits want = cc
used_params (usage.Maker n) (wanted.Function name) x params fits want = cc
used_params (usage.Maker n) (wanted.Factory m) x params fits want = factory_kind 0 x.kind x.signature.read_only params (first_true (is_factory x.kind) _ want)
used_params (usage.Maker n) (wanted.Method m name) x params fits want = cc
used_params (usage.Method n) (wanted.Function name) x params fits want = cc
used_params (usage.Method n) (wanted.Factory m) x params fits want = cc
used_params (usage.Method n) (wanted.Method m name) x params fits want = method_kind n x.kind x.signature.read_only params (first_true (is_method x.kind) _ want)

module _ (u : HostCallKind) (w : Wanted) (V : RegistrationList) (x : ViewEntry) (kinds : List Kind) (fits : is_used_as u w ≡ true) (want : is_wanted w x ≡ true) where
  abbrev Told : Option ArgType → Option Params → Option Params
  Told r o = option_and_then (params_by (receiver_as u) x.kind x.signature.read_only) (seen_with r o)

  -- where there is no row some type is not seen
  pub not_told : Says (receiver_as u) kinds None (entry_params V (receiver_as u) (Some x)) → is_seen V x ≡ false
  not_told says = by (host_type V x.signature.result) (host_parameters V x.signature.params) says
    where
      by : (r : Option ArgType) (o : Option Params) → Says (receiver_as u) kinds None (Told r o) → (is_some r && is_some o) ≡ false
      by None o says = refl
      by (Some r) None says = refl
      by (Some r) (Some params) says =
          let used : params_by (receiver_as u) x.kind x.signature.read_only params ≡ Some (params_as u x.signature.read_only params) = used_params u w x params fits want in
          let none : None ≡ Some (map Some (params_as u x.signature.read_only params)) = says ∙ ap (option_map (map Some)) used in
          cc

  -- where there is one all types are seen
  pub told_seen : (row : List ℕ) → Says (receiver_as u) kinds (Some row) (entry_params V (receiver_as u) (Some x)) → is_seen V x ≡ true
  told_seen row says = by (host_type V x.signature.result) (host_parameters V x.signature.params) says
    where
      by : (r : Option ArgType) (o : Option Params) → Says (receiver_as u) kinds (Some row) (Told r o) → (is_some r && is_some o) ≡ true
      by None o says = cc
      by (Some r) None says = cc
      by (Some r) (Some params) says = refl

  -- and its numbers are those of the parameters
  pub told_params : (row : List ℕ) (seen : Params) → Says (receiver_as u) kinds (Some row) (entry_params V (receiver_as u) (Some x)) → host_parameters V x.signature.params ≡ Some seen
      → kinds_at (numbered (receiver_as u) kinds) row ≡ map Some (params_as u x.signature.read_only seen)
  told_params row seen says are = by (host_type V x.signature.result) (host_parameters V x.signature.params) says are
    where
      by : (r : Option ArgType) (o : Option Params) → Says (receiver_as u) kinds (Some row) (Told r o) → o ≡ Some seen
          → kinds_at (numbered (receiver_as u) kinds) row ≡ map Some (params_as u x.signature.read_only seen)
      by None o says are = cc
      by (Some r) None says are = cc
      by (Some r) (Some params) says are =
          let used : params_by (receiver_as u) x.kind x.signature.read_only params ≡ Some (params_as u x.signature.read_only params) = used_params u w x params fits want in
          same_Some (kinds_at (numbered (receiver_as u) kinds) row) (map Some (params_as u x.signature.read_only params)) (says ∙ ap (option_map (map Some)) used)
          ∙ ap (λ ps. map Some (params_as u x.signature.read_only ps)) (same_Some params seen are)
