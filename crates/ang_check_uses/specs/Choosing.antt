-- What a call can mean, by contenders: for each use which contenders there are, and what one of them names.
use Rattle.std.specs.Prelude.{ℕ, Bool, true, false, if◌then◌else◌, ◌&&◌, is_some, List, [], ◌∷◌, ◌++◌, ◌+◌, map, slice_get, Option, Some, None, option_map}
use Rattle.ang_kinds.specs.declared.mask.EntityNo.{EntityNo}
use Rattle.ang_types.specs.Overloads.{Params}
use Rattle.ang_view.specs.declared.entry.Entry.{Entry as ViewEntry}
use Rattle.ang_view.specs.Named.{find, owned}
use Rattle.ang_view.specs.Registration.{RegistrationList, entry_at}
use Rattle.ang_check_contest.specs.declared.host.Wanted.{Wanted}
use Rattle.ang_check_contest.specs.declared.host.Wanted.TheVariants as wanted
use Rattle.ang_names_known.specs.declared.names.Family.{Family}
use Rattle.ang_names_known.specs.declared.names.ScriptConstructor.{ScriptConstructor}
use Rattle.ang_names_known.specs.declared.names.ScriptFunction.{ScriptFunction}
use Rattle.ang_names_known.specs.Known.{KnownFunctions}
use Rattle.ang_check_contest.specs.Host.{found, host_type, host_parameters}
use Rattle.ang_names_known.specs.Lookup.{functions_named as numbers_named, parameters_of}
use Rattle.ang_check_uses.specs.declared.hosts.HostCallKind.{HostCallKind}
use Rattle.ang_check_uses.specs.declared.hosts.HostCallKind.TheVariants as usage
use Rattle.ang_check_contest.specs.declared.score.Contender.{Contender}
use Rattle.ang_check_contest.specs.declared.score.Contender.TheVariants as contender
use Rattle.ang_check_uses.specs.declared.scripts.FunctionList.{FunctionList}
use Rattle.ang_check_uses.specs.declared.scripts.FunctionList.TheVariants as declared
use Rattle.ang_check_uses.specs.declared.uses.Callable.{Callable}
use Rattle.ang_check_uses.specs.CallableKinds.{function_in, host_callable_as, with_receiver}
use Rattle.ang_check_contest.specs.Contest.{Entry}
use Rattle.ang_check_uses.specs.Contenders.{entry_in}
use Rattle.ang_check_uses.specs.Uses.{callable_in, constructor_of, own_function, imported_function}
use Rattle.ang_check_contest.specs.Scopes.{Scope}

-- ---- functions of the scripts

abbrev pub contender_in : FunctionList → ℕ → Contender
contender_in declared.Functions n = contender.Function n
contender_in declared.Imports n = contender.Import n

abbrev pub function_entry : FunctionList → List ScriptFunction → ℕ → List Entry
function_entry list functions n = entry_in (contender_in list n) (callable_in (function_in list) n (slice_get functions n))

-- those of a list
abbrev pub functions_in : FunctionList → KnownFunctions → List ScriptFunction
functions_in declared.Functions k = k.functions
functions_in declared.Imports k = k.imports

-- ---- functions of the host

-- what is wanted is called so
abbrev pub is_used_as : HostCallKind → Wanted → Bool
is_used_as usage.Function (wanted.Function name) = true
is_used_as usage.Function (wanted.Factory n) = false
is_used_as usage.Function (wanted.Method n name) = false
is_used_as (usage.Maker n) (wanted.Function name) = false
is_used_as (usage.Maker n) (wanted.Factory m) = true
is_used_as (usage.Maker n) (wanted.Method m name) = false
is_used_as (usage.Method n) (wanted.Function name) = false
is_used_as (usage.Method n) (wanted.Factory m) = false
is_used_as (usage.Method n) (wanted.Method m name) = true

-- the number of the receiver's type, where there is one
abbrev pub receiver_as : HostCallKind → ℕ
receiver_as usage.Function = 0
receiver_as (usage.Maker n) = 0
receiver_as (usage.Method n) = n

-- all types of an entry are seen
abbrev pub is_seen : RegistrationList → ViewEntry → Bool
is_seen V x = is_some (host_type V x.signature.result) && is_some (host_parameters V x.signature.params)

-- the parameters of an entry's function, with those of its signature
abbrev pub params_as : HostCallKind → Bool → Params → Params
params_as usage.Function read_only params = params
params_as (usage.Maker n) read_only params = params
params_as (usage.Method n) read_only params = with_receiver n read_only params

abbrev pub entry_named : HostCallKind → Wanted → RegistrationList → EntityNo → Option Callable
entry_named u w V e = option_map (host_callable_as u) (found w V e.0 (entry_at V e.0))

abbrev pub host_entry : HostCallKind → Wanted → RegistrationList → EntityNo → List Entry
host_entry u w V e = entry_in (contender.Entry e) (entry_named u w V e)

abbrev pub host_by : HostCallKind → Wanted → RegistrationList → Contender → Option Callable
host_by u w V (contender.Function n) = None
host_by u w V (contender.Import n) = None
host_by u w V (contender.Entry e) = entry_named u w V e
host_by u w V (contender.Constructor k) = None
host_by u w V (contender.Method k) = None

abbrev pub entity : ℕ → Contender
entity n = contender.Entry (record { 0 = n })

-- ---- a bare call

abbrev pub function_by : Scope → List ℕ → Contender → Option Callable
function_by s name (contender.Function n) = callable_in own_function n (slice_get s.names.functions n)
function_by s name (contender.Import n) = callable_in imported_function n (slice_get s.names.imports n)
function_by s name (contender.Entry e) = entry_named usage.Function (wanted.Function name) s.view e
function_by s name (contender.Constructor k) = None
function_by s name (contender.Method k) = None

abbrev pub functions_named : Scope → List ℕ → List Contender
functions_named s name =
    map contender.Function (numbers_named s.names.functions name)
    ++ (map contender.Import (numbers_named s.names.imports name) ++ map entity (find s.view name))

-- ---- a method of the host

abbrev pub method_by : RegistrationList → ℕ → List ℕ → Contender → Option Callable
method_by V n name = host_by (usage.Method n) (wanted.Method n name) V

abbrev pub methods_named : RegistrationList → ℕ → List ℕ → List Contender
methods_named V n name = map entity (owned V n name)

-- ---- constructors of a class

abbrev pub constructors_in : Option Family → List ScriptConstructor
constructors_in None = []
constructors_in (Some f) = if f.is_class then f.constructors else []

-- from place n on
abbrev pub constructor_entries : ℕ → List ScriptConstructor → List Entry
constructor_entries n [] = []
constructor_entries n (k ∷ ks) = record { contender = contender.Constructor n; params = parameters_of k.function } ∷ constructor_entries (n + 1) ks

abbrev pub constructor_in : ℕ → Option ScriptConstructor → Option Callable
constructor_in c None = None
constructor_in c (Some k) = Some (constructor_of c k)

abbrev pub constructor_by : ℕ → List ScriptConstructor → Contender → Option Callable
constructor_by c ks (contender.Function n) = None
constructor_by c ks (contender.Import n) = None
constructor_by c ks (contender.Entry e) = None
constructor_by c ks (contender.Constructor n) = constructor_in c (slice_get ks n)
constructor_by c ks (contender.Method n) = None
