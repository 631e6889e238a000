-- The kinds of the parameters of what a module sees of the host, by number.
use Rattle.std.specs.Prelude.{ℕ, ◌≡◌, Bool, true, false, List, [], ◌∷◌, ◌++◌, map, if◌then◌else◌, Option, Some, None, option_map, option_and_then}
use Rattle.ang_types.specs.declared.arg_type.ArgType.{ArgType}
use Rattle.ang_types.specs.Overloads.{Params}
use Rattle.ang_view.specs.declared.entry.Entry.{Entry}
use Rattle.ang_view.specs.declared.entry.EntryKind.{EntryKind}
use Rattle.ang_view.specs.declared.entry.EntryKind.TheVariants as entry
use Rattle.ang_view.specs.Registration.{RegistrationList}
use Rattle.ang_names_known.specs.Kinds.{Kind, kinds_at, receiver, receiver_number}
use Rattle.ang_check_contest.specs.Host.{host_parameters, host_type}

-- what a module sees of the host, and the kinds of all parameters there
pub record KnownEntries : Type 0 where
  pub view : RegistrationList
  pub kinds : List Kind

-- ---- of what there are rows

-- of a function or factory of the host its parameters, of a method with its receiver in front, and of nothing else any
abbrev pub params_by : ℕ → EntryKind → Bool → Params → Option Params
params_by t entry.HostType read_only params = None
params_by t entry.Factory read_only params = Some params
params_by t entry.Method read_only params = Some (receiver t read_only ∷ params)
params_by t entry.Property read_only params = None
params_by t entry.Function read_only params = Some params
params_by t entry.Global read_only params = None
params_by t entry.Enumeration read_only params = None
params_by t (entry.EnumValue v) read_only params = None

-- parameters, where the type of the result is seen too
abbrev pub seen_with : Option ArgType → Option Params → Option Params
seen_with None params = None
seen_with (Some t) params = params

-- those of an entry that can be called and of which all types are seen
abbrev pub entry_params : RegistrationList → ℕ → Option Entry → Option Params
entry_params V t None = None
entry_params V t (Some x) =
    option_and_then (params_by t x.kind x.signature.read_only) (seen_with (host_type V x.signature.result) (host_parameters V x.signature.params))

abbrev pub view_params : RegistrationList → ℕ → List (Option Params)
view_params V t = map (entry_params V t) V

-- parameters in front of those that follow, if there are any
abbrev pub after : Params → Option Params → Option Params
after front None = None
after front (Some params) = Some (front ++ params)

-- a row, where all of it is there
abbrev pub row_if : Bool → List ℕ → Option (List ℕ)
row_if all ns = if all then Some ns else None

-- the number of an entry's receiver, if it has one; none of what can't be called
abbrev pub receiver_row : EntryKind → Bool → Option (List ℕ)
receiver_row entry.HostType read_only = None
receiver_row entry.Factory read_only = Some []
receiver_row entry.Method read_only = Some (receiver_number read_only ∷ [])
receiver_row entry.Property read_only = None
receiver_row entry.Function read_only = Some []
receiver_row entry.Global read_only = None
receiver_row entry.Enumeration read_only = None
receiver_row (entry.EnumValue v) read_only = None

-- these numbers are those of the kinds of parameters, or there are none of these
abbrev pub SaysIf : Bool → List Kind → List ℕ → Option Params → Type 0
SaysIf all kinds ns params = option_map (kinds_at kinds) (row_if all ns) ≡ option_map (map Some) params
