-- Entries of a use's row of which their rivals alone tell whether they help: functions, factories and methods, where the name of the use means the same
-- whichever of them is added.
use Rattle.std.specs.Prelude.{ℕ, ◌≡◌, ◌<◌, ◌==◌, ◌+◌, ◌*◌, Bool, true, false, not, ◌&&◌, ◌||◌, if◌then◌else◌, is_some, IfSome, List, [], ◌∷◌, Option, Some, None, slice_index_or}
use Rattle.ang_types.specs.declared.asks.Asks.{Asks}
use Rattle.ang_types.specs.declared.asks.Asks.TheVariants as asks
use Rattle.ang_types.specs.declared.asks.Refused.{Refused}
use Rattle.ang_types.specs.declared.candidate.Candidate.{Candidate}
use Rattle.ang_types.specs.declared.arg_type.ArgType.{ArgType}
use Rattle.ang_types.specs.Ranks.{Ancestors}
use Rattle.ang_kinds.specs.declared.mask.EntityNo.{EntityNo}
use Rattle.ang_view.specs.declared.entry.Entry.{Entry}
use Rattle.ang_view.specs.declared.entry.EntryKind.{EntryKind}
use Rattle.ang_view.specs.declared.entry.EntryKind.TheVariants as entry
use Rattle.ang_view.specs.Named.{is_factory}
use Rattle.ang_view.specs.Registration.{RegistrationList, entry_at, is_function, is_number}
use Rattle.ang_view.specs.Types.{is_type_named}
use Rattle.ang_names_known.specs.declared.space.Named.{Named}
use Rattle.ang_names_known.specs.KindRows.{row_at}
use Rattle.ang_names_known.specs.Kinds.{Kind, Rows, Says, numbered}
use Rattle.ang_names_known.specs.Spaces.{family_of_type}
use Rattle.ang_check_contest.specs.declared.rivalry.Rivalry.{Rivalry}
use Rattle.ang_check_contest.specs.Host.{is_method}
use Rattle.ang_check_contest.specs.Scopes.{Scope}
use Rattle.ang_check_uses.specs.Uses.{candidates_of, functions_of, host_methods}
use Rattle.ang_check_added.specs.Verdicts.{Judge, verdicts_in}
use Rattle.ang_check_denials.specs.declared.told.Sought.{Sought}
use Rattle.ang_check_denials.specs.declared.told.Sought.TheVariants as sought
use Rattle.ang_check_denials.specs.declared.told.Told.{Told}
use Rattle.ang_check_denials.specs.Added.{factories, types_of}
use Rattle.ang_check_denials.specs.Denials.{helps, is_known}
use Rattle.ang_check_added.specs.declared.kind_sets.KindSets.{KindSets}
use Rattle.ang_check_added.specs.Made.{is_won, made, params_in}
use Rattle.ang_check_added.specs.declared.sets.EntrySet.{EntrySet}
use Rattle.ang_check_added.specs.Sets.{AreSets, has}
use Rattle.ang_check_denials.specs.Names.{is_hidden_named, name_sought}

-- an entry is one of those
abbrev pub is_sought : Sought → Option Entry → Bool
is_sought sought.Functions None = false
is_sought sought.Functions (Some y) = is_function y.kind
is_sought (sought.Factories n) None = false
is_sought (sought.Factories n) (Some y) = is_factory y.kind && is_number n y.owner
is_sought (sought.Methods n) None = false
is_sought (sought.Methods n) (Some y) = is_method y.kind && is_number n y.owner

-- which of those an entry is of, told by its kind and its owner
abbrev pub owned : (ℕ → Sought) → Option EntityNo → Option Sought
owned f None = None
owned f (Some k) = Some (f k.0)

abbrev pub sort_by : EntryKind → Option EntityNo → Option Sought
sort_by entry.HostType o = None
sort_by entry.Factory o = owned sought.Factories o
sort_by entry.Method o = owned sought.Methods o
sort_by entry.Property o = None
sort_by entry.Function o = Some sought.Functions
sort_by entry.Global o = None
sort_by entry.Enumeration o = None
sort_by (entry.EnumValue v) o = None

abbrev pub sort_of : Option Entry → Option Sought
sort_of None = None
sort_of (Some y) = sort_by y.kind y.owner

-- the number of a sort: no two have the same
abbrev pub key_of : Option Sought → ℕ
key_of None = 3
key_of (Some sought.Functions) = 0
key_of (Some (sought.Factories n)) = 4 * n + 1
key_of (Some (sought.Methods n)) = 4 * n + 2

abbrev pub sort_key : Option Entry → ℕ
sort_key o = key_of (sort_of o)

-- the candidates that are seen of the same name or type
abbrev pub rivals_for : Scope → List ℕ → Sought → List Candidate
rivals_for s name sought.Functions = candidates_of (functions_of s name)
rivals_for s name (sought.Factories n) = factories s.view n
rivals_for s name (sought.Methods n) = candidates_of (host_methods s.view n name)

-- ---- of which they are told

-- type n, the first of a name, is what the name means where a factory of it is added, and `made` is its number
abbrev pub makes : RegistrationList → List ℕ → Bool → ℕ → Named → ℕ → Bool
makes R name taken made family n =
    (not taken && not (is_known family)) && (((n == made) && not (is_some (family_of_type n))) && is_type_named name (entry_at R n))

-- by a call of a name, of which these are the types: functions where there are none, else factories of the first
abbrev pub called_for : RegistrationList → List ℕ → Bool → Bool → ℕ → Named → List ℕ → Option Sought
called_for R name joined taken made family [] = if not (is_known family) && (joined || not taken) then Some sought.Functions else None
called_for R name joined taken made family (n ∷ ns) = if makes R name taken made family n then Some (sought.Factories n) else None

abbrev pub sought_for : RegistrationList → List ℕ → Bool → Bool → ℕ → Named → List ℕ → Asks → Option Sought
sought_for R name joined taken made family ns asks.Value = None
sought_for R name joined taken made family ns asks.Type = None
sought_for R name joined taken made family ns asks.Enumeration = None
sought_for R name joined taken made family ns (asks.Call args) = called_for R name joined taken made family ns
sought_for R name joined taken made family ns (asks.Make n args) = if not taken then Some (sought.Factories n) else None
sought_for R name joined taken made family ns (asks.Default n) = if not taken then Some (sought.Factories n) else None
sought_for R name joined taken made family ns (asks.Property n) = None
sought_for R name joined taken made family ns (asks.Method n c args) = Some (sought.Methods n)

-- what is kept of their rivals: where factories are called, those of the type that the name means
abbrev pub called_rivals : Rivalry → Rivalry → Sought → Rivalry
called_rivals rivals makers sought.Functions = rivals
called_rivals rivals makers (sought.Factories n) = makers
called_rivals rivals makers (sought.Methods n) = rivals

abbrev pub rivals_kept : Rivalry → Rivalry → Sought → Asks → Rivalry
rivals_kept rivals makers q asks.Value = rivals
rivals_kept rivals makers q asks.Type = rivals
rivals_kept rivals makers q asks.Enumeration = rivals
rivals_kept rivals makers q (asks.Call args) = called_rivals rivals makers q
rivals_kept rivals makers q (asks.Make n args) = rivals
rivals_kept rivals makers q (asks.Default n) = rivals
rivals_kept rivals makers q (asks.Property n) = rivals
rivals_kept rivals makers q (asks.Method n c args) = rivals

-- ---- sets of the candidates

-- these are sets of a list's candidates: those of rows that say the kinds of their parameters by number
pub record AreCandidateSets (R : RegistrationList) (kinds : List Kind) (sets : KindSets) : Type 0 where
  pub rows : Rows
  pub are : AreSets rows sets
  pub says : (n : ℕ) → Says 0 kinds (row_at rows n) (params_in (slice_index_or (made R) n None))

-- in a set are just the entries that are the best of all beside these others
abbrev pub AreWinners : RegistrationList → Ancestors → List Candidate → List ArgType → EntrySet → Type 0
AreWinners R l cs args set = (x : ℕ) → has set.words x ≡ is_won l cs args (slice_index_or (made R) x None)

-- ---- what is told

-- of those that are sought, in the row of the use, just those help that are the best of all
abbrev pub Tells : RegistrationList → ℕ → Scope → Refused → Asks → Sought → Type 0
Tells R m s r a q =
    (x : ℕ) → x < 1024 → is_hidden_named R m (name_sought R r.error.name a) x ≡ true → is_sought q (entry_at R x) ≡ true
    → is_won s.ancestors (rivals_for s r.error.name q) (types_of a) (slice_index_or (made R) x None) ≡ helps R m s r a x

pub record IsTold (R : RegistrationList) (m : ℕ) (kinds : List Kind) (s : Scope) (r : Refused) (a : Asks) (t : Told) : Type 0 where
  pub tells : Tells R m s r a t.sought
  pub judge : Judge s.ancestors (numbered 0 kinds) (rivals_for s r.error.name t.sought) (types_of a) (verdicts_in t.verdicts.rows.items) t.verdicts.ahead
  pub winners : IfSome t.winners (AreWinners R s.ancestors (rivals_for s r.error.name t.sought) (types_of a))

-- entry x helps, as it is told of those that are sought
abbrev pub chosen : RegistrationList → ℕ → Scope → Refused → Asks → Sought → ℕ → Bool
chosen R m s r a q x =
    if is_sought q (entry_at R x) then is_won s.ancestors (rivals_for s r.error.name q) (types_of a) (slice_index_or (made R) x None) else helps R m s r a x
