-- The functions, factories and methods of a list as candidates, each made once for all uses.
use Rattle.std.specs.Prelude.{ℕ, Bool, false, List, ◌∷◌, length, map, option_map, Option, Some, None}
use Rattle.ang_kinds.specs.declared.mask.EntityNo.{EntityNo}
use Rattle.ang_kinds.specs.declared.types.Pass.TheVariants as pass
use Rattle.ang_types.specs.declared.arg_type.ArgType.{ArgType}
use Rattle.ang_types.specs.declared.arg_type.ArgType.TheVariants as type
use Rattle.ang_types.specs.declared.candidate.Candidate.{Candidate}
use Rattle.ang_types.specs.Best.{is_best}
use Rattle.ang_types.specs.Overloads.{Params}
use Rattle.ang_types.specs.Ranks.{Ancestors}
use Rattle.ang_view.specs.declared.entry.Entry.{Entry}
use Rattle.ang_view.specs.declared.entry.EntryKind.{EntryKind}
use Rattle.ang_view.specs.declared.entry.EntryKind.TheVariants as entry
use Rattle.ang_view.specs.Hidden.{numbers_of}
use Rattle.ang_view.specs.Registration.{RegistrationList, entry_at}
use Rattle.ang_check_contest.specs.declared.host.SeenFunction.{SeenFunction}
use Rattle.ang_check_contest.specs.declared.host.Wanted.{Wanted}
use Rattle.ang_check_contest.specs.declared.host.Wanted.TheVariants as wanted
use Rattle.ang_check_contest.specs.Host.{found}

-- a function or a factory, and a method with its receiver in front, as candidates
abbrev pub plain : SeenFunction → Candidate
plain f = record { params = f.params }

abbrev pub with_receiver : ℕ → SeenFunction → Candidate
with_receiver n f = record { params = (type.Object n f.read_only, pass.RefInOut) ∷ f.params }

-- what is found of entry x
abbrev pub found_in : RegistrationList → ℕ → Wanted → Option SeenFunction
found_in R x w = found w R x (entry_at R x)

-- a function that is wanted, as a candidate: a method has its receiver in front
abbrev pub candidate_of : Wanted → SeenFunction → Candidate
candidate_of (wanted.Function name) = plain
candidate_of (wanted.Factory n) = plain
candidate_of (wanted.Method n name) = with_receiver n

-- entry n as a candidate, where it is wanted
abbrev pub candidate_in : RegistrationList → ℕ → Wanted → Option Candidate
candidate_in R n w = option_map (candidate_of w) (found_in R n w)

-- ---- an entry as what it can be wanted as

abbrev pub factory_in : RegistrationList → ℕ → Option EntityNo → Option Candidate
factory_in R n None = None
factory_in R n (Some k) = candidate_in R n (wanted.Factory k.0)

abbrev pub method_in : RegistrationList → ℕ → List ℕ → Option EntityNo → Option Candidate
method_in R n name None = None
method_in R n name (Some k) = candidate_in R n (wanted.Method k.0 name)

abbrev pub made_as : RegistrationList → ℕ → List ℕ → Option EntityNo → EntryKind → Option Candidate
made_as R n name owner entry.HostType = None
made_as R n name owner entry.Factory = factory_in R n owner
made_as R n name owner entry.Method = method_in R n name owner
made_as R n name owner entry.Property = None
made_as R n name owner entry.Function = candidate_in R n (wanted.Function name)
made_as R n name owner entry.Global = None
made_as R n name owner entry.Enumeration = None
made_as R n name owner (entry.EnumValue v) = None

abbrev pub made_of : RegistrationList → ℕ → Option Entry → Option Candidate
made_of R n None = None
made_of R n (Some x) = made_as R n x.signature.name x.owner x.kind

-- all entries of a list
unfoldable pub made : RegistrationList → List (Option Candidate)
made R = map (λ n. made_of R n (entry_at R n)) (numbers_of R)

-- ---- their parameters

abbrev pub params_in : Option Candidate → Option Params
params_in c = option_map (λ (k : Candidate). k.params) c

abbrev pub params_made : List (Option Candidate) → List (Option Params)
params_made cs = map params_in cs

-- ---- one of them beside others

-- a candidate would be the best beside some others
abbrev pub is_won : Ancestors → List Candidate → List ArgType → Option Candidate → Bool
is_won ancestors cs args None = false
is_won ancestors cs args (Some c) = is_best ancestors (c ∷ cs) args 0
