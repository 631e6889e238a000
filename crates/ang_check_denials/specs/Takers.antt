-- Which entries a use can mean by its arguments alone, whatever else is seen.
use Rattle.std.specs.Prelude.{ℕ, Bool, true, ◌||◌, List, [], ◌∷◌, None, Option, slice_index_or}
use Rattle.ang_types.specs.declared.arg_type.ArgType.TheVariants.{Object}
use Rattle.ang_types.specs.declared.asks.Asks.{Asks}
use Rattle.ang_types.specs.declared.asks.Asks.TheVariants as asks
use Rattle.ang_types.specs.declared.candidate.Candidate.{Candidate}
use Rattle.ang_types.specs.Ranks.{Ancestors}
use Rattle.ang_view.specs.Registration.{RegistrationList}
use Rattle.ang_check_uses.specs.Uses.{takes_number}
use Rattle.ang_check_added.specs.Made.{is_won, made}

-- An entry that is this candidate would be the best if it were alone. A call of an enumeration's name takes a number.
abbrev pub can_mean : Ancestors → Asks → Option Candidate → Bool
can_mean ancestors asks.Value c = true
can_mean ancestors asks.Type c = true
can_mean ancestors asks.Enumeration c = true
can_mean ancestors (asks.Call args) c = takes_number args || is_won ancestors [] args c
can_mean ancestors (asks.Make n args) c = is_won ancestors [] args c
can_mean ancestors (asks.Default n) c = is_won ancestors [] [] c
can_mean ancestors (asks.Property n) c = true
can_mean ancestors (asks.Method n read_only args) c = is_won ancestors [] (Object n read_only ∷ args) c

-- entry x of a list
abbrev pub can_mean_at : RegistrationList → Ancestors → Asks → ℕ → Bool
can_mean_at R ancestors a x = can_mean ancestors a (slice_index_or (made R) x None)
