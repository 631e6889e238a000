-- The command line (docs/HOST.md, "The program").
use Rattle.std.specs.Prelude.{◌≡◌, ℕ, Bool, true, List, [], ◌∷◌, Option, Some, is_some, ◌&&◌, codes}
use Rattle.clap.specs.Words.{App, Rule, HasKind, new_app, new_rule, with_rule, matches_of, first_of, one_of, takes}
use Rattle.clap.specs.Simple.{on_top}
use Rattle.clap.specs.declared.builder.action.ArgAction.TheVariants.{SetTrue}
use Rattle.clap.specs.declared.error.Error.{Error}
use Rattle.clap.specs.declared.error.kind.ErrorKind.TheVariants.{DisplayVersion}
use Rattle.asrun_lines.specs.Budget.{budget_given}

-- `--profile` and `--session` are wanted, the others aren't; `--trace` has no value
abbrev pub profile_rule : Rule
profile_rule = record (new_rule (codes "profile")) { long = Some (codes "profile"); required = true }

abbrev pub session_rule : Rule
session_rule = record (new_rule (codes "session")) { long = Some (codes "session"); required = true }

abbrev pub budget_rule : Rule
budget_rule = record (new_rule (codes "budget")) { long = Some (codes "budget") }

abbrev pub trace_rule : Rule
trace_rule = record (new_rule (codes "trace")) { long = Some (codes "trace"); action = Some SetTrue }

-- a command with a version, which `--version` and `-V` print
abbrev pub with_version : App → App
with_version = on_top (λ s. record s { has_version = true })

abbrev pub program : App
program = with_rule (with_rule (with_rule (with_rule (with_version (new_app (codes "asrun"))) profile_rule) session_rule) budget_rule) trace_rule

-- the value that a line of words gives an option
unfoldable pub given : List ℕ → List (List ℕ) → Option (List ℕ)
given name words = first_of name (matches_of program words)

-- `true` where a line of words has a flag, `false` where it has not
unfoldable pub flag : List ℕ → List (List ℕ) → Option (List ℕ)
flag name words = one_of name (matches_of program words)

-- whether both paths are there, and a budget that is one
abbrev pub is_complete : Option (List ℕ) → Option (List ℕ) → Option ℕ → Bool
is_complete profile session budget = is_some profile && is_some session && is_some budget

-- A line that the command line takes, and that gives both paths and, if it gives a budget, one in the range.
abbrev pub is_right : List (List ℕ) → Bool
is_right words = takes program words && is_complete (given (codes "profile") words) (given (codes "session") words) (budget_given (given (codes "budget") words))

-- `--version` alone, after the program's name
abbrev pub AsksVersion : List (List ℕ) → Type 0
AsksVersion words = (name : List ℕ) × (words ≡ name ∷ codes "--version" ∷ [])

-- it is the version that is printed in place of a run, unless memory ran out
abbrev pub IsVersion : Error → Type 0
IsVersion = HasKind (DisplayVersion ∷ [])
