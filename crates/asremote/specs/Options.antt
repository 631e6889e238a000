-- The command line (docs/FORMATS.md, "The conversation of asremote").
use Rattle.std.specs.Prelude.{◌≡◌, ℕ, Bool, true, List, [], ◌∷◌, Option, Some, None, is_some, ◌&&◌, codes}
use Rattle.std.specs.Option.{option_and_then}
use Rattle.clap.specs.Words.{App, Rule, HasKind, new_app, new_rule, with_rule, matches_of, first_of, one_of, takes}
use Rattle.clap.specs.Simple.{on_top}
use Rattle.clap.specs.declared.builder.action.ArgAction.TheVariants.{SetTrue}
use Rattle.clap.specs.declared.error.Error.{Error}
use Rattle.clap.specs.declared.error.kind.ErrorKind.TheVariants.{DisplayVersion}
use Rattle.asrun_lines.specs.Budget.{within, budget_given}
use Rattle.asrun_lines.specs.Fields.{decimal_of}

-- `--profile` is wanted, the others aren't; `--echo` has no value
abbrev pub profile_rule : Rule
profile_rule = record (new_rule (codes "profile")) { long = Some (codes "profile"); required = true }

abbrev pub drivers_rule : Rule
drivers_rule = record (new_rule (codes "drivers")) { long = Some (codes "drivers") }

abbrev pub budget_rule : Rule
budget_rule = record (new_rule (codes "budget")) { long = Some (codes "budget") }

abbrev pub echo_rule : Rule
echo_rule = record (new_rule (codes "echo")) { long = Some (codes "echo"); action = Some SetTrue }

-- a command with a version, which `--version` and `-V` print
abbrev pub with_version : App → App
with_version = on_top (λ s. record s { has_version = true })

abbrev pub program : App
program = with_rule (with_rule (with_rule (with_rule (with_version (new_app (codes "asremote"))) profile_rule) drivers_rule) budget_rule) echo_rule

-- the value that a line of words gives an option
unfoldable pub given : List ℕ → List (List ℕ) → Option (List ℕ)
given name words = first_of name (matches_of program words)

-- `true` where a line of words has a flag, `false` where it has not
unfoldable pub flag : List ℕ → List (List ℕ) → Option (List ℕ)
flag name words = one_of name (matches_of program words)

-- the number of drivers that a line gives, or 1 where it gives none
unfoldable pub drivers_given : Option (List ℕ) → Option ℕ
drivers_given None = Some 1
drivers_given (Some text) = option_and_then (within 64) (decimal_of 10 text)

-- whether a path is there, a number of drivers and a budget
abbrev pub is_complete : Option (List ℕ) → Option ℕ → Option ℕ → Bool
is_complete profile drivers budget = is_some profile && is_some drivers && is_some budget

-- A line that the command line takes, and that gives a path and, if it gives them, numbers in their ranges.
abbrev pub is_right : List (List ℕ) → Bool
is_right words = takes program words && is_complete (given (codes "profile") words) (drivers_given (given (codes "drivers") words)) (budget_given (given (codes "budget") words))

-- `--version` alone, after the program's name
abbrev pub AsksVersion : List (List ℕ) → Type 0
AsksVersion words = (name : List ℕ) × (words ≡ name ∷ codes "--version" ∷ [])

-- it is the version that is printed in place of a run, unless memory ran out
abbrev pub IsVersion : Error → Type 0
IsVersion = HasKind (DisplayVersion ∷ [])
