-- The denials of a build (docs/LANGUAGE.md, "Denials"; the AngelScript manual, "Access masks and exposing different interfaces"): for each
-- refused use the hidden entries by which it would have been resolved.
use Rattle.std.specs.Prelude.{◌≡◌, ◌≢◌, ◌<◌, ℕ, Contains, length, Bool, true, is_some, List, [], Option, Some, None}
use Rattle.std.specs.List.{flat_map, list_any}
use Rattle.ang_kinds.specs.declared.error.Denial.{Denial}
use Rattle.ang_kinds.specs.declared.error.Error.{Error}
use Rattle.ang_types.specs.declared.asks.Asks.{Asks}
use Rattle.ang_types.specs.declared.asks.Refused.{Refused}
use Rattle.ang_view.specs.Registration.{RegistrationList, seen}
use Rattle.ang_names_known.specs.declared.names.Names.{Names}
use Rattle.ang_names_known.specs.Items.{list_or}
use Rattle.ang_names_known.specs.Spaces.{ancestors_of}
use Rattle.ang_names_listed.specs.Declarations.{declarations_of}
use Rattle.ang_names.specs.Phases.{refusals_of, errors_in}
use Rattle.ang_names_classes.specs.Resolved.{names_of}
use Rattle.ang_names_listed.specs.Sources.{Source}
use Rattle.ang_check_contest.specs.Scopes.{Scope}
use Rattle.ang_check.specs.Bodies.{body_refusals}
use Rattle.ang_check_denials.specs.Denials.{denied, row, rows_for}

-- ---- what is refused

-- What is refused of these scripts over a view: of the declarations, else of the bodies and initializers.
unfoldable pub script_refusals : RegistrationList → List Source → List Refused
script_refusals V ss = list_or (refusals_of V ss) (body_refusals V (names_of V (declarations_of ss)) ss)

-- The errors of a build over a view: those of `declare`, which then gave no names, or those of `check` over the names that it gave.
abbrev pub AreErrors : RegistrationList → List Source → Option Names → List Error → Type 0
AreErrors V ss None errors = (errors ≡ errors_in (refusals_of V ss)) × (errors ≢ [])
AreErrors V ss (Some names) errors =
    (refusals_of V ss ≡ []) × (names ≡ names_of V (declarations_of ss)) × (errors ≡ errors_in (body_refusals V names ss))

-- what a refused use is asked over; the names are there whatever is refused
abbrev pub scope_of : RegistrationList → Names → Scope
scope_of V names = record { view = V; names = names; ancestors = ancestors_of names }

abbrev pub scope_over : RegistrationList → List Source → Scope
scope_over V ss = scope_of V (names_of V (declarations_of ss))

-- whether some refused use asks for a name where an entry of the host could help
abbrev pub some_ask : List Refused → Bool
some_ask rs = list_any (λ (r : Refused). is_some r.asks) rs

-- ---- the rows

-- The denials of these scripts for a module of mask m, in the order of errors.
unfoldable pub denials_of : RegistrationList → ℕ → List Source → List Denial
denials_of R m ss = flat_map (rows_for R m (scope_over (seen R m) ss)) (script_refusals (seen R m) ss)

-- a row for a refused use of these scripts
abbrev pub IsRowOf : RegistrationList → ℕ → List Source → Denial → Type 0
IsRowOf R m ss d = (r : Refused) × (a : Asks) × (y : ℕ) × Contains (script_refusals (seen R m) ss) r × (r.asks ≡ Some a) × (y < length R)
    × (denied R m (scope_over (seen R m) ss) r a y ≡ true) × (d ≡ row R m r y)
