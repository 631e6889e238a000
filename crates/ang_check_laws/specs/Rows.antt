-- What a row of the report of denials tells (docs/LANGUAGE.md, "Denials").
use Rattle.std.specs.Prelude.{◌≡◌, ℕ, true, Contains, List}
use Rattle.ang_kinds.specs.declared.error.Denial.{Denial}
use Rattle.ang_types.specs.declared.asks.Asks.{Asks}
use Rattle.ang_types.specs.declared.asks.Refused.{Refused}
use Rattle.ang_view.specs.Hidden.{is_hidden, is_unmet, is_with, seen_with}
use Rattle.ang_view.specs.Registration.{RegistrationList, seen}
use Rattle.ang_names_listed.specs.Sources.{Source}
use Rattle.ang_check_denials.specs.Denials.{means_entry}
use Rattle.ang_check_uses.specs.declared.uses.Resolution.TheVariants as resolution
use Rattle.ang_check_uses.specs.Uses.{resolution_of}
use Rattle.ang_check_contest.specs.Scopes.{Scope}
use Rattle.ang_check.specs.Denials.{scope_over, script_refusals}

-- what a module of mask m sees, and entry x with the types that its declaration names
abbrev pub scope_with : RegistrationList → ℕ → List Source → ℕ → Scope
scope_with R m ss x = record (scope_over (seen R m) ss) { view = seen_with R m x }

-- The row is told of a use that is refused over what the module sees, and that would mean a hidden entry if the module saw that too. It
-- is of this entry or of one that comes with it, whose own mask is not met.
pub record TellsOfUse (R : RegistrationList) (m : ℕ) (ss : List Source) (d : Denial) : Type 0 where
  pub refusal : Refused
  pub asks : Asks
  pub entry : ℕ
  pub listed : Contains (script_refusals (seen R m) ss) refusal
  pub place : d.place ≡ refusal.error.place
  pub refused : resolution_of (scope_over (seen R m) ss) refusal.error.name asks ≡ resolution.Refused refusal.error.kind
  pub hidden : is_hidden R m entry ≡ true
  pub meant : means_entry entry (resolution_of (scope_with R m ss entry) refusal.error.name asks) ≡ true
  pub comes : is_with R entry d.entity.0 ≡ true
  pub unmet : is_unmet R m d.entity.0 ≡ true
