-- The phases of a build over the declarations (docs/LANGUAGE.md, "Names of a build"; they are this profile's own): each is a
-- property of the list of all declarations, and the first that refuses one decides.
use Rattle.std.specs.Prelude.{◌≡◌, ◌≢◌, ℕ, length, List, [], ◌∷◌, map, Option, None, slice_get, option_and_then}
use Rattle.ang_kinds.specs.declared.error.Error.{Error}
use Rattle.ang_kinds.specs.declared.error.Unbuilt.{Unbuilt}
use Rattle.ang_kinds.specs.declared.error.Unbuilt.TheVariants.{Errors, Memory}
use Rattle.ang_view.specs.Registration.{RegistrationList}
use Rattle.ang_types.specs.declared.asks.Refused.{Refused}
use Rattle.ang_names_known.specs.declared.names.Family.{Family}
use Rattle.ang_names_known.specs.Items.{list_or}
use Rattle.ang_names_listed.specs.declared.listed.ListedDeclaration.{ListedDeclaration}
use Rattle.ang_names_listed.specs.declared.listed.Part.{Part}
use Rattle.ang_names_listed.specs.declared.listed.Part.TheVariants as part
use Rattle.ang_names_listed.specs.Declarations.{declarations_of, families_of}
use Rattle.ang_names_listed.specs.Taken.{name_refusal, each_refused}
use Rattle.ang_names.specs.Heirs.{ancestor_refusal, heir_refusal, cycle_refusal}
use Rattle.ang_names.specs.Refusals.{type_refusal}
use Rattle.ang_names_classes.specs.Resolved.{families_in, space_of_declared}
use Rattle.ang_names_listed.specs.Sources.{Source}

-- The phases, each of which looks at all declarations:
pub data Phase : Type 0 where
  -- whether the declaration's name is free, and one of few enough
  Names : Phase
  -- whether its types and bases are known and can stand where they stand, and whether its members' names are free
  Types : Phase
  -- whether a class or an interface stands above itself
  Ancestors : Phase
  -- whether its members fit with what it inherits
  Heirs : Phase
  -- whether a class reaches itself through its fields
  Cycles : Phase

-- ---- of one family, by its number

-- what a phase says of a class or an interface; of any other declaration it says nothing
abbrev pub of_family : (ℕ → Family → Option Refused) → List Family → List ListedDeclaration → Part → Option Refused
of_family p fs before (part.Family s) = let c = length (families_of before) in option_and_then (p c) (slice_get fs c)
of_family p fs before _ = None

-- Among all declarations, over a view:
module _ (V : RegistrationList) (all : List ListedDeclaration) where
  abbrev pub families : List Family
  families = families_in (space_of_declared V all) all

  -- why a phase refuses a declaration, after those before it
  abbrev pub refusal : Phase → List ListedDeclaration → ListedDeclaration → Option Refused
  refusal Names before d = name_refusal V before d
  refusal Types before d = type_refusal (space_of_declared V all) all d
  refusal Ancestors before d = of_family (ancestor_refusal (families_of all)) families before d.part
  refusal Heirs before d = of_family (heir_refusal families) families before d.part
  refusal Cycles before d = of_family (cycle_refusal (space_of_declared V all) (families_of all)) families before d.part

  -- each declaration's refusal, in their order
  abbrev pub refusals : Phase → List Refused
  refusals p = each_refused (refusal p) all

  -- the refusals of the first phase that has some
  abbrev pub first_refusals : List Phase → List Refused
  first_refusals [] = []
  first_refusals (p ∷ ps) = list_or (refusals p) (first_refusals ps)

-- the phases, in order
abbrev pub all_phases : List Phase
all_phases = Names ∷ Types ∷ Ancestors ∷ Heirs ∷ Cycles ∷ []

-- What is refused of the declarations of these sections over what the module sees: none where each phase accepts each of them.
unfoldable pub refusals_of : RegistrationList → List Source → List Refused
refusals_of V ss = first_refusals V (declarations_of ss) all_phases

abbrev pub errors_in : List Refused → List Error
errors_in rs = map (λ (r : Refused). r.error) rs

-- what is refused: these errors, of which there is one at least, or memory was short
abbrev pub IsRefused : Unbuilt → List Error → Type 0
IsRefused (Errors es) found = (es ≡ found) × (found ≢ [])
IsRefused Memory found = Unit {0}
