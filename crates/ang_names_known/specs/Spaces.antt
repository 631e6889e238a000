-- The types that a name can mean: the classes and interfaces of the scripts, and the object types and enumerations that the module sees
-- of the host (docs/LANGUAGE.md, "Names of a build"; the AngelScript manual, "Data types"). No number moves as a view grows.
use Rattle.std.specs.Prelude.{ℕ, ◌+◌, ◌-◌, ◌≤◌, ◌<◌, nat_lt, Bool, not, if◌then◌else◌, List, [], ◌++◌, All, map, length, replicate, Option, Some, None, bytes_eq}
use Rattle.std.specs.List.{position}
use Rattle.ang_view.specs.Registration.{RegistrationList}
use Rattle.ang_view.specs.Types.{enumeration_named, type_named}
use Rattle.ang_types.specs.Ranks.{Ancestors}
use Rattle.ang_names_known.specs.declared.names.Family.{Family}
use Rattle.ang_names_known.specs.declared.names.Names.{Names}
use Rattle.ang_names_known.specs.declared.space.FamilyNames.{FamilyNames}
use Rattle.ang_names_known.specs.declared.space.FamilyNames.TheVariants as listing
use Rattle.ang_names_known.specs.declared.space.Named.{Named}
use Rattle.ang_names_known.specs.declared.space.Named.TheVariants as named

-- a view, and the names of the scripts' families in the order of their numbers
pub record Space : Type 0 where
  pub view : RegistrationList
  pub families : List (List ℕ)

abbrev pub family_names : FamilyNames → List (List ℕ)
family_names (listing.Listed names) = names.items
family_names (listing.Known names) = map (λ (f : Family). f.name) names.now.families

-- the number of the first family as a type, which is above those of all entries
abbrev pub first_family : ℕ
first_family = 1024

abbrev pub family_type : ℕ → ℕ
family_type c = first_family + c

abbrev pub is_family_type : ℕ → Bool
is_family_type n = not (nat_lt n first_family)

-- the family of a type's number
abbrev pub family_of_type : ℕ → Option ℕ
family_of_type n = if nat_lt n first_family then None else Some (n - first_family)

-- the type of a name that is a family's, or else a host type's, or else an enumeration's
abbrev pub family_or_host : Option ℕ → Option ℕ → Option ℕ → Named
family_or_host (Some c) host enumeration = named.Object (family_type c)
family_or_host None (Some n) enumeration = named.Object n
family_or_host None None (Some n) = named.Enumeration n
family_or_host None None None = named.Unknown

-- The type that a name means. A name that the script declares is the script's, whatever the view has.
unfoldable pub type_of_name : Space → List ℕ → Named
type_of_name E name =
    family_or_host (position (bytes_eq name) E.families) (type_named E.view name) (enumeration_named E.view name)

abbrev pub space_of_names : RegistrationList → Names → Space
space_of_names V names = record { view = V; families = map (λ (f : Family). f.name) names.families }

-- ---- how many there are

-- the most classes and interfaces that a module can have
abbrev pub most_families : ℕ
most_families = 256

-- Families are few enough for each to have a number as a type, and all that stands above one is among them.
pub record AreFamilies (fs : List Family) : Type 0 where
  pub few : length fs ≤ most_families
  pub above : All (λ (f : Family). All (λ k. k < length fs) f.above) fs

-- ---- what stands above each object type

-- Nothing stands above a host type.
unfoldable pub ancestors_of : Names → Ancestors
ancestors_of names = replicate first_family [] ++ map (λ (f : Family). map family_type f.above) names.families
