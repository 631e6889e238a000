-- What a registry holds (docs/HOST.md, "Registration" and "Groups").
use Rattle.std.specs.Prelude.{ℕ, ◌≤◌, Bool, true, false, List, [], ◌∷◌, All, length}
use Rattle.ang_kinds.specs.declared.mask.Mask.{Mask}
use Rattle.ang_view.specs.declared.group.Group.{Group}
use Rattle.ang_view.specs.Groups.{Grouped}
use Rattle.ang_view.specs.Registration.{RegistrationList}

-- the list, the mask that the next registration gets, and the groups in the order in which they were begun; the last one may be
-- open, that is not ended yet
pub record Registrations : Type 0 where
  pub default_mask : Mask
  pub entries : RegistrationList
  pub groups : List Group
  pub is_open : Bool

-- all but the last one
abbrev pub without_last : List Group → List Group
without_last [] = []
without_last (g ∷ []) = []
without_last (g ∷ h ∷ gs) = g ∷ without_last (h ∷ gs)

-- the groups that were ended
abbrev pub closed_of : Bool → List Group → List Group
closed_of true gs = without_last gs
closed_of false gs = gs

abbrev pub closed : Registrations → List Group
closed r = closed_of r.is_open r.groups

-- the list with these
abbrev pub grouped : Registrations → Grouped
grouped r = record { entries = r.entries; groups = closed r }

-- a group is a range of the list's numbers
abbrev pub IsWithinList : RegistrationList → Group → Type 0
IsWithinList R g = (g.first ≤ g.after) × (g.after ≤ length R)

-- Each group lies within the list, and there are 64 at most.
pub record AreGroups (R : RegistrationList) (gs : List Group) : Type 0 where
  pub within : All (IsWithinList R) gs
  pub few : length gs ≤ 64
