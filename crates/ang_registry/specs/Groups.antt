-- When a group can't be begun, ended or removed, and what each call leaves (docs/HOST.md, "Groups"; the AngelScript manual, "Dynamic
-- configurations").
use Rattle.std.specs.Prelude.{ℕ, true, false, not, nat_le, List, [], ◌∷◌, ◌++◌, length, Option, Some, None, if◌then◌else◌}
use Rattle.std.specs.List.{list_any, remove}
use Rattle.ang_lex.specs.Spelling.{is_identifier}
use Rattle.ang_view.specs.declared.group.Group.{Group}
use Rattle.ang_view.specs.Groups.{group_named, is_called, is_named_outside, left_outside, without_name}
use Rattle.ang_view.specs.Only.{only}
use Rattle.ang_registry.specs.declared.error.GroupError.{GroupError}
use Rattle.ang_registry.specs.declared.error.GroupError.TheVariants.{GroupOpen, BadName, Duplicate, Limit, NoGroup, InUse}
use Rattle.ang_registry.specs.Registrations.{Registrations, grouped}
use Rattle.ang_registry.specs.Refusals.{first_row}

-- ---- to begin one

unfoldable pub refusal_of_begin : Registrations → List ℕ → Option GroupError
refusal_of_begin r name = first_row (
    (r.is_open, GroupOpen) ∷
    (not (is_identifier name), BadName) ∷
    (list_any (is_called name) r.groups, Duplicate) ∷
    (nat_le 64 (length r.groups), Limit) ∷
    [])

-- what is registered next belongs to it
abbrev pub with_opened : Registrations → List ℕ → Registrations
with_opened r name = record r {
  groups = r.groups ++ (record { name = name; first = length r.entries; after = length r.entries }) ∷ [];
  is_open = true;
}

-- ---- to end one

abbrev pub refusal_of_end : Registrations → Option GroupError
refusal_of_end r = if r.is_open then None else Some NoGroup

-- the last one, up to this number
abbrev pub ended_at : ℕ → List Group → List Group
ended_at n [] = []
ended_at n (g ∷ []) = record g { after = n } ∷ []
ended_at n (g ∷ h ∷ gs) = g ∷ ended_at n (h ∷ gs)

abbrev pub with_ended : Registrations → Registrations
with_ended r = record r { groups = ended_at (length r.entries) r.groups; is_open = false }

-- what is there where an open group is ended, and where none is open
abbrev pub all_ended : Registrations → Registrations
all_ended r = if r.is_open then with_ended r else r

-- ---- to remove one

abbrev pub removal_row : Registrations → Option Group → Option GroupError
removal_row r None = Some NoGroup
removal_row r (Some g) = if is_named_outside r.entries g then Some InUse else None

-- one that was ended, of which nothing outside names a type
abbrev pub refusal_of_removal : Registrations → List ℕ → Option GroupError
refusal_of_removal r name = removal_row r (group_named name (grouped r))

-- Its entries are blanks, and it is none any more: no other entry and no other group changes.
abbrev pub with_removed : Registrations → Group → Registrations
with_removed r g = record r {
  entries = only (left_outside g) r.entries;
  groups = without_name g.name r.groups;
}

-- the same, of the group at a place
abbrev pub with_removed_at : Registrations → Group → ℕ → Registrations
with_removed_at r g place = record r {
  entries = only (left_outside g) r.entries;
  groups = remove r.groups place;
}

abbrev pub where_found : Registrations → Option Group → Registrations
where_found r None = r
where_found r (Some g) = with_removed r g

abbrev pub without : Registrations → List ℕ → Registrations
without r name = where_found r (group_named name (grouped r))
