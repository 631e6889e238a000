-- A registration list with groups of entries (docs/HOST.md, "Groups"; the AngelScript manual, "Dynamic configurations"): what was
-- registered while a group was open belongs to it, so that its numbers stand side by side.
use Rattle.std.specs.Prelude.{ℕ, Bool, false, not, ◌&&◌, nat_le, nat_lt, List, [], ◌∷◌, find, Option, Some, None, bytes_eq, if◌then◌else◌}
use Rattle.std.specs.List.{list_any}
use Rattle.ang_view.specs.declared.entry.Entry.{Entry}
use Rattle.ang_view.specs.declared.group.Group.{Group}
use Rattle.ang_view.specs.Hidden.{numbers_of}
use Rattle.ang_view.specs.Only.{only}
use Rattle.ang_view.specs.Registration.{RegistrationList, entry_at, named}

-- the entries, with the groups in the order in which they were closed
pub record Grouped : Type 0 where
  pub entries : RegistrationList
  pub groups : List Group

abbrev pub is_in : Group → ℕ → Bool
is_in g n = nat_le g.first n && nat_lt n g.after

abbrev pub is_called : List ℕ → Group → Bool
is_called name g = bytes_eq g.name name

-- the group of a name; there is one at most
abbrev pub group_named : List ℕ → Grouped → Option Group
group_named name r = find (is_called name) r.groups

-- the groups without the one of a name
abbrev pub without_name : List ℕ → List Group → List Group
without_name name [] = []
without_name name (g ∷ gs) = if is_called name g then gs else g ∷ without_name name gs

-- the declaration of an entry names a type of the group
abbrev pub names_into : RegistrationList → Group → Option Entry → Bool
names_into R g None = false
names_into R g (Some x) = list_any (is_in g) (named R x)

-- an entry outside the group names a type of it
unfoldable pub is_named_outside : RegistrationList → Group → Bool
is_named_outside R g = list_any (λ n. not (is_in g n) && names_into R g (entry_at R n)) (numbers_of R)

-- a number is none of the group's
abbrev pub left_outside : Group → ℕ → Bool
left_outside g n = not (is_in g n)

-- what is left where a group goes: its entries are blanks, and it is no group any more
abbrev pub without_group : Group → Grouped → Grouped
without_group g r = record {
  entries = only (left_outside g) r.entries;
  groups = without_name g.name r.groups;
}
