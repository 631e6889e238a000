-- What stands above a class or an interface, and what its fields reach, by the numbers of classes and interfaces (docs/LANGUAGE.md,
-- "Names of a build"; the AngelScript manual, "Script classes", "Inheritance" and "Memory management").
use Rattle.std.specs.Prelude.{ℕ, ◌==◌, nat_lt, Bool, false, ◌&&◌, ◌||◌, List, [], length, Option, Some, None, bytes_eq, slice_get}
use Rattle.std.specs.List.{list_any, filter_map, flat_map, position}
use Rattle.std.specs.Option.{option_map_or}
use Rattle.ang_types.specs.declared.arg_type.ArgType.{ArgType}
use Rattle.ang_types.specs.declared.arg_type.ArgType.TheVariants as type
use Rattle.ang_names_graph.specs.Graphs.{above, leads, order_of}
use Rattle.ang_names_known.specs.declared.names.Written.{Written}
use Rattle.ang_names_known.specs.Spaces.{Space, family_of_type}
use Rattle.ang_names_listed.specs.declared.listed.ListedMember.{ListedMember}
use Rattle.ang_names_listed.specs.declared.listed.MemberKind.{MemberKind}
use Rattle.ang_names_listed.specs.declared.listed.MemberKind.TheVariants as member
use Rattle.ang_names_listed.specs.Declarations.{Declaring, family_name}
use Rattle.ang_names_listed.specs.declared.role.TypePosition.TheVariants as role
use Rattle.ang_lex.specs.Text.{text_of}
use Rattle.ang_names_listed.specs.Types.{written_in}

-- ---- what stands above a family

abbrev pub place_of : List Declaring → List ℕ → Option ℕ
place_of ds name = position (λ (d : Declaring). bytes_eq (family_name d) name) ds

abbrev pub is_place : ℕ → Option ℕ → Bool
is_place j None = false
is_place j (Some k) = k == j

abbrev pub names_place : List Declaring → ℕ → Option Declaring → Bool
names_place ds j None = false
names_place ds j (Some d) = list_any (λ b. is_place j (place_of ds (text_of d.text b))) d.shape.bases

-- family j is a base class of family i, or one of its interfaces
abbrev pub is_parent : List Declaring → ℕ → ℕ → Bool
is_parent ds i j = names_place ds j (slice_get ds i)

abbrev pub is_class_at : List Declaring → ℕ → Bool
is_class_at ds j = option_map_or (λ (d : Declaring). d.shape.is_class) (slice_get ds j) false

-- family d stands above family c
abbrev pub stands_above : List Declaring → ℕ → ℕ → Bool
stands_above ds c d = leads (is_parent ds) (length ds) c d

-- class j is the base class of class i
abbrev pub is_base : List Declaring → ℕ → ℕ → Bool
is_base ds i j = is_parent ds i j && is_class_at ds j

-- ---- what a class's fields reach

-- In the space of a build:
module _ (E : Space) where
  abbrev pub field_type : Declaring → MemberKind → Option Written
  field_type d (member.Field y) = Some (written_in E role.Field d.text y)
  field_type d _ = None

  -- the types of a family's own fields
  abbrev pub field_types : Declaring → List Written
  field_types d = filter_map (λ (m : ListedMember). field_type d m.kind) d.shape.members

-- the types of all fields of the families of these numbers
abbrev pub field_types_at : Space → List Declaring → List ℕ → List Written
field_types_at E ds ns = flat_map (λ n. option_map_or (field_types E) (slice_get ds n) []) ns

abbrev pub held_by : ArgType → Option ℕ
held_by (type.Handle n c) = family_of_type n
held_by _ = None

-- family j is family d, or stands under it
abbrev pub is_under_or : List Declaring → ℕ → Option ℕ → Bool
is_under_or ds j None = false
is_under_or ds j (Some d) = j == d || list_any (λ k. k == d) (above (is_parent ds) (length ds) j)

-- A field of the class i, own or inherited, can hold an object of the family j: it is a handle to a family that j is or stands under
-- (the AngelScript manual, "Memory management"). Host types reach nothing.
unfoldable pub holds : Space → List Declaring → ℕ → ℕ → Bool
holds E ds i j =
    nat_lt i (length ds) && nat_lt j (length ds)
    && list_any (λ (w : Written). is_under_or ds j (held_by w.ty)) (field_types_at E ds (order_of (is_base ds) (length ds) i))

-- objects of class c can lead to one of c through their fields
abbrev pub is_cyclic : Space → List Declaring → ℕ → Bool
is_cyclic E ds c = leads (holds E ds) (length ds) c c
