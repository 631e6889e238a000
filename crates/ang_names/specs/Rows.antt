-- The members of a family by their names and slots: where each stands among those of its kind.
use Rattle.std.specs.Prelude.{ℕ, ◌≡◌, ◌+◌, ◌==◌, Bool, true, false, ◌||◌, if◌then◌else◌, List, [], ◌∷◌, bytes_eq, find, Option, Some, None, option_map, slice_get, slice_index_or}
use Rattle.std.specs.List.{list_any}
use Rattle.std.specs.Option.{option_or}
use Rattle.ang_index.specs.Rows.{Rows, items_at}
use Rattle.ang_names_known.specs.declared.names.Family.{Family}
use Rattle.ang_names_known.specs.declared.names.Field.{Field}
use Rattle.ang_names_known.specs.declared.names.ScriptMethod.{ScriptMethod}
use Rattle.ang_names_known.specs.Lookup.{FoundMethod, fields_in, method_in_slot}
use Rattle.ang_names.specs.ByNumber.{methods_in}
use Rattle.ang_names.specs.declared.indexed.MemberRows.{MemberRows}

-- the places of those that pass, of some whose first has the place n
abbrev pub places_from : {A : Type 0} → (A → Bool) → ℕ → List A → List ℕ
places_from p n [] = []
places_from p n (x ∷ xs) = if p x then n ∷ places_from p (n + 1) xs else places_from p (n + 1) xs

-- the places of the methods of a slot
unfoldable pub slot_row : ℕ → List ScriptMethod → List ℕ
slot_row slot ms = places_from (λ (m : ScriptMethod). m.slot == slot) 0 ms

-- the places of the fields of a name
unfoldable pub field_row : List ℕ → List Field → List ℕ
field_row name xs = places_from (λ (x : Field). bytes_eq x.name name) 0 xs

-- the places of the methods of a name
unfoldable pub method_row : List ℕ → List ScriptMethod → List ℕ
method_row name ms = places_from (λ (m : ScriptMethod). bytes_eq m.function.name name) 0 ms

-- ---- as they are kept

-- under each slot the places of its methods
pub record HasSlots (ms : List ScriptMethod) (rows : Rows ℕ) : Type 0 where
  pub places : (slot : ℕ) → items_at slot [] rows ≡ slot_row slot ms

-- under each name the places of its fields
pub record HasFields (xs : List Field) (rows : Rows ℕ) : Type 0 where
  pub places : (name : List ℕ) → items_at 0 name rows ≡ field_row name xs

-- under each name the places of its methods
pub record HasMethods (ms : List ScriptMethod) (rows : Rows ℕ) : Type 0 where
  pub places : (name : List ℕ) → items_at 0 name rows ≡ method_row name ms

pub record HasMembers (f : Family) (r : MemberRows) : Type 0 where
  pub of_slots : HasSlots f.methods r.slots
  pub of_fields : HasFields f.fields r.fields
  pub of_methods : HasMethods f.methods r.methods

abbrev pub AllHaveMembers : List Family → List MemberRows → Type 0
AllHaveMembers [] [] = Unit {0}
AllHaveMembers [] (r ∷ rs) = ⊥
AllHaveMembers (f ∷ fs) [] = ⊥
AllHaveMembers (f ∷ fs) (r ∷ rs) = HasMembers f r × AllHaveMembers fs rs

-- the members of each family stand in the rows of its number
pub record HasRows (fs : List Family) (rs : List MemberRows) : Type 0 where
  pub members : AllHaveMembers fs rs

abbrev pub slot_row_in : ℕ → Option MemberRows → List ℕ
slot_row_in slot None = []
slot_row_in slot (Some r) = items_at slot [] r.slots

abbrev pub field_row_in : List ℕ → Option MemberRows → List ℕ
field_row_in name None = []
field_row_in name (Some r) = items_at 0 name r.fields

abbrev pub method_row_in : List ℕ → Option MemberRows → List ℕ
method_row_in name None = []
method_row_in name (Some r) = items_at 0 name r.methods

-- ---- the nearest family that declares a method of a slot

-- family n declares a method of the slot itself
abbrev pub has_slot : List Family → ℕ → ℕ → Bool
has_slot fs slot n = list_any (λ (m : ScriptMethod). m.slot == slot) (methods_in (slice_get fs n))

-- the first of these families that does
abbrev pub first_with_slot : List Family → ℕ → List ℕ → Option ℕ
first_with_slot fs slot ns = find (has_slot fs slot) ns

-- the number that is noted at a slot
abbrev pub noted_at : List (Option ℕ) → ℕ → Option ℕ
noted_at table slot = slice_index_or table slot None

-- there is an entry, and nothing is noted
abbrev pub is_free : Option (Option ℕ) → Bool
is_free None = false
is_free (Some None) = true
is_free (Some (Some n)) = false

-- the method of the slot that the family of this number declares itself
abbrev pub noted_method : List Family → ℕ → Option ℕ → Option ScriptMethod
noted_method fs slot None = None
noted_method fs slot (Some n) = find (λ (m : ScriptMethod). m.slot == slot) (methods_in (slice_get fs n))

-- at each slot that the table has, the number of the family from which family c has its method of the slot
pub record HasNearest (fs : List Family) (c : ℕ) (table : List (Option ℕ)) : Type 0 where
  pub nearest : (slot : ℕ) (o : Option ℕ) → slice_get table slot ≡ Some o
      → noted_method fs slot o ≡ option_map (λ (x : FoundMethod). x.method) (method_in_slot fs c slot)

-- ---- what is looked for at these places

-- there is one, and it passes
abbrev pub is_at : {A : Type 0} → (A → Bool) → Option A → Bool
is_at p None = false
is_at p (Some x) = p x

abbrev pub passing : {A : Type 0} → (A → Bool) → Option A → Option A
passing p None = None
passing p (Some x) = if p x then Some x else None

-- the first that passes, of those at these places
abbrev pub first_at : {A : Type 0} → (A → Bool) → List A → List ℕ → Option A
first_at p xs [] = None
first_at p xs (n ∷ ns) = option_or (passing p (slice_get xs n)) (first_at p xs ns)

-- the family declares a field or a method of this name itself
abbrev pub declares : List ℕ → Option Family → Bool
declares name o =
    list_any (λ (x : Field). bytes_eq x.name name) (fields_in o)
    || list_any (λ (x : ScriptMethod). bytes_eq x.function.name name) (methods_in o)
