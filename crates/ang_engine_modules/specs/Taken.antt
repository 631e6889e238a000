-- How a new module comes into a list of modules.
use Rattle.std.specs.Prelude.{◌≡◌, ◌⊎◌, ◌<◌, ◌+◌, ℕ, List, [], ◌∷◌, ◌++◌, length, position, is_none, slice_set, Some, None}
use Rattle.ang_meaning.specs.declared.slot.Slot.{Slot}
use Rattle.ang_engine_modules.specs.declared.module.Module.{Module}
use Rattle.ang_engine_modules.specs.declared.module.ModuleList.{ModuleList}
use Rattle.ang_engine_modules.specs.Commands.{most_modules}

-- the list as it was, whose first empty place is this one
pub record HasEmpty (x : ModuleList) (gs : List (List Slot)) (y : ModuleList) (hs : List (List Slot))
    (i : ℕ) : Type 0 where
  pub empty : position is_none x.places.items ≡ Some i
  pub places : y.places.items ≡ x.places.items
  pub code : y.code ≡ x.code
  pub globals : hs ≡ gs

-- the list with one more place, this one, which is empty and has no globals
pub record HasNew (x : ModuleList) (gs : List (List Slot)) (y : ModuleList) (hs : List (List Slot))
    (i : ℕ) : Type 0 where
  pub none : position is_none x.places.items ≡ None
  pub last : i ≡ length x.places.items
  pub few : i < most_modules
  pub places : y.places.items ≡ x.places.items ++ None ∷ []
  pub code : y.code ≡ x.code ++ None ∷ []
  pub globals : hs ≡ gs ++ [] ∷ []

-- A place is ready for a module: the first empty one, or one more.
abbrev pub IsReadied : ModuleList → List (List Slot) → ModuleList → List (List Slot) → ℕ → Type 0
IsReadied x gs y hs i = HasEmpty x gs y hs i ⊎ HasNew x gs y hs i

-- The module stands in it, and is the one made last.
pub record HasTaken (x : ModuleList) (gs : List (List Slot)) (m : Module) (z : ModuleList)
    (hs : List (List Slot)) : Type 0 where
  pub readied : ModuleList
  pub place : ℕ
  pub ready : IsReadied x gs readied hs place
  pub places : z.places.items ≡ slice_set readied.places.items place (Some m)
  pub code : z.code ≡ readied.code
  pub order : z.order.items ≡ x.order.items ++ place ∷ []

-- there is no place for a module
pub record IsFull (x : ModuleList) : Type 0 where
  pub none : position is_none x.places.items ≡ None
  pub many : most_modules < length x.places.items + 1
