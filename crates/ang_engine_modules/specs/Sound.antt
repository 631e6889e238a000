-- What a list of modules keeps between commands.
use Rattle.std.specs.Prelude.{ℕ, ◌≡◌, ◌≤◌, List, [], length, Option, Some, None, Contains, slice_get, slice_index_or}
use Rattle.std.specs.List.{AllZip}
use Rattle.ang_meaning.specs.declared.slot.Slot.{Slot}
use Rattle.ang_engine_modules.specs.declared.modules.LoadedModule.{LoadedModule}
use Rattle.ang_engine_modules.specs.declared.module.Module.{Module}
use Rattle.ang_engine_modules.specs.declared.module.ModuleList.{ModuleList}
use Rattle.ang_engine_modules.specs.Commands.{most_modules}

-- In a place a module is built, which is then so of its name and its built mask, or it is not;
-- nothing is built in an empty place.
abbrev pub IsPlaceOf : (List ℕ → ℕ → LoadedModule → Type 0) → Option Module → Option LoadedModule
    → Type 0
IsPlaceOf P None None = Unit {0}
IsPlaceOf P None (Some l) = ⊥
IsPlaceOf P (Some m) None = Unit {0}
IsPlaceOf P (Some m) (Some l) = P m.name m.built_mask.0 l

-- What is built of each module is so of its name and its built mask. No two modules have one name,
-- and there are at most 64 places. The order has the number of each that is there.
pub record AreModules (P : List ℕ → ℕ → LoadedModule → Type 0) (x : ModuleList) : Type 0 where
  pub each : AllZip (IsPlaceOf P) x.places.items x.code
  pub apart : (i j : ℕ) (m n : Module)
      → slice_get x.places.items i ≡ Some (Some m) → slice_get x.places.items j ≡ Some (Some n)
      → m.name ≡ n.name → i ≡ j
  pub few : length x.places.items ≤ most_modules
  pub listed : (i : ℕ) (m : Module)
      → slice_get x.places.items i ≡ Some (Some m) → Contains x.order.items i

-- a module is there, of the name that it had
abbrev pub HasSameName : Option Module → Option Module → Type 0
HasSameName None n = ⊥
HasSameName (Some d) None = ⊥
HasSameName (Some d) (Some n) = n.name ≡ d.name

-- and of its built mask too
abbrev pub IsKept : Option Module → Option Module → Type 0
IsKept None n = ⊥
IsKept (Some d) None = ⊥
IsKept (Some d) (Some n) = (n.name ≡ d.name) × (n.built_mask ≡ d.built_mask)

-- each place is empty still, or has its module still
abbrev pub IsKeptPlace : Option Module → Option Module → Type 0
IsKeptPlace None None = Unit {0}
IsKeptPlace None (Some n) = ⊥
IsKeptPlace (Some d) n = IsKept (Some d) n

-- Modules stay in their places, with their names and built masks, and with what is built of them.
pub record ArePlacesKept (x y : ModuleList) : Type 0 where
  pub places : AllZip IsKeptPlace x.places.items y.places.items
  pub code : y.code ≡ x.code
  pub order : y.order.items ≡ x.order.items

-- nothing has changed
pub record IsSameList (x y : ModuleList) : Type 0 where
  pub places : y.places.items ≡ x.places.items
  pub code : y.code ≡ x.code
  pub order : y.order.items ≡ x.order.items

-- There is a list of globals for each place, and it is empty where there is no module.
pub record HaveGlobals (x : ModuleList) (gs : List (List Slot)) : Type 0 where
  pub count : length gs ≡ length x.places.items
  pub none : (i : ℕ) → slice_get x.places.items i ≡ Some None → slice_index_or gs i [] ≡ []
