-- The objects that a driver's pages have.
use Rattle.std.specs.Prelude.{ℕ, ◌+◌, ◌/◌, ◌≡◌, cond, List, Some}
use Rattle.std.specs.List.{flat_map, HoldsAt}
use Rattle.std.specs.Map.{lookup}
use Rattle.std.specs.BTreeMap.{is_at}
use Rattle.std.specs.Ordering.{nat_cmp}
use Rattle.ang_drivers.specs.declared.pages.Counted.{Counted}
use Rattle.ang_drivers.specs.declared.pages.Pages.{Pages}
use Rattle.ang_drivers.specs.declared.pages.Place.{Place}
use Rattle.ang_drivers.specs.Pages.{objects_in, IsEntryAt}

-- each live object with its key, one page after the other
abbrev pub entries_of : {T : Type 0} → Pages T → List (ℕ × Counted T)
entries_of p = flat_map (λ e. objects_in e.1) p.pages.items

-- the object of the key k stands at this place
pub record IsPlace {T : Type 0} (p : Pages T) (k : ℕ) (at : Place) : Type 0 where
  pub page : IsEntryAt p.pages.items (k / 64) at.page
  pub there : HoldsAt (λ e. IsEntryAt (objects_in e.1) k at.index) p.pages.items at.page

-- an object more under the next key
pub record IsPushed {T : Type 0} (old : Pages T) (object : Counted T) (new : Pages T) : Type 0 where
  pub next : new.next ≡ old.next + 1
  pub found : (q : ℕ) → lookup (is_at (nat_cmp q)) (entries_of new)
      ≡ cond (is_at (nat_cmp old.next) q) (Some object) (lookup (is_at (nat_cmp q)) (entries_of old))
