-- Code whose imports lead elsewhere, and which is else the same.
use Rattle.std.specs.Prelude.{◌≡◌, ℕ, List, slice_get, slice_set, Option, Some, map as list_map}
use Rattle.std.specs.List.{AllZip}
use Rattle.ang_meaning.specs.declared.routine.Routine.{Routine}
use Rattle.ang_vm_stack.specs.declared.table.ModuleCode.{ModuleCode}
use Rattle.ang_engine_modules.specs.Modules.{unbound_links}

abbrev pub bounds_of : ModuleCode → List (Option Routine)
bounds_of c = list_map (λ y. y.bound) c.imports.items

-- a module's code, whose imports lead as these links say
pub record IsRelinked (before : ModuleCode) (links : List (Option Routine)) (after : ModuleCode)
    : Type 0 where
  pub name : after.name.items ≡ before.name.items
  pub bodies : after.bodies.items ≡ before.bodies.items
  pub entities : after.entities.items ≡ before.entities.items
  pub classes : after.classes.items ≡ before.classes.items
  pub slots : after.slots.items ≡ before.slots.items
  pub params :
      list_map (λ y. y.params.items) after.imports.items
      ≡ list_map (λ y. y.params.items) before.imports.items
  pub bound : bounds_of after ≡ links

-- Import i of module m leads where this link says.
pub record HasLink (before : List ModuleCode) (m i : ℕ) (link : Option Routine)
    (after : List ModuleCode) : Type 0 where
  pub code : ModuleCode
  pub put : after ≡ slice_set before m code
  pub relinked : (c : ModuleCode) → slice_get before m ≡ Some c
      → IsRelinked c (slice_set (bounds_of c) i link) code

-- No import leads to module m.
abbrev pub HasUnbound : ℕ → List ModuleCode → List ModuleCode → Type 0
HasUnbound m before after =
    AllZip (λ c d. IsRelinked c (unbound_links m (bounds_of c)) d) before after
