-- What an engine keeps between commands.
use Rattle.std.specs.Prelude.{ℕ, ◌≡◌, ◌≤◌, List, [], length, Option, Some}
use Rattle.ang_host.specs.Meanings.{Meanings}
use Rattle.ang_view.specs.Only.{IsWithin}
use Rattle.ang_view.specs.Registration.{RegistrationList, seen}
use Rattle.ang_registry.specs.Drivers as drivers
use Rattle.ang_typed.specs.View.{view_typed}
use Rattle.ang_engine_build.specs.Narrowed.{narrowed}
use Rattle.ang_meaning.specs.Counting.{IsCounted}
use Rattle.ang_heap.specs.Globals.{values_in}
use Rattle.ang_heap.specs.Stores.{world_of, IsKept}
use Rattle.ang_engine_build.specs.Build.{Compiled, build_of}
use Rattle.ang_engine_modules.specs.declared.modules.LoadedModule.{LoadedModule}
use Rattle.ang_engine_modules.specs.declared.module.Module.{Module}
use Rattle.ang_engine_modules.specs.declared.module.ModuleList.{ModuleList}
use Rattle.ang_engine_modules.specs.Sound.{IsPlaceOf, AreModules, HaveGlobals}
use Rattle.ang_engine_modules.specs.States.{build_at}
use Rattle.ang_engine.specs.declared.engine.Engine.{Engine}
use Rattle.ang_engine.specs.Engines.{resolved_in, registrations, drivers_in}

-- What a module was built to, under its name and its built mask: some sections' program over what it
-- saw then, of which it keeps what it uses; and all of that stands, and the mask sees it.
pub record IsBuiltBy (R : RegistrationList) (own : List ℕ) (mask : ℕ) (l : LoadedModule) : Type 0 where
  pub name : l.name ≡ own
  pub sight : RegistrationList
  pub sections : List (List ℕ)
  pub built : build_of sight sections ≡ Compiled (resolved_in l)
  pub view : l.view ≡ narrowed sight (view_typed l.tree)
  pub stands : IsWithin l.view (seen R mask)

abbrev pub IsSoundPlace : RegistrationList → Option Module → Option LoadedModule → Type 0
IsSoundPlace R = IsPlaceOf (IsBuiltBy R)

-- each built module has some sections' program
abbrev pub AreSoundModules : RegistrationList → ModuleList → Type 0
AreSoundModules R x = AreModules (IsBuiltBy R) x

-- each entry's driver is one of the list
abbrev pub HaveDrivers : RegistrationList → ℕ → Type 0
HaveDrivers R count = drivers.HaveDrivers R count

-- each module's last build was begun: none has the number of a build that comes
pub record AreNumbered (x : ModuleList) : Type 0 where
  pub begun : (i b : ℕ) → build_at x.places.items i ≡ Some b → b ≤ x.builds

-- The modules are sound; each entry's driver is in the list; the machine keeps what it needs to
-- give everything up; and nothing is held but by globals and fields.
pub record IsSound {V : Type 0} {P : V → Type 0} (m : Meanings P) (e : Engine V P) : Type 0 where
  pub modules : AreSoundModules (registrations e) e.modules
  pub globals : HaveGlobals e.modules (values_in e.machine.store.globals)
  pub in_list : HaveDrivers (registrations e) (length (drivers_in e))
  pub kept : IsKept m e.machine.store
  pub counted : IsCounted [] (world_of m e.machine.store)
  pub numbered : AreNumbered e.modules
