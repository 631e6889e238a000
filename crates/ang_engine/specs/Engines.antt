-- What contracts see of an engine.
use Rattle.std.specs.Prelude.{ℕ, List, Vec, Option}
use Rattle.std.specs.declared.alloc.Global.{Global}
use Rattle.std.specs.declared.dyn_box.DynBox.{DynBox}
use Rattle.ang_host.specs.Boxes.{members}
use Rattle.ang_host.specs.Meanings.{Meanings}
use Rattle.ang_view.specs.Groups.{Grouped}
use Rattle.ang_view.specs.Registration.{RegistrationList}
use Rattle.ang_registry.specs.Registrations.{grouped}
use Rattle.ang_typed.specs.View.{view_typed}
use Rattle.ang_heap.specs.declared.limits.Limits.{Limits}
use Rattle.ang_heap.specs.declared.limits.Held.{Held}
use Rattle.ang_heap.specs.Stores.{world_of}
use Rattle.ang_vm.specs.declared.machines.Machine.{Machine}
use Rattle.ang_engine_build.specs.Build.{Resolved}
use Rattle.ang_engine_modules.specs.declared.modules.LoadedModule.{LoadedModule}
use Rattle.ang_engine.specs.declared.engine.Engine.{Engine}
use Rattle.ang_engine_modules.specs.declared.module.ModuleList.{ModuleList}
use Rattle.ang_engine_modules.specs.World.{World, left_to}
use Rattle.ang_engine_modules.specs.States.{states_in, build_at}
use Rattle.ang_engine.specs.Limited.{held_of}

-- what a module is built to
abbrev pub resolved_in : LoadedModule → Resolved
resolved_in l = record { names = l.names; tree = view_typed l.tree }

-- its registration list with the groups that were ended, which `RemoveGroup` alone changes
abbrev pub list_in : {V : Type 0} {P : V → Type 0} → Engine V P → Grouped
list_in e = grouped e.registry

-- the entries of that list
abbrev pub registrations : {V : Type 0} {P : V → Type 0} → Engine V P → RegistrationList
registrations e = e.registry.entries

-- Its modules, and beside them what their runs leave: the counts of host objects are those of the
-- drivers themselves.
abbrev pub world_in : {V : Type 0} {P : V → Type 0} → Meanings P → Engine V P → World
world_in m e = left_to (states_in e.modules) (world_of m e.machine.store)

-- for each place the number of the last build of its module, where there is one
abbrev pub builds_in : {V : Type 0} {P : V → Type 0} → Engine V P → ℕ → Option ℕ
builds_in e i = build_at e.modules.places.items i

-- the number of the last build that it began, of a module that is gone too; 0 before the first
abbrev pub last_build : {V : Type 0} {P : V → Type 0} → Engine V P → ℕ
last_build e = e.modules.builds

-- its boxed drivers, in their order
abbrev pub drivers_in : {V : Type 0} {P : V → Type 0} → Engine V P → List (DynBox V Global P)
drivers_in e = members e.machine.store.drivers

-- the limits that were set last
abbrev pub limits_in : {V : Type 0} {P : V → Type 0} → Engine V P → Limits
limits_in e = e.machine.store.limits

-- how much scripts hold
abbrev pub held_in : {V : Type 0} {P : V → Type 0} → Meanings P → Engine V P → Held
held_in m e = held_of m e.machine.store

-- the world in the midst of a command
abbrev pub world_during : {V : Type 0} {P : V → Type 0} → Meanings P → ModuleList → Machine V P
    → World
world_during m list machine = left_to (states_in list) (world_of m machine.store)
