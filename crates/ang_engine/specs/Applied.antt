-- What one command does to the world of an engine and to its drivers.
use Rattle.std.specs.Prelude.{◌≡◌, List, All}
use Rattle.std.specs.declared.alloc.Global.{Global}
use Rattle.std.specs.declared.dyn_box.DynBox.{DynBox}
use Rattle.ang_host.specs.Meanings.{Meanings}
use Rattle.ang_host.specs.Events.{DriversFollow}
use Rattle.ang_host.specs.declared.event.Role.{Role}
use Rattle.ang_view.specs.Groups.{Grouped}
use Rattle.ang_engine.specs.Roles.{AreRoles}
use Rattle.ang_engine_modules.specs.declared.command.Command.{Command}
use Rattle.ang_engine.specs.declared.engine.Engine.{Engine}
use Rattle.ang_engine_modules.specs.declared.reply.Reply.{Reply}
use Rattle.ang_engine_modules.specs.World.{World}
use Rattle.ang_engine.specs.Engines.{list_in, world_in, drivers_in}
use Rattle.ang_engine.specs.Step.{Takes, IsEntitled}
use Rattle.ang_engine.specs.Outcomes.{IfRefusedAtOnce}

-- Over the list R it takes the modules from w to v, its host calls are entitled by that list, and the
-- drivers follow them, by any roles that fit. Where it is refused at once the drivers are as they were.
pub record Applied {V : Type 0} {P : V → Type 0} (m : Meanings P) (R : Grouped)
    (w : World) (xs : List (DynBox V Global P)) (c : Command) (reply : Reply) (v : World)
    (ys : List (DynBox V Global P)) : Type 0 where
  pub takes : Takes R w c reply v
  pub entitled : All (IsEntitled R.entries v) reply.events
  pub follow : (roles : List Role) → AreRoles roles R.entries
      → DriversFollow m roles xs reply.events ys
  pub refused : IfRefusedAtOnce reply.outcome (ys ≡ xs)

-- it takes one engine to the other
abbrev pub HasApplied : {V : Type 0} {P : V → Type 0} → Meanings P → Engine V P → Command → Reply
    → Engine V P → Type 0
HasApplied m e c reply f =
    Applied m (list_in e) (world_in m e) (drivers_in e) c reply (world_in m f) (drivers_in f)
