use Rattle.std.proofs.Common.{subst}
use Rattle.ang_host.specs.Boxes.{members}
use Rattle.ang_heap.specs.Stores.{world_of}
use Rattle.ang_engine_modules.specs.States.{states_in}
use Rattle.ang_engine_modules.specs.World.{left_to}
use Rattle.ang_engine.specs.Engines.{list_in, world_in, drivers_in, builds_in}
use Rattle.ang_engine.specs.Prepared.{PreparedApplied}
use Rattle.ang_engine.specs.Replies.{reply_in}
use Rattle.ang_engine.proofs.engine.Engine.finish_prepared.Goals as goal

-- a command that has begun is over the same world
pub returns-clause-applied : goal.returns-clause-applied
returns-clause-applied g c =
    let R = list_in c.args.self.now in
    let builds = builds_in c.args.self.now in
    let x = c.args.self.now.modules in
    let reply = reply_in c.dispatch_prepared-finished.result in
    let after = c.dispatch_prepared-finished.new.self in
    subst (λ s. PreparedApplied (λ v. (g.dyn-1.0.entry v).1) R builds (left_to (states_in x) (world_of (λ v. (g.dyn-1.0.entry v).1) s)) (members s.drivers) c.args.prepared c.args.args.now c.args.budget reply (world_in (λ v. (g.dyn-1.0.entry v).1) after) (drivers_in after))
    c.begin_command.ensures.set c.dispatch_prepared-finished.ensures.applied
