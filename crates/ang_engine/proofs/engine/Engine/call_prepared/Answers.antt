use Rattle.std.proofs.Common.{ap, sym, subst}
use Rattle.ang_host.specs.Events.{DriversFollow}
use Rattle.ang_registry.specs.Registrations.{grouped}
use Rattle.ang_engine_modules.specs.declared.reply.Reply.{Reply}
use Rattle.ang_engine.specs.Engines.{drivers_in}
use Rattle.ang_engine.proofs.engine.Engine.call_prepared.Goals as goal

pub returns-clause-follow : goal.returns-clause-follow
returns-clause-follow g c = λ roles fit.
    subst (λ (r : Reply). DriversFollow (λ v. (g.dyn-1.0.entry v).1) roles (drivers_in c.args.self.now) r.events (drivers_in c.finish_prepared.new.self))
    (sym c.heard_reply.ensures.exact) (c.finish_prepared.ensures.applied.follow roles fit)

pub returns-clause-list : goal.returns-clause-list
returns-clause-list g c = ap grouped c.finish_prepared.ensures.registry
