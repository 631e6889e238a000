use Rattle.std.proofs.Common.{◌≡◌, ◌≤◌, [], false, sym, subst, length}
use Rattle.std.specs.Prelude.{All, max}
use Rattle.ang_host.specs.Events.{DriversFollow}
use Rattle.ang_engine_modules.specs.declared.reply.Reply.{Reply}
use Rattle.ang_engine.specs.Engines.{list_in, registrations, world_in, drivers_in, limits_in, held_in}
use Rattle.ang_engine.specs.Replies.{reply_in}
use Rattle.ang_engine.specs.Outcomes.{IfRefusedAtOnce}
use Rattle.ang_engine.specs.Step.{Takes, IsEntitled}
use Rattle.ang_engine_modules.specs.Ended.{is_fault, may_have_run}
use Rattle.ang_engine.specs.Trace.{trace_in, ticks_in}
use Rattle.ang_engine.specs.Prepared.{HasMovedPrepared}
use Rattle.ang_engine.proofs.engine.Engine.apply.Goals as goal

-- what is said of the command that has finished is said of its reply

pub returns-clause-takes : goal.returns-clause-takes
returns-clause-takes g c =
    subst (λ (r : Reply). Takes (list_in c.args.self.now) (world_in (λ v. (g.dyn-1.0.entry v).1) c.args.self.now) c.args.command r (world_in (λ v. (g.dyn-1.0.entry v).1) c.finish.new.self))
    (sym c.heard_reply.ensures.exact) c.finish.ensures.applied.takes

pub returns-clause-entitled : goal.returns-clause-entitled
returns-clause-entitled g c =
    subst (λ (r : Reply). All (IsEntitled (registrations c.args.self.now) (world_in (λ v. (g.dyn-1.0.entry v).1) c.finish.new.self)) r.events)
    (sym c.heard_reply.ensures.exact) c.finish.ensures.applied.entitled

pub returns-clause-follow : goal.returns-clause-follow
returns-clause-follow g c = λ roles fit.
    subst (λ (r : Reply). DriversFollow (λ v. (g.dyn-1.0.entry v).1) roles (drivers_in c.args.self.now) r.events (drivers_in c.finish.new.self))
    (sym c.heard_reply.ensures.exact) (c.finish.ensures.applied.follow roles fit)

pub returns-clause-refused : goal.returns-clause-refused
returns-clause-refused g c =
    subst (λ (r : Reply). IfRefusedAtOnce r.outcome (drivers_in c.finish.new.self ≡ drivers_in c.args.self.now))
    (sym c.heard_reply.ensures.exact) c.finish.ensures.applied.refused

pub returns-clause-few_events : goal.returns-clause-few_events
returns-clause-few_events g c =
    subst (λ (r : Reply). length r.events ≤ max (limits_in c.args.self.now).events (held_in (λ v. (g.dyn-1.0.entry v).1) c.args.self.now).objects)
    (sym c.heard_reply.ensures.exact) c.finish.ensures.within.limited.few_events

pub returns-clause-due : goal.returns-clause-due
returns-clause-due g c = c.finish.ensures.sound.kept.due

pub returns-clause-no_trace : goal.returns-clause-no_trace
returns-clause-no_trace g c = subst (λ (r : Reply). is_fault r.outcome ≡ false → trace_in c.finish.new.self ≡ []) (sym c.heard_reply.ensures.exact) c.finish.ensures.no_trace

pub returns-clause-no_ticks : goal.returns-clause-no_ticks
returns-clause-no_ticks g c = subst (λ (r : Reply). may_have_run r.outcome ≡ false → ticks_in c.finish.new.self ≡ 0) (sym c.heard_reply.ensures.exact) c.finish.ensures.no_ticks

pub returns-clause-ticks : goal.returns-clause-ticks
returns-clause-ticks g c = c.finish.ensures.ticks

pub returns-clause-prepared : goal.returns-clause-prepared
returns-clause-prepared g c = subst (λ (r : Reply). HasMovedPrepared (λ v. (g.dyn-1.0.entry v).1) c.args.self.now c.args.command r.outcome c.finish.new.self) (sym c.heard_reply.ensures.exact) c.finish.ensures.prepared
