use Rattle.std.proofs.Common.{◌≡◌, ◌≤◌, [], false, sym, subst}
use Rattle.std.specs.Prelude.{max}
use Rattle.ang_host.specs.Logs.{listed_in}
use Rattle.ang_engine_modules.specs.declared.reply.Reply.{Reply}
use Rattle.ang_engine.specs.Applied.{HasApplied}
use Rattle.ang_engine.specs.Engines.{limits_in, held_in}
use Rattle.ang_engine_modules.specs.Ended.{is_fault, may_have_run}
use Rattle.ang_engine.specs.Trace.{trace_in, ticks_in}
use Rattle.ang_engine.specs.Prepared.{HasMovedPrepared}
use Rattle.ang_engine.proofs.engine.Engine.apply_unheard.Goals as goal

pub returns-clause-there_is : goal.returns-clause-there_is
returns-clause-there_is g c = record {
  events = listed_in c.finish.result.events;
  applies = subst (λ (r : Reply). HasApplied (λ v. (g.dyn-1.0.entry v).1) c.args.self.now c.args.command r c.finish.new.self) (sym c.unheard_reply.ensures.exact) c.finish.ensures.applied;
  ended = c.unheard_reply.ensures.ended;
  count = c.unheard_reply.ensures.count;
}

pub returns-clause-few_events : goal.returns-clause-few_events
returns-clause-few_events g c =
    subst (λ n. n ≤ max (limits_in c.args.self.now).events (held_in (λ v. (g.dyn-1.0.entry v).1) c.args.self.now).objects) (sym c.unheard_reply.ensures.count) c.finish.ensures.within.limited.few_events

pub returns-clause-due : goal.returns-clause-due
returns-clause-due g c = c.finish.ensures.sound.kept.due

pub returns-clause-no_trace : goal.returns-clause-no_trace
returns-clause-no_trace g c = subst (λ (r : Reply). is_fault r.outcome ≡ false → trace_in c.finish.new.self ≡ []) (sym c.unheard_reply.ensures.exact) c.finish.ensures.no_trace

pub returns-clause-no_ticks : goal.returns-clause-no_ticks
returns-clause-no_ticks g c = subst (λ (r : Reply). may_have_run r.outcome ≡ false → ticks_in c.finish.new.self ≡ 0) (sym c.unheard_reply.ensures.exact) c.finish.ensures.no_ticks

pub returns-clause-ticks : goal.returns-clause-ticks
returns-clause-ticks g c = c.finish.ensures.ticks

pub returns-clause-prepared : goal.returns-clause-prepared
returns-clause-prepared g c = subst (λ (r : Reply). HasMovedPrepared (λ v. (g.dyn-1.0.entry v).1) c.args.self.now c.args.command r.outcome c.finish.new.self) (sym c.unheard_reply.ensures.exact) c.finish.ensures.prepared
