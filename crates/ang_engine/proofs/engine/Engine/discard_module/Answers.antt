use Rattle.std.proofs.Common.{refl, ap, sym, subst}
use Rattle.ang_engine.specs.Engines.{list_in, world_in, last_build, builds_in}
use Rattle.ang_engine_modules.specs.declared.command.Command.TheVariants.{Discard}
use Rattle.ang_engine.proofs.Whole.{applied-discard, applied-memory}
use Rattle.ang_host.specs.Logs.{listed_in}
use Rattle.ang_engine.proofs.Limiting.{within_none, within_reply}
use Rattle.ang_engine.proofs.Moved.{same_moved, nothing_built}
use Rattle.ang_engine.specs.Prepared.{HaveMoved, replaced}
use Rattle.ang_engine_modules.specs.declared.reply.Reply.{Reply}
use Rattle.ang_engine.proofs.engine.Engine.discard_module.Goals as goal

pub returns-in_default-clause-applied : goal.returns-in_default-clause-applied
returns-in_default-clause-applied g c =
    applied-memory (λ v. (g.dyn-1.0.entry v).1) (list_in c.args.self.now) (world_in (λ v. (g.dyn-1.0.entry v).1) c.args.self.now) c.args.self.now.machine.store
    (Discard c.args.name) _ refl c.answer.ensures.exact c.requires.sound.kept c.requires.sound.counted

pub returns-clause-applied : goal.returns-clause-applied
returns-clause-applied g c =
    let d = c.discard_named-done in
    applied-discard (λ v. (g.dyn-1.0.entry v).1) (list_in c.args.self.now) (world_in (λ v. (g.dyn-1.0.entry v).1) c.args.self.now) _
    c.args.self.now.machine.store d.new.self.machine.store c.as_slice.result.now c.args.name _ d.result (listed_in d.new.events)
    c.as_slice.ensures.same c.discard_reply.ensures.exact d.ensures.done d.ensures.asked d.ensures.refused

pub returns-in_default-clause-within : goal.returns-in_default-clause-within
returns-in_default-clause-within g c =
    let s = c.args.self.now.machine.store in
    within_reply (λ v. (g.dyn-1.0.entry v).1) s s _ _ c.answer.ensures.exact (within_none (λ v. (g.dyn-1.0.entry v).1) s)

pub returns-clause-within : goal.returns-clause-within
returns-clause-within g c =
    within_reply (λ v. (g.dyn-1.0.entry v).1) c.args.self.now.machine.store c.discard_named-done.new.self.machine.store _ _ c.discard_reply.ensures.exact c.discard_named-done.ensures.asked.within

pub returns-in_default-clause-prepared : goal.returns-in_default-clause-prepared
returns-in_default-clause-prepared g c =
    let x = c.args.self.now.modules in
    same_moved x x _ (ap (λ (r : Reply). replaced (Discard c.args.name) r.outcome (world_in (λ v. (g.dyn-1.0.entry v).1) c.args.self.now)) c.answer.ensures.exact) (nothing_built x)

pub returns-clause-prepared : goal.returns-clause-prepared
returns-clause-prepared g c =
    let e = c.args.self.now in
    let d = c.discard_named-done in
    let w = world_in (λ v. (g.dyn-1.0.entry v).1) e in
    subst (λ n. HaveMoved (replaced (Discard n) c.discard_reply.result.outcome w) (last_build e) (builds_in e) (last_build d.new.self) (builds_in d.new.self)) c.as_slice.ensures.same
    (subst (λ (r : Reply). HaveMoved (replaced (Discard c.as_slice.result.now) r.outcome w) (last_build e) (builds_in e) (last_build d.new.self) (builds_in d.new.self)) (sym c.discard_reply.ensures.exact)
    d.ensures.prepared)
