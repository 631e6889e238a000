use Rattle.std.proofs.Common.{refl, ap, sym, subst}
use Rattle.ang_engine.specs.Engines.{list_in, world_in}
use Rattle.ang_engine_modules.specs.declared.command.Command.TheVariants.{Build}
use Rattle.ang_engine.proofs.Whole.{applied-build, applied-memory, sound-asked}
use Rattle.ang_host.specs.Logs.{listed_in}
use Rattle.ang_engine.proofs.Limiting.{within_none, within_reply}
use Rattle.ang_engine.proofs.Moved.{same_moved, nothing_built}
use Rattle.ang_engine.specs.Prepared.{HaveMoved, replaced}
use Rattle.ang_engine_modules.specs.States.{build_at}
use Rattle.ang_engine_modules.specs.declared.reply.Reply.{Reply}
use Rattle.ang_engine.proofs.engine.Engine.build_next.Goals as goal

pub returns-in_default-clause-applied : goal.returns-in_default-clause-applied
returns-in_default-clause-applied g c =
    applied-memory (λ v. (g.dyn-1.0.entry v).1) (list_in c.args.self.now) (world_in (λ v. (g.dyn-1.0.entry v).1) c.args.self.now) c.args.self.now.machine.store
    (Build c.args.name c.args.budget) _ refl c.answer.ensures.exact c.requires.sound.kept c.requires.sound.counted

pub returns-clause-applied : goal.returns-clause-applied
returns-clause-applied g c =
    applied-build (λ v. (g.dyn-1.0.entry v).1) (list_in c.args.self.now) (world_in (λ v. (g.dyn-1.0.entry v).1) c.args.self.now) _
    c.args.self.now.machine.store c.build-done.new.machine.store c.as_slice.result.now c.args.name c.args.budget _ c.build-done.result (listed_in c.build-done.new.events)
    c.as_slice.ensures.same c.build_reply.ensures.exact c.build-done.ensures.done c.build-done.ensures.asked c.build-done.ensures.refused

pub returns-clause-sound : goal.returns-clause-sound
returns-clause-sound g c =
    sound-asked (λ v. (g.dyn-1.0.entry v).1) c.args.self.now (record c.args.self.now { modules = c.build-done.new.list; machine = c.build-done.new.machine }) _ _
    c.requires.sound refl c.build-done.ensures.sound c.build-done.ensures.globals c.build-done.ensures.asked
    (c.build-done.ensures.numbered c.requires.sound.numbered)

pub returns-in_default-clause-within : goal.returns-in_default-clause-within
returns-in_default-clause-within g c =
    let s = c.args.self.now.machine.store in
    within_reply (λ v. (g.dyn-1.0.entry v).1) s s _ _ c.answer.ensures.exact (within_none (λ v. (g.dyn-1.0.entry v).1) s)

pub returns-clause-within : goal.returns-clause-within
returns-clause-within g c =
    within_reply (λ v. (g.dyn-1.0.entry v).1) c.args.self.now.machine.store c.build-done.new.machine.store _ _ c.build_reply.ensures.exact c.build-done.ensures.asked.within

pub returns-in_default-clause-prepared : goal.returns-in_default-clause-prepared
returns-in_default-clause-prepared g c =
    let x = c.args.self.now.modules in
    same_moved x x _ (ap (λ (r : Reply). replaced (Build c.args.name c.args.budget) r.outcome (world_in (λ v. (g.dyn-1.0.entry v).1) c.args.self.now)) c.answer.ensures.exact) (nothing_built x)

pub returns-clause-prepared : goal.returns-clause-prepared
returns-clause-prepared g c =
    let x = c.args.self.now.modules in
    let y = c.build-done.new.list in
    let w = world_in (λ v. (g.dyn-1.0.entry v).1) c.args.self.now in
    subst (λ n. HaveMoved (replaced (Build n c.args.budget) c.build_reply.result.outcome w) x.builds (build_at x.places.items) y.builds (build_at y.places.items)) c.as_slice.ensures.same
    (subst (λ (r : Reply). HaveMoved (replaced (Build c.as_slice.result.now c.args.budget) r.outcome w) x.builds (build_at x.places.items) y.builds (build_at y.places.items)) (sym c.build_reply.ensures.exact)
    c.build-done.ensures.prepared)
