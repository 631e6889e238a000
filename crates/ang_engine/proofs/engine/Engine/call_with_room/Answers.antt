use Rattle.std.proofs.Common.{sym, subst, ap}
use Rattle.ang_host.specs.Logs.{listed_in}
use Rattle.ang_heap.specs.Globals.{values_in}
use Rattle.ang_engine_modules.specs.Sound.{HaveGlobals}
use Rattle.ang_registry.specs.Registrations.{Registrations}
use Rattle.ang_engine.specs.Engines.{list_in, registrations, world_in, builds_in}
use Rattle.ang_engine.specs.Sound.{AreSoundModules, AreNumbered}
use Rattle.ang_engine.proofs.Kept.{run_globals}
use Rattle.ang_engine.proofs.Preparing.{prepared-memory, prepared-called}
use Rattle.ang_engine.proofs.Whole.{sound-asked}
use Rattle.ang_engine.proofs.engine.Engine.call_with_room.Goals as goal

pub returns-in_default-clause-applied : goal.returns-in_default-clause-applied
returns-in_default-clause-applied g c =
    prepared-memory (λ v. (g.dyn-1.0.entry v).1) (list_in c.args.self.now) (builds_in c.args.self.now) (world_in (λ v. (g.dyn-1.0.entry v).1) c.args.self.now) c.args.prepared
    c.args.args.now c.args.budget c.args.self.now.machine.store _ c.requires.there c.answer.ensures.exact c.requires.sound.kept c.requires.sound.counted

pub returns-clause-applied : goal.returns-clause-applied
returns-clause-applied g c =
    prepared-called (λ v. (g.dyn-1.0.entry v).1) (list_in c.args.self.now) (builds_in c.args.self.now) (world_in (λ v. (g.dyn-1.0.entry v).1) c.args.self.now) c.args.prepared
    c.args.args.now c.args.budget (world_in (λ v. (g.dyn-1.0.entry v).1) c.call_there-done.new.self) c.args.self.now.machine.store c.call_there-done.new.self.machine.store _
    c.call_there-done.result (listed_in c.call_there-done.new.events) c.requires.there c.call_reply.ensures.exact c.call_there-done.ensures.done c.call_there-done.ensures.asked c.call_there-done.ensures.refused

pub returns-clause-sound : goal.returns-clause-sound
returns-clause-sound g c =
    let gs = values_in c.args.self.now.machine.store.globals in
    let hs = values_in c.call_there-done.new.self.machine.store.globals in
    sound-asked (λ v. (g.dyn-1.0.entry v).1) c.args.self.now c.call_there-done.new.self _ _ c.requires.sound (ap (λ (r : Registrations). r.entries) c.call_there-done.ensures.registry)
    (subst (λ x. AreSoundModules (registrations c.args.self.now) x) (sym c.call_there-done.ensures.modules) c.requires.sound.modules)
    (subst (λ x. HaveGlobals x hs) (sym c.call_there-done.ensures.modules) (run_globals c.args.self.now.modules gs hs c.call_there-done.ensures.globals c.requires.sound.globals))
    c.call_there-done.ensures.asked (subst (λ x. AreNumbered x) (sym c.call_there-done.ensures.modules) c.requires.sound.numbered)
