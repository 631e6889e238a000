use Rattle.std.proofs.Common.{refl, sym, subst, None, ap}
use Rattle.ang_heap.specs.Globals.{values_in}
use Rattle.ang_registry.specs.Registrations.{Registrations}
use Rattle.ang_engine.specs.Engines.{list_in, registrations, world_in}
use Rattle.ang_engine_modules.specs.declared.command.Command.TheVariants.{Call}
use Rattle.ang_engine_modules.specs.Sound.{HaveGlobals}
use Rattle.ang_engine.specs.Sound.{AreSoundModules, AreNumbered}
use Rattle.ang_engine.proofs.Kept.{run_globals}
use Rattle.ang_engine.proofs.Whole.{applied-call, applied-memory, sound-asked}
use Rattle.ang_host.specs.Logs.{listed_in}
use Rattle.ang_engine.proofs.Limiting.{within_none, within_reply}
use Rattle.ang_engine.proofs.Moved.{same_moved, nothing_built}
use Rattle.ang_engine.specs.Prepared.{HaveMoved}
use Rattle.ang_engine_modules.specs.States.{build_at}
use Rattle.ang_engine_modules.specs.declared.module.ModuleList.{ModuleList}
use Rattle.ang_engine.proofs.engine.Engine.call.Goals as goal

pub returns-in_default-clause-applied : goal.returns-in_default-clause-applied
returns-in_default-clause-applied g c =
    applied-memory (λ v. (g.dyn-1.0.entry v).1) (list_in c.args.self.now) (world_in (λ v. (g.dyn-1.0.entry v).1) c.args.self.now) c.args.self.now.machine.store
    (Call c.args.name c.args.decl c.args.args c.args.budget) _ refl c.answer.ensures.exact c.requires.sound.kept c.requires.sound.counted

pub returns-clause-applied : goal.returns-clause-applied
returns-clause-applied g c =
    applied-call (λ v. (g.dyn-1.0.entry v).1) (list_in c.args.self.now) (world_in (λ v. (g.dyn-1.0.entry v).1) c.args.self.now) _
    c.args.self.now.machine.store c.call_named-done.new.self.machine.store c.as_slice.result.now c.args.name c.as_slice-2.result.now c.args.decl c.as_slice-3.result.now c.args.args c.args.budget _
    c.call_named-done.result (listed_in c.call_named-done.new.events) c.as_slice.ensures.same c.as_slice-2.ensures.same c.as_slice-3.ensures.same
    c.call_reply.ensures.exact c.call_named-done.ensures.done c.call_named-done.ensures.asked c.call_named-done.ensures.refused

pub returns-clause-sound : goal.returns-clause-sound
returns-clause-sound g c =
    let gs = values_in c.args.self.now.machine.store.globals in
    let hs = values_in c.call_named-done.new.self.machine.store.globals in
    sound-asked (λ v. (g.dyn-1.0.entry v).1) c.args.self.now c.call_named-done.new.self _ _ c.requires.sound (ap (λ (r : Registrations). r.entries) c.call_named-done.ensures.registry)
    (subst (λ x. AreSoundModules (registrations c.args.self.now) x) (sym c.call_named-done.ensures.modules) c.requires.sound.modules)
    (subst (λ x. HaveGlobals x hs) (sym c.call_named-done.ensures.modules) (run_globals c.args.self.now.modules gs hs c.call_named-done.ensures.globals c.requires.sound.globals))
    c.call_named-done.ensures.asked (subst (λ x. AreNumbered x) (sym c.call_named-done.ensures.modules) c.requires.sound.numbered)

pub returns-in_default-clause-within : goal.returns-in_default-clause-within
returns-in_default-clause-within g c =
    let s = c.args.self.now.machine.store in
    within_reply (λ v. (g.dyn-1.0.entry v).1) s s _ _ c.answer.ensures.exact (within_none (λ v. (g.dyn-1.0.entry v).1) s)

pub returns-clause-within : goal.returns-clause-within
returns-clause-within g c =
    within_reply (λ v. (g.dyn-1.0.entry v).1) c.args.self.now.machine.store c.call_named-done.new.self.machine.store _ _ c.call_reply.ensures.exact c.call_named-done.ensures.asked.within

pub returns-clause-prepared : goal.returns-clause-prepared
returns-clause-prepared g c =
    let x = c.args.self.now.modules in
    subst (λ (y : ModuleList). HaveMoved None x.builds (build_at x.places.items) y.builds (build_at y.places.items)) (sym c.call_named-done.ensures.modules) (same_moved x x None refl (nothing_built x))

pub returns-in_default-clause-prepared : goal.returns-in_default-clause-prepared
returns-in_default-clause-prepared g c = same_moved c.args.self.now.modules c.args.self.now.modules None refl (nothing_built c.args.self.now.modules)
