use Rattle.std.proofs.Common.{◌≡◌, [], Some, None, refl, inr, subst}
use Rattle.ang_heap.specs.Globals.{values_in}
use Rattle.ang_engine_modules.specs.Commands.{discard}
use Rattle.ang_engine_modules.specs.World.{module_named}
use Rattle.ang_engine_modules.proofs.Finding.{found_same, on_module-none}
use Rattle.ang_engine.specs.Engines.{registrations, world_in}
use Rattle.ang_engine.proofs.Asking.{asked-nothing}
use Rattle.ang_engine.proofs.Kept.{removed_sound, removed_globals}
use Rattle.ang_engine.proofs.Removing.{removed-values, removed-leads, removed-asked}
use Rattle.ang_engine.proofs.Whole.{sound-asked}
use Rattle.ang_host.specs.Logs.{listed_in}
use Rattle.ang_engine.proofs.Moved.{same_moved, nothing_built, gone_numbers, gone_moved}
use Rattle.ang_engine_modules.specs.States.{build_at}
use Rattle.ang_engine.specs.Prepared.{HaveMoved}
use Rattle.ang_engine.proofs.engine.Engine.discard_named.Goals as goal

-- ---- there is no module of that name

pub returns-in_default-clause-done : goal.returns-in_default-clause-done
returns-in_default-clause-done g c =
    let w = world_in (λ v. (g.dyn-1.0.entry v).1) c.args.self.now in
    (inr (λ rest. on_module-none c.args.name.now w rest (discard w) (found_same _ _ _ c.args.self.now.modules.code _ _ (c.in_default.ensures.exact c.args.self.now.modules.code) c.deref.ensures.value refl)), refl)

pub returns-in_default-clause-asked : goal.returns-in_default-clause-asked
returns-in_default-clause-asked g c =
    asked-nothing (λ v. (g.dyn-1.0.entry v).1) (registrations c.args.self.now) (world_in (λ v. (g.dyn-1.0.entry v).1) c.args.self.now) c.args.self.now.machine.store
    c.requires.sound.kept c.requires.sound.counted

-- ---- it is discarded

pub returns-clause-done : goal.returns-clause-done
returns-clause-done g c =
    let x = c.args.self.now.modules in
    let found : Some c.in-Some.home ≡ module_named c.args.name.now (world_in (λ v. (g.dyn-1.0.entry v).1) c.args.self.now) =
    found_same _ _ _ x.code _ _ (c.in-Some.ensures.exact x.code) c.deref.ensures.value refl in
    removed-leads (λ v. (g.dyn-1.0.entry v).1) (registrations c.args.self.now) x c.remove_module.new.list c.in-Some.home c.args.self.now.machine.store c.end_globals.new.machine.store
    c.args.events.now c.end_globals.new.events c.requires.first c.end_globals.ensures.ended c.requires.sound.modules.each c.remove_module.ensures.places c.remove_module.ensures.code
    c.remove_module.ensures.order c.args.name.now found

pub returns-clause-asked : goal.returns-clause-asked
returns-clause-asked g c =
    removed-asked (λ v. (g.dyn-1.0.entry v).1) (registrations c.args.self.now) c.args.self.now.modules c.remove_module.new.list c.in-Some.home c.args.self.now.machine.store
    c.end_globals.new.machine.store c.args.events.now c.end_globals.new.events c.requires.first c.end_globals.ensures.ended _ c.requires.ready c.requires.sound.counted c.end_globals.ensures.moves

pub returns-clause-sound : goal.returns-clause-sound
returns-clause-sound g c =
    let R = registrations c.args.self.now in
    let x = c.args.self.now.modules in
    let y = c.remove_module.new.list in
    let s = c.args.self.now.machine.store in
    let t = c.end_globals.new.machine.store in
    let f = record c.args.self.now { modules = y; machine = c.end_globals.new.machine } in
    sound-asked (λ v. (g.dyn-1.0.entry v).1) c.args.self.now f (world_in (λ v. (g.dyn-1.0.entry v).1) f) (listed_in c.end_globals.new.events) c.requires.sound refl
    (removed_sound x y c.in-Some.home c.remove_module.ensures.places R c.remove_module.ensures.code c.remove_module.ensures.order c.requires.sound.modules)
    (removed_globals x y c.in-Some.home c.remove_module.ensures.places (values_in s.globals) (values_in t.globals)
    (removed-values (λ v. (g.dyn-1.0.entry v).1) R x y c.in-Some.home s t c.args.events.now c.end_globals.new.events c.requires.first c.end_globals.ensures.ended) c.requires.sound.globals)
    (removed-asked (λ v. (g.dyn-1.0.entry v).1) R x y c.in-Some.home s t c.args.events.now c.end_globals.new.events c.requires.first c.end_globals.ensures.ended _ c.requires.ready c.requires.sound.counted
    c.end_globals.ensures.moves)
    (gone_numbers x y c.in-Some.home c.remove_module.ensures.places c.remove_module.ensures.builds c.requires.sound.numbered)

pub returns-clause-heard : goal.returns-clause-heard
returns-clause-heard g c = (c.end_globals.ensures.moves []).heard

pub returns-in_default-clause-prepared : goal.returns-in_default-clause-prepared
returns-in_default-clause-prepared g c = same_moved c.args.self.now.modules c.args.self.now.modules None refl (nothing_built c.args.self.now.modules)

pub returns-clause-prepared : goal.returns-clause-prepared
returns-clause-prepared g c =
    let x = c.args.self.now.modules in
    let y = c.remove_module.new.list in
    let found : Some c.in-Some.home ≡ module_named c.args.name.now (world_in (λ v. (g.dyn-1.0.entry v).1) c.args.self.now) =
    found_same _ _ _ x.code _ _ (c.in-Some.ensures.exact x.code) c.deref.ensures.value refl in
    subst (λ o. HaveMoved o x.builds (build_at x.places.items) y.builds (build_at y.places.items)) found
    (gone_moved x y c.in-Some.home c.remove_module.ensures.places c.remove_module.ensures.builds)
