use Rattle.std.proofs.Common.{refl, None}
use Rattle.ang_heap.specs.Globals.{values_in}
use Rattle.ang_heap.specs.Stores.{world_of}
use Rattle.ang_engine.specs.Engines.{list_in, registrations, world_in}
use Rattle.ang_engine.specs.Sound.{IsSoundPlace}
use Rattle.ang_engine_modules.proofs.Worlds.{zip_length}
use Rattle.ang_engine.proofs.Kept.{nothing_built, added_sound, added_globals, added_counted}
use Rattle.ang_engine.proofs.Whole.{applied-done}
use Rattle.ang_engine.proofs.Limiting.{within_globals, within_reply}
use Rattle.ang_engine.proofs.Moved.{same_numbers, same_moved}
use Rattle.ang_engine.proofs.engine.Engine.new_module.Goals as goal

pub add_module-done-requires-clause-zipped : goal.add_module-done-requires-clause-zipped
add_module-done-requires-clause-zipped g c = zip_length (IsSoundPlace (registrations c.args.self.now)) _ _ c.requires.sound.modules.each

pub add_module-done-requires-clause-empty : goal.add_module-done-requires-clause-empty
add_module-done-requires-clause-empty g c = λ i at. nothing_built (registrations c.args.self.now) _ _ i c.requires.sound.modules.each at

pub returns-clause-applied : goal.returns-clause-applied
returns-clause-applied g c =
    let s = c.args.self.now.machine.store in
    let w = world_of (λ v. (g.dyn-1.0.entry v).1) s in
    let a = c.add_module-done in
    applied-done (λ v. (g.dyn-1.0.entry v).1) (list_in c.args.self.now) (world_in (λ v. (g.dyn-1.0.entry v).1) c.args.self.now) _ s (record s { globals = a.new.globals }) _ _
    a.result c.ended.result refl c.ended.ensures.exact c.answer.ensures.exact (a.ensures.done w)
    (record { drivers = c.requires.sound.kept.drivers; alive = c.requires.sound.kept.alive; none = c.requires.sound.kept.none; due = c.requires.sound.kept.due; tallied = c.requires.sound.kept.tallied })
    (added_counted c.args.self.now.modules a.new.list (values_in s.globals) (values_in a.new.globals) c.args.name a.result w a.ensures.taken a.ensures.globals_unchanged c.requires.sound.counted) refl

pub returns-clause-sound : goal.returns-clause-sound
returns-clause-sound g c =
    let s = c.args.self.now.machine.store in
    let w = world_of (λ v. (g.dyn-1.0.entry v).1) s in
    let x = c.args.self.now.modules in
    let a = c.add_module-done in
    let gs = values_in s.globals in
    let hs = values_in a.new.globals in
    record {
      modules = added_sound x a.new.list gs hs c.args.name (registrations c.args.self.now) a.result a.ensures.taken a.ensures.free a.ensures.unchanged c.requires.sound.modules;
      globals = added_globals x a.new.list gs hs c.args.name a.result a.ensures.taken a.ensures.unchanged a.ensures.globals_unchanged c.requires.sound.globals;
      in_list = c.requires.sound.in_list;
      kept = record { drivers = c.requires.sound.kept.drivers; alive = c.requires.sound.kept.alive; none = c.requires.sound.kept.none; due = c.requires.sound.kept.due; tallied = c.requires.sound.kept.tallied };
      counted = added_counted x a.new.list gs hs c.args.name a.result w a.ensures.taken a.ensures.globals_unchanged c.requires.sound.counted;
      numbered = same_numbers x a.new.list a.ensures.builds c.requires.sound.numbered;
    }

pub returns-clause-within : goal.returns-clause-within
returns-clause-within g c =
    let s = c.args.self.now.machine.store in
    let gs = c.add_module-done.new.globals in
    within_reply (λ v. (g.dyn-1.0.entry v).1) s (record s { globals = gs }) _ _ c.answer.ensures.exact (within_globals (λ v. (g.dyn-1.0.entry v).1) s gs)

pub returns-clause-prepared : goal.returns-clause-prepared
returns-clause-prepared g c = same_moved c.args.self.now.modules c.add_module-done.new.list None refl c.add_module-done.ensures.builds
