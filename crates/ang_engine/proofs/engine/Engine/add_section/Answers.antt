use Rattle.std.proofs.Common.{refl, None}
use Rattle.ang_heap.specs.Globals.{values_in}
use Rattle.ang_heap.specs.Stores.{world_of}
use Rattle.ang_engine.specs.Engines.{list_in, registrations, world_in}
use Rattle.ang_engine.proofs.Kept.{kept_sound, kept_globals}
use Rattle.ang_engine.proofs.Whole.{applied-done}
use Rattle.ang_engine.proofs.Limiting.{within_none, within_reply}
use Rattle.ang_engine.proofs.Moved.{same_numbers, same_moved}
use Rattle.ang_engine.proofs.engine.Engine.add_section.Goals as goal

pub returns-clause-applied : goal.returns-clause-applied
returns-clause-applied g c =
    let s = c.args.self.now.machine.store in
    applied-done (λ v. (g.dyn-1.0.entry v).1) (list_in c.args.self.now) (world_in (λ v. (g.dyn-1.0.entry v).1) c.args.self.now) _ s s _ _
    c.add_section-done.result c.ended.result refl c.ended.ensures.exact c.answer.ensures.exact (c.add_section-done.ensures.done (world_of (λ v. (g.dyn-1.0.entry v).1) s))
    c.requires.sound.kept c.requires.sound.counted refl

pub returns-clause-sound : goal.returns-clause-sound
returns-clause-sound g c =
    let x = c.args.self.now.modules in
    let y = c.add_section-done.new.list in
    record {
      modules = kept_sound (registrations c.args.self.now) x y c.add_section-done.ensures.kept c.requires.sound.modules;
      globals = kept_globals x y (values_in c.args.self.now.machine.store.globals) c.add_section-done.ensures.kept c.requires.sound.globals;
      in_list = c.requires.sound.in_list;
      kept = c.requires.sound.kept;
      counted = c.requires.sound.counted;
      numbered = same_numbers x y c.add_section-done.ensures.builds c.requires.sound.numbered;
    }

pub returns-clause-within : goal.returns-clause-within
returns-clause-within g c =
    let s = c.args.self.now.machine.store in
    within_reply (λ v. (g.dyn-1.0.entry v).1) s s _ _ c.answer.ensures.exact (within_none (λ v. (g.dyn-1.0.entry v).1) s)

pub returns-clause-prepared : goal.returns-clause-prepared
returns-clause-prepared g c = same_moved c.args.self.now.modules c.add_section-done.new.list None refl c.add_section-done.ensures.builds
