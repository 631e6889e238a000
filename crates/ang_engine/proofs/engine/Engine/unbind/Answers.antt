use Rattle.std.proofs.Common.{refl, ap, None}
use Rattle.ang_heap.specs.Globals.{values_in}
use Rattle.ang_heap.specs.Stores.{world_of}
use Rattle.ang_engine.specs.Engines.{list_in, registrations, world_in}
use Rattle.ang_engine.proofs.Kept.{linked_or_same, same_places}
use Rattle.ang_engine.proofs.Whole.{applied-unbind}
use Rattle.ang_engine.proofs.Limiting.{within_none, within_reply}
use Rattle.ang_engine_modules.proofs.Numbering.{same_builds}
use Rattle.ang_engine.proofs.Moved.{same_numbers, same_moved}
use Rattle.ang_engine.proofs.engine.Engine.unbind.Goals as goal

pub returns-clause-applied : goal.returns-clause-applied
returns-clause-applied g c =
    let s = c.args.self.now.machine.store in
    applied-unbind (λ v. (g.dyn-1.0.entry v).1) (list_in c.args.self.now) (world_in (λ v. (g.dyn-1.0.entry v).1) c.args.self.now) _ s s
    c.as_slice.result.now c.args.name c.args.index _ c.unbind-done.result c.ended.result c.as_slice.ensures.same c.ended.ensures.exact c.answer.ensures.exact
    (c.unbind-done.ensures.done (world_of (λ v. (g.dyn-1.0.entry v).1) s)) c.requires.sound.kept c.requires.sound.counted refl

pub returns-clause-sound : goal.returns-clause-sound
returns-clause-sound g c =
    let x = c.args.self.now.modules in
    let u = c.unbind-done in
    record {
      modules = linked_or_same (registrations c.args.self.now) x u.new.list u.result c.args.index None u.ensures.places u.ensures.order u.ensures.code u.ensures.code_unchanged c.requires.sound.modules;
      globals = same_places x u.new.list (values_in c.args.self.now.machine.store.globals) u.ensures.places c.requires.sound.globals;
      in_list = c.requires.sound.in_list;
      kept = c.requires.sound.kept;
      counted = c.requires.sound.counted;
      numbered = same_numbers c.args.self.now.modules c.unbind-done.new.list (same_builds c.args.self.now.modules c.unbind-done.new.list (ap (λ v. v.items) c.unbind-done.ensures.places) c.unbind-done.ensures.builds) c.requires.sound.numbered;
    }

pub returns-clause-within : goal.returns-clause-within
returns-clause-within g c =
    let s = c.args.self.now.machine.store in
    within_reply (λ v. (g.dyn-1.0.entry v).1) s s _ _ c.answer.ensures.exact (within_none (λ v. (g.dyn-1.0.entry v).1) s)

pub returns-clause-prepared : goal.returns-clause-prepared
returns-clause-prepared g c = same_moved c.args.self.now.modules c.unbind-done.new.list None refl (same_builds c.args.self.now.modules c.unbind-done.new.list (ap (λ v. v.items) c.unbind-done.ensures.places) c.unbind-done.ensures.builds)
