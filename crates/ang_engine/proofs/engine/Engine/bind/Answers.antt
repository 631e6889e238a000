use Rattle.std.proofs.Common.{refl, ap, None}
use Rattle.ang_heap.specs.Globals.{values_in}
use Rattle.ang_heap.specs.Stores.{world_of}
use Rattle.ang_engine.specs.Engines.{list_in, registrations, world_in}
use Rattle.ang_engine.proofs.Kept.{same_places}
use Rattle.ang_engine.proofs.Whole.{applied-bind}
use Rattle.ang_engine.proofs.Limiting.{within_none, within_reply}
use Rattle.ang_engine_modules.proofs.Numbering.{same_builds}
use Rattle.ang_engine.proofs.Moved.{same_numbers, same_moved}
use Rattle.ang_engine.proofs.engine.Engine.bind.Goals as goal

pub bind-done-requires : goal.bind-done-requires
bind-done-requires g c = record { modules = (registrations c.args.self.now, c.requires.sound.modules) }

pub returns-clause-applied : goal.returns-clause-applied
returns-clause-applied g c =
    let s = c.args.self.now.machine.store in
    applied-bind (λ v. (g.dyn-1.0.entry v).1) (list_in c.args.self.now) (world_in (λ v. (g.dyn-1.0.entry v).1) c.args.self.now) _ s s
    c.as_slice.result.now c.args.name c.args.index c.as_slice-2.result.now c.args.exporter c.as_slice-3.result.now c.args.decl _ c.bind-done.result c.ended.result
    c.as_slice.ensures.same c.as_slice-2.ensures.same c.as_slice-3.ensures.same c.ended.ensures.exact c.answer.ensures.exact (c.bind-done.ensures.done (world_of (λ v. (g.dyn-1.0.entry v).1) s))
    c.requires.sound.kept c.requires.sound.counted refl

pub returns-clause-sound : goal.returns-clause-sound
returns-clause-sound g c = record {
  modules = c.bind-done.ensures.sound (registrations c.args.self.now) c.requires.sound.modules;
  globals = same_places c.args.self.now.modules c.bind-done.new.list (values_in c.args.self.now.machine.store.globals) c.bind-done.ensures.places c.requires.sound.globals;
  in_list = c.requires.sound.in_list;
  kept = c.requires.sound.kept;
  counted = c.requires.sound.counted;
  numbered = same_numbers c.args.self.now.modules c.bind-done.new.list (same_builds c.args.self.now.modules c.bind-done.new.list (ap (λ v. v.items) c.bind-done.ensures.places) c.bind-done.ensures.builds) c.requires.sound.numbered;
}

pub returns-clause-within : goal.returns-clause-within
returns-clause-within g c =
    let s = c.args.self.now.machine.store in
    within_reply (λ v. (g.dyn-1.0.entry v).1) s s _ _ c.answer.ensures.exact (within_none (λ v. (g.dyn-1.0.entry v).1) s)

pub returns-clause-prepared : goal.returns-clause-prepared
returns-clause-prepared g c = same_moved c.args.self.now.modules c.bind-done.new.list None refl (same_builds c.args.self.now.modules c.bind-done.new.list (ap (λ v. v.items) c.bind-done.ensures.places) c.bind-done.ensures.builds)
