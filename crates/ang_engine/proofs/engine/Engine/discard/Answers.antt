use Rattle.std.proofs.Common.{◌≡◌, [], refl, sym, ap, ◌∙◌, subst, All}
use Rattle.ang_host.specs.Logs.{listed_in}
use Rattle.ang_host.specs.Boxes.{members}
use Rattle.ang_host.specs.Members.{states_of, AreFresh}
use Rattle.ang_host.specs.Counts.{IsBalanced}
use Rattle.ang_host.specs.Events.{DriversFollow}
use Rattle.ang_meaning.specs.World.{World as RunWorld}
use Rattle.ang_heap.specs.Globals.{values_in}
use Rattle.ang_heap.specs.Heaps.{objects_of}
use Rattle.ang_heap.specs.Parts.{counts_of, world_by}
use Rattle.ang_engine_modules.specs.World.{unbounded, all_ended, running, engine_ended}
use Rattle.ang_engine.specs.Engines.{registrations, world_in}
use Rattle.ang_engine.proofs.Discarding.{AreGivenBack, AreListed, all_listed, discarded, discarded-follow}
use Rattle.ang_engine.proofs.engine.Engine.discard.Goals as goal

pub returns-clause-ended : goal.returns-clause-ended
returns-clause-ended g c = λ roles.
    let s = c.args.self.machine.store in
    let os = objects_of s.heap in
    let hs = counts_of (λ v. (g.dyn-1.0.entry v).1) (members s.drivers) in
    let gs = values_in s.globals in
    let w = world_in (λ v. (g.dyn-1.0.entry v).1) c.args.self in
    let none = c.requires.sound.kept.none in
    let all : engine_ended w ≡ all_ended c.deref.result.now (world_by os hs gs (listed_in s.ends) w.live s.spent w.bounds []) =
    ap (λ is. all_ended is (running w [])) (sym c.deref.ensures.value) ∙ ap (λ es. all_ended c.deref.result.now (world_by os hs gs es w.live s.spent w.bounds [])) (sym none) in
    subst (λ bs. DriversFollow (λ v. (g.dyn-1.0.entry v).1) roles (members s.drivers) (engine_ended w).events bs) (sym c.into_boxes.ensures.same)
    (discarded-follow (λ v. (g.dyn-1.0.entry v).1) roles (members s.drivers) (members c.end_all.new.drivers) (listed_in s.ends) (listed_in c.end_all.new.ends) _
    none (ap (λ (w : RunWorld). w.events) (all ∙ c.end_all.ensures.ended w.live s.spent w.bounds [])) (c.end_all.ensures.moves roles))

pub returns-clause-balanced : goal.returns-clause-balanced
returns-clause-balanced g c =
    let s = c.args.self.machine.store in
    let gs = values_in s.globals in
    let r : RunWorld = world_by (objects_of s.heap) (counts_of (λ v. (g.dyn-1.0.entry v).1) (members s.drivers)) gs (listed_in s.ends) 0 s.spent unbounded [] in
    let listed : AreListed c.deref.result.now gs =
    subst (λ is. AreListed is gs) (sym c.deref.ensures.value) (all_listed (registrations c.args.self) c.args.self.modules gs c.requires.sound.modules c.requires.sound.globals) in
    let p : AreGivenBack (states_of (λ v. (g.dyn-1.0.entry v).1) (members c.end_all.new.drivers)) =
    discarded _ c.deref.result.now r _ c.requires.sound.counted listed (c.end_all.ensures.ended 0 s.spent unbounded []) refl c.end_all.ensures.ready.sound in
    subst (λ bs. All IsBalanced (states_of (λ v. (g.dyn-1.0.entry v).1) bs)) (sym c.into_boxes.ensures.same) p.balanced

pub returns-clause-fresh : goal.returns-clause-fresh
returns-clause-fresh g c =
    let s = c.args.self.machine.store in
    let gs = values_in s.globals in
    let r : RunWorld = world_by (objects_of s.heap) (counts_of (λ v. (g.dyn-1.0.entry v).1) (members s.drivers)) gs (listed_in s.ends) 0 s.spent unbounded [] in
    let listed : AreListed c.deref.result.now gs =
    subst (λ is. AreListed is gs) (sym c.deref.ensures.value) (all_listed (registrations c.args.self) c.args.self.modules gs c.requires.sound.modules c.requires.sound.globals) in
    let p : AreGivenBack (states_of (λ v. (g.dyn-1.0.entry v).1) (members c.end_all.new.drivers)) =
    discarded _ c.deref.result.now r _ c.requires.sound.counted listed (c.end_all.ensures.ended 0 s.spent unbounded []) refl c.end_all.ensures.ready.sound in
    subst (λ bs. AreFresh (states_of (λ v. (g.dyn-1.0.entry v).1) bs)) (sym c.into_boxes.ensures.same) p.fresh
