use Rattle.std.proofs.Common.{[], Some, Ok, Err, length, map, sym, subst}
use Rattle.std.specs.Prelude.{slice_set}
use Rattle.ang_host.specs.Boxes.{members}
use Rattle.ang_meaning.specs.declared.slot.Slot.TheVariants.{Bits}
use Rattle.ang_meaning.specs.World.{World}
use Rattle.ang_heap.specs.Globals.{values_in}
use Rattle.ang_heap.specs.Stores.{world_of}
use Rattle.ang_vm.specs.Machines.{lent}
use Rattle.ang_engine_modules.specs.Loaded.{modules_of}
use Rattle.ang_engine_modules.specs.Modules.{AreDriversThere}
use Rattle.ang_engine_modules.specs.States.{program_in}
use Rattle.ang_engine.proofs.Starting.{first_values, none_set, put_lengths, ended_lengths, set_again, started-by, begun-world, run-begun, run-loaded}
use Rattle.ang_engine.proofs.Asking.{run-join, run-ended}
use Rattle.ang_engine.proofs.building.start.Goals as goal

pub initialize-requires-clause-drivers : goal.initialize-requires-clause-drivers
initialize-requires-clause-drivers g c =
    subst (λ ls. AreDriversThere (modules_of ls) (length (members c.args.machine.now.store.drivers))) (sym c.in-Ok.ensures.loaded) c.requires.drivers

pub initialize-requires-clause-counted : goal.initialize-requires-clause-counted
initialize-requires-clause-counted g c =
    let begun = run-begun (λ v. (g.dyn-1.0.entry v).1) [] c.args.home (lent c.args.machine.now c.args.events.now) c.put_globals.new.globals c.in-Ok.values.items c.put_globals.ensures.set
    (first_values c.load.new.code c.args.home c.in-Ok.values.items c.in-Ok.ensures.values) c.requires.none in
    begun.counted c.requires.counted

pub returns-in-Ok-initialize-clause-asked : goal.returns-in-Ok-initialize-clause-asked
returns-in-Ok-initialize-clause-asked g c =
    let ms = modules_of (slice_set c.args.code.now c.args.home (Some c.args.loaded)) in
    let begun = run-begun (λ v. (g.dyn-1.0.entry v).1) ms c.args.home (lent c.args.machine.now c.args.events.now) c.put_globals.new.globals c.in-Ok.values.items c.put_globals.ensures.set
    (first_values c.load.new.code c.args.home c.in-Ok.values.items c.in-Ok.ensures.values) c.requires.none in
    let s = record (lent c.args.machine.now c.args.events.now) { globals = c.put_globals.new.globals } in
    run-join (λ v. (g.dyn-1.0.entry v).1) ms (lent c.args.machine.now c.args.events.now) s (lent c.initialize.new.machine c.initialize.new.events) begun
    (run-loaded (λ v. (g.dyn-1.0.entry v).1) c.load.new.code (slice_set c.args.code.now c.args.home (Some c.args.loaded)) s (lent c.initialize.new.machine c.initialize.new.events)
    c.in-Ok.ensures.loaded c.initialize.ensures.asked c.initialize.ensures.moves c.initialize.ensures.ready c.initialize.ensures.counted)

pub returns-in-Ok-initialize-clause-started : goal.returns-in-Ok-initialize-clause-started
returns-in-Ok-initialize-clause-started g c =
    let u : World = world_of (λ v. (g.dyn-1.0.entry v).1) (lent c.args.machine.now c.args.events.now) in
    started-by (Ok (Bits 0)) _ (slice_set c.args.code.now c.args.home (Some c.args.loaded)) c.args.home c.args.budget (program_in c.args.loaded) u _ _ c.in-Ok.ensures.loaded
    (begun-world u _ c.args.code.now _ c.args.home c.args.loaded c.in-Ok.values.items c.requires.within c.in-Ok.ensures.loaded c.in-Ok.ensures.values c.put_globals.ensures.set)
    c.in-Ok-initialize.ensures.means

pub returns-in-Err-initialize-clause-started : goal.returns-in-Err-initialize-clause-started
returns-in-Err-initialize-clause-started g c =
    let u : World = world_of (λ v. (g.dyn-1.0.entry v).1) (lent c.args.machine.now c.args.events.now) in
    let x : World = world_of (λ v. (g.dyn-1.0.entry v).1) (lent c.initialize.new.machine c.initialize.new.events) in (
      x,
      started-by (Err c.in-Err-initialize.fault) _ (slice_set c.args.code.now c.args.home (Some c.args.loaded)) c.args.home c.args.budget (program_in c.args.loaded) u _ x c.in-Ok.ensures.loaded
          (begun-world u _ c.args.code.now _ c.args.home c.args.loaded c.in-Ok.values.items c.requires.within c.in-Ok.ensures.loaded c.in-Ok.ensures.values c.put_globals.ensures.set)
          c.in-Err-initialize.ensures.means,
      c.end_globals.ensures.ended,
    )

pub returns-in-Err-initialize-clause-asked : goal.returns-in-Err-initialize-clause-asked
returns-in-Err-initialize-clause-asked g c =
    let ms = modules_of (slice_set c.args.code.now c.args.home (Some c.args.loaded)) in
    let begun = run-begun (λ v. (g.dyn-1.0.entry v).1) ms c.args.home (lent c.args.machine.now c.args.events.now) c.put_globals.new.globals c.in-Ok.values.items c.put_globals.ensures.set
    (first_values c.load.new.code c.args.home c.in-Ok.values.items c.in-Ok.ensures.values) c.requires.none in
    let s = record (lent c.args.machine.now c.args.events.now) { globals = c.put_globals.new.globals } in
    let t = lent c.initialize.new.machine c.initialize.new.events in
    let u = lent c.end_globals.new.machine c.end_globals.new.events in
    run-join (λ v. (g.dyn-1.0.entry v).1) ms (lent c.args.machine.now c.args.events.now) s u begun
    (run-join (λ v. (g.dyn-1.0.entry v).1) ms s t u
    (run-loaded (λ v. (g.dyn-1.0.entry v).1) c.load.new.code (slice_set c.args.code.now c.args.home (Some c.args.loaded)) s t
    c.in-Ok.ensures.loaded c.initialize.ensures.asked c.initialize.ensures.moves c.initialize.ensures.ready c.initialize.ensures.counted)
    (run-ended (λ v. (g.dyn-1.0.entry v).1) ms c.args.home t u (c.end_globals.ensures.ended []) c.end_globals.ensures.moves))

pub returns-in-Err-clause-globals : goal.returns-in-Err-clause-globals
returns-in-Err-clause-globals g c = (0, none_set (values_in c.args.machine.now.store.globals) c.args.home c.requires.none)

pub returns-in-Ok-initialize-clause-globals : goal.returns-in-Ok-initialize-clause-globals
returns-in-Ok-initialize-clause-globals g c = (
  length c.in-Ok.values.items,
  put_lengths (values_in c.args.machine.now.store.globals) (values_in c.put_globals.new.globals) (values_in c.initialize.new.machine.store.globals) c.args.home c.in-Ok.values.items
      c.put_globals.ensures.set c.initialize.ensures.globals,
)

pub returns-in-Err-initialize-clause-globals : goal.returns-in-Err-initialize-clause-globals
returns-in-Err-initialize-clause-globals g c =
    let gs = values_in c.args.machine.now.store.globals in
    let hs = values_in c.initialize.new.machine.store.globals in
    let u : World = world_of (λ v. (g.dyn-1.0.entry v).1) (lent c.initialize.new.machine c.initialize.new.events) in
    let v : World = world_of (λ v. (g.dyn-1.0.entry v).1) (lent c.end_globals.new.machine c.end_globals.new.events) in (
      0,
      set_again (map length gs) (map length hs) (map length v.globals) c.args.home (length c.in-Ok.values.items) 0
          (put_lengths gs (values_in c.put_globals.new.globals) hs c.args.home c.in-Ok.values.items c.put_globals.ensures.set c.initialize.ensures.globals)
          (ended_lengths c.args.home u v (c.end_globals.ensures.ended [])),
    )
