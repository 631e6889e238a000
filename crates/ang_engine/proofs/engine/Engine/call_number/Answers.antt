use Rattle.std.proofs.Common.{Some, None, refl, inr}
use Rattle.std.specs.Prelude.{Ok, Err, IsSome, slice_get, slice_index_or}
use Rattle.ang_heap.specs.Stores.{world_of}
use Rattle.ang_vm.specs.Machines.{lent}
use Rattle.ang_engine_modules.specs.Loaded.{modules_of}
use Rattle.ang_engine_modules.specs.World.{left_to}
use Rattle.ang_engine_modules.specs.States.{states_in, program_in}
use Rattle.ang_engine.specs.Engines.{registrations, world_in}
use Rattle.ang_engine.specs.Step.{of_function}
use Rattle.ang_engine.proofs.Between.{left_without, run_begins}
use Rattle.ang_engine.proofs.Places.{places_built}
use Rattle.ang_engine.proofs.Entries.{drivers_there}
use Rattle.ang_engine.proofs.Calls.{call-run, number-one}
use Rattle.ang_engine.proofs.Named.{program_there, program_none, there_loaded, takes_chosen, typed_chosen, chosen_refused, numbered-unbuilt, numbered-built}
use Rattle.ang_engine.proofs.Refusing.{called_ended}
use Rattle.ang_engine.proofs.Asking.{asked-run, heard-run}
use Rattle.ang_host.specs.Logs.{listed_in}
use Rattle.ang_engine.proofs.engine.Engine.call_number.Goals as goal

pub returns-in_default-clause-done : goal.returns-in_default-clause-done
returns-in_default-clause-done g c =
    let m = c.args.self.now.modules in
    let w = world_in (λ v. (g.dyn-1.0.entry v).1) c.args.self.now in (
      inr (λ rest.
          numbered-unbuilt w c.args.home c.args.number c.args.args.now c.args.budget rest (program_none m.places.items m.code c.args.home c.in_default.ensures.exact)),
      refl,
    )

pub returns-in-Err-clause-done : goal.returns-in-Err-clause-done
returns-in-Err-clause-done g c =
    let m = c.args.self.now.modules in
    let w = world_in (λ v. (g.dyn-1.0.entry v).1) c.args.self.now in
    let l = c.in-Some.loaded.now in
    let there : IsSome (slice_index_or m.places.items c.args.home None) =
    there_loaded (registrations c.args.self.now) m.places.items m.code c.args.home l c.requires.sound.modules.each c.in-Some.ensures.exact in
    numbered-built w c.args.home c.args.number c.args.args.now c.args.budget (program_in l) (Err c.in-Err.refusal) (listed_in c.args.events.now) w
    (program_there m.places.items m.code c.args.home (Some l) there c.in-Some.ensures.exact)
    (chosen_refused c.in-Err.refusal (of_function c.args.number (slice_get l.names.functions c.args.number) c.args.args.now) w c.args.home c.args.budget c.in-Err.ensures.chosen)

pub run_chosen-requires-clause-drivers : goal.run_chosen-requires-clause-drivers
run_chosen-requires-clause-drivers g c =
    let m = c.args.self.now.modules in
    drivers_there (registrations c.args.self.now) m.places.items m.code _ c.requires.sound.modules.each c.requires.sound.in_list

pub run_chosen-requires-clause-takes : goal.run_chosen-requires-clause-takes
run_chosen-requires-clause-takes g c =
    let m = c.args.self.now.modules in
    takes_chosen (registrations c.args.self.now) m.places.items m.code c.args.home c.in-Some.loaded.now c.args.number c.args.args.now c.in-Ok.chosen
    c.requires.sound.modules.each c.in-Some.ensures.exact c.in-Ok.ensures.chosen

pub returns-in-Ok-clause-done : goal.returns-in-Ok-clause-done
returns-in-Ok-clause-done g c =
    let m = c.args.self.now.modules in
    let w = world_in (λ v. (g.dyn-1.0.entry v).1) c.args.self.now in
    let l = c.in-Some.loaded.now in
    let there : IsSome (slice_index_or m.places.items c.args.home None) =
    there_loaded (registrations c.args.self.now) m.places.items m.code c.args.home l c.requires.sound.modules.each c.in-Some.ensures.exact in
    numbered-built w c.args.home c.args.number c.args.args.now c.args.budget (program_in l) (Ok c.run_chosen.result) (listed_in c.run_chosen.new.events) _
    (program_there m.places.items m.code c.args.home (Some l) there c.in-Some.ensures.exact)
    (call-run (program_in l) (modules_of m.code) (of_function c.args.number (slice_get l.names.functions c.args.number) c.args.args.now) c.args.home c.args.budget c.in-Ok.chosen c.in-Ok.ensures.chosen.0
    c.run_chosen.result w (left_to (states_in m) (world_of (λ v. (g.dyn-1.0.entry v).1) c.run_chosen.new.machine.store))
    (world_of (λ v. (g.dyn-1.0.entry v).1) (lent c.args.self.now.machine c.args.events.now)) (world_of (λ v. (g.dyn-1.0.entry v).1) (lent c.run_chosen.new.machine c.run_chosen.new.events))
    (places_built (registrations c.args.self.now) m.places.items m.code m.order.items c.requires.sound.modules.each) c.requires.first
    (λ is. run_begins (λ v. (g.dyn-1.0.entry v).1) (states_in m) c.args.self.now.machine.store c.args.events.now is c.requires.first)
    (left_without (λ v. (g.dyn-1.0.entry v).1) (states_in m) c.run_chosen.new.machine.store c.run_chosen.new.events) c.in-Ok.ensures.chosen.1
    (number-one l.names.functions c.args.number c.args.args.now c.in-Ok.chosen.number c.in-Ok.ensures.chosen.0 c.in-Ok.chosen.args.items c.in-Ok.ensures.chosen.1).at
    (c.run_chosen.ensures.means l.names
    (typed_chosen (registrations c.args.self.now) m.places.items m.code c.args.home l c.args.number c.args.args.now c.in-Ok.chosen c.requires.sound.modules.each
    c.in-Some.ensures.exact c.in-Ok.ensures.chosen)))

pub returns-in-Ok-clause-asked : goal.returns-in-Ok-clause-asked
returns-in-Ok-clause-asked g c =
    let m = c.args.self.now.modules in
    asked-run (λ v. (g.dyn-1.0.entry v).1) (registrations c.args.self.now) c.args.self.now.machine.store c.run_chosen.new.machine.store c.args.events.now c.run_chosen.new.events
    c.requires.first c.requires.ready c.requires.sound.counted m.places.items m.code m.code m.order.items
    (world_of (λ v. (g.dyn-1.0.entry v).1) c.run_chosen.new.machine.store) c.requires.sound.modules.each c.requires.sound.modules.apart c.run_chosen.ensures.asked

pub returns-in-Ok-clause-refused : goal.returns-in-Ok-clause-refused
returns-in-Ok-clause-refused g c =
    let m = c.args.self.now.modules in
    let l = c.in-Some.loaded.now in
    let means = c.run_chosen.ensures.means l.names
    (typed_chosen (registrations c.args.self.now) m.places.items m.code c.args.home l c.args.number c.args.args.now c.in-Ok.chosen c.requires.sound.modules.each
    c.in-Some.ensures.exact c.in-Ok.ensures.chosen) in
    called_ended means.function means.value c.run_chosen.result _ means.ended

pub returns-in-Ok-clause-heard : goal.returns-in-Ok-clause-heard
returns-in-Ok-clause-heard g c =
    let m = c.args.self.now.modules in
    heard-run (λ v. (g.dyn-1.0.entry v).1) (registrations c.args.self.now) c.args.self.now.machine.store c.run_chosen.new.machine.store c.args.events.now c.run_chosen.new.events
    c.requires.first c.requires.ready c.requires.sound.counted m.places.items m.code c.requires.sound.modules.each c.run_chosen.ensures.asked
