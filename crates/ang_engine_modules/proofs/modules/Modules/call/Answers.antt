use Rattle.std.proofs.Common.{length}
use Rattle.ang_host.specs.Boxes.{members}
use Rattle.ang_heap.specs.Stores.{world_of}
use Rattle.ang_vm.specs.Machines.{lent}
use Rattle.ang_engine_modules.proofs.Serving.{there, have, call_ended}
use Rattle.ang_engine_modules.proofs.modules.Modules.call.Goals as goal

pub run-requires-clause-drivers : goal.run-requires-clause-drivers
run-requires-clause-drivers g c =
    let x = c.self.inside in
    there x.table x.loaded.items c.args.self.now c.self.invariant c.self.view_is (length (members c.args.machine.now.store.drivers)) c.requires.drivers

pub returns-clause-means : goal.returns-clause-means
returns-clause-means g c =
    let x = c.self.inside in
    (call_ended x.table x.loaded.items c.args.self.now c.self.invariant c.self.view_is c.args.budget c.args.home c.args.number c.args.args.now
    (world_of (λ v. (g.dyn-1.0.entry v).1) (lent c.args.machine.now c.args.events.now)) (world_of (λ v. (g.dyn-1.0.entry v).1) (lent c.run.new.machine c.run.new.events))
    c.run.result c.requires.counted c.requires.takes c.run.ensures.told).means

pub returns-clause-asked : goal.returns-clause-asked
returns-clause-asked g c =
    let x = c.self.inside in
    (call_ended x.table x.loaded.items c.args.self.now c.self.invariant c.self.view_is c.args.budget c.args.home c.args.number c.args.args.now
    (world_of (λ v. (g.dyn-1.0.entry v).1) (lent c.args.machine.now c.args.events.now)) (world_of (λ v. (g.dyn-1.0.entry v).1) (lent c.run.new.machine c.run.new.events))
    c.run.result c.requires.counted c.requires.takes c.run.ensures.told).asked

pub returns-clause-counted : goal.returns-clause-counted
returns-clause-counted g c =
    let x = c.self.inside in
    (call_ended x.table x.loaded.items c.args.self.now c.self.invariant c.self.view_is c.args.budget c.args.home c.args.number c.args.args.now
    (world_of (λ v. (g.dyn-1.0.entry v).1) (lent c.args.machine.now c.args.events.now)) (world_of (λ v. (g.dyn-1.0.entry v).1) (lent c.run.new.machine c.run.new.events))
    c.run.result c.requires.counted c.requires.takes c.run.ensures.told).counted

pub returns-clause-globals : goal.returns-clause-globals
returns-clause-globals g c =
    let x = c.self.inside in
    (call_ended x.table x.loaded.items c.args.self.now c.self.invariant c.self.view_is c.args.budget c.args.home c.args.number c.args.args.now
    (world_of (λ v. (g.dyn-1.0.entry v).1) (lent c.args.machine.now c.args.events.now)) (world_of (λ v. (g.dyn-1.0.entry v).1) (lent c.run.new.machine c.run.new.events))
    c.run.result c.requires.counted c.requires.takes c.run.ensures.told).globals

pub returns-clause-moves : goal.returns-clause-moves
returns-clause-moves g c = λ roles agrees.
    let x = c.self.inside in
    c.run.ensures.moves roles (have x.table x.loaded.items c.args.self.now c.self.invariant c.self.view_is roles agrees)
