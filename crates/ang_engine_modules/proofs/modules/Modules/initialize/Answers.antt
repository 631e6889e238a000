use Rattle.std.proofs.Common.{length}
use Rattle.ang_host.specs.Boxes.{members}
use Rattle.ang_heap.specs.Stores.{world_of}
use Rattle.ang_vm.specs.Machines.{lent}
use Rattle.ang_engine_modules.specs.Ends.{completed}
use Rattle.ang_engine_modules.proofs.Serving.{there, have, initializers_ended}
use Rattle.ang_engine_modules.proofs.modules.Modules.initialize.Goals as goal

pub run_initializers-requires-clause-drivers : goal.run_initializers-requires-clause-drivers
run_initializers-requires-clause-drivers g c =
    let x = c.self.inside in
    there x.table x.loaded.items c.args.self.now c.self.invariant c.self.view_is (length (members c.args.machine.now.store.drivers)) c.requires.drivers

pub returns-clause-means : goal.returns-clause-means
returns-clause-means g c =
    let x = c.self.inside in
    (initializers_ended x.table x.loaded.items c.args.self.now c.self.invariant c.self.view_is c.args.budget c.args.home c.function_count-first.result c.body_count-end.result
    (world_of (λ v. (g.dyn-1.0.entry v).1) (lent c.args.machine.now c.args.events.now))
    (world_of (λ v. (g.dyn-1.0.entry v).1) (lent c.run_initializers.new.machine c.run_initializers.new.events))
    (completed c.run_initializers.result) c.function_count-first.ensures.exact c.body_count-end.ensures.exact c.run_initializers.ensures.begun).means

pub returns-clause-asked : goal.returns-clause-asked
returns-clause-asked g c =
    let x = c.self.inside in
    (initializers_ended x.table x.loaded.items c.args.self.now c.self.invariant c.self.view_is c.args.budget c.args.home c.function_count-first.result c.body_count-end.result
    (world_of (λ v. (g.dyn-1.0.entry v).1) (lent c.args.machine.now c.args.events.now))
    (world_of (λ v. (g.dyn-1.0.entry v).1) (lent c.run_initializers.new.machine c.run_initializers.new.events))
    (completed c.run_initializers.result) c.function_count-first.ensures.exact c.body_count-end.ensures.exact c.run_initializers.ensures.begun).asked

pub returns-clause-counted : goal.returns-clause-counted
returns-clause-counted g c =
    let x = c.self.inside in
    (initializers_ended x.table x.loaded.items c.args.self.now c.self.invariant c.self.view_is c.args.budget c.args.home c.function_count-first.result c.body_count-end.result
    (world_of (λ v. (g.dyn-1.0.entry v).1) (lent c.args.machine.now c.args.events.now))
    (world_of (λ v. (g.dyn-1.0.entry v).1) (lent c.run_initializers.new.machine c.run_initializers.new.events))
    (completed c.run_initializers.result) c.function_count-first.ensures.exact c.body_count-end.ensures.exact c.run_initializers.ensures.begun).counted

pub returns-clause-globals : goal.returns-clause-globals
returns-clause-globals g c =
    let x = c.self.inside in
    (initializers_ended x.table x.loaded.items c.args.self.now c.self.invariant c.self.view_is c.args.budget c.args.home c.function_count-first.result c.body_count-end.result
    (world_of (λ v. (g.dyn-1.0.entry v).1) (lent c.args.machine.now c.args.events.now))
    (world_of (λ v. (g.dyn-1.0.entry v).1) (lent c.run_initializers.new.machine c.run_initializers.new.events))
    (completed c.run_initializers.result) c.function_count-first.ensures.exact c.body_count-end.ensures.exact c.run_initializers.ensures.begun).globals

pub returns-clause-moves : goal.returns-clause-moves
returns-clause-moves g c = λ roles agrees.
    let x = c.self.inside in
    c.run_initializers.ensures.moves roles (have x.table x.loaded.items c.args.self.now c.self.invariant c.self.view_is roles agrees)
