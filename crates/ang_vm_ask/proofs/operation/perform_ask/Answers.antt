use Rattle.std.proofs.Common.{sym}
use Rattle.ang_host.specs.Boxes.{members}
use Rattle.ang_host.specs.Members.{states_of}
use Rattle.ang_heap.specs.Heaps.{objects_of}
use Rattle.ang_heap.specs.Stores.{world_of}
use Rattle.ang_vm_ask.proofs.Performing.{ask_performed, make_performed, ask_nobody, ask_property}
use Rattle.ang_vm_ask.proofs.Live.{object_live, args_live, kept_can}
use Rattle.ang_vm_ask.proofs.operation.perform_ask.Goals as goal

pub returns-in-Err-clause-performed : goal.returns-in-Err-clause-performed
returns-in-Err-clause-performed g c = ask_nobody c.args.caller.now c.args.entity c.args.host.now c.args.operands.now (world_of (λ v. (g.dyn-1.0.entry v).1) c.args.store.now) c.in-Err.fault (sym c.in-Err.ensures.exact)

pub call-requires-clause-object_live : goal.call-requires-clause-object_live
call-requires-clause-object_live g c = object_live (states_of (λ v. (g.dyn-1.0.entry v).1) (members c.args.store.now.drivers)) (objects_of c.args.store.now.heap) c.args.operands.now c.requires.enough c.args.host.now c.in-Ok.object (sym c.in-Ok.ensures.exact)

pub call-requires-clause-args_live : goal.call-requires-clause-args_live
call-requires-clause-args_live g c = args_live (states_of (λ v. (g.dyn-1.0.entry v).1) (members c.args.store.now.drivers)) (objects_of c.args.store.now.heap) c.args.operands.now c.requires.enough c.args.host.now c.arguments_of-args.result.now c.arguments_of-args.ensures.exact

pub make-requires-clause-args_live : goal.make-requires-clause-args_live
make-requires-clause-args_live g c = args_live (states_of (λ v. (g.dyn-1.0.entry v).1) (members c.args.store.now.drivers)) (objects_of c.args.store.now.heap) c.args.operands.now c.requires.enough c.args.host.now c.arguments_of-args.result.now c.arguments_of-args.ensures.exact

pub returns-in-Calling-clause-performed : goal.returns-in-Calling-clause-performed
returns-in-Calling-clause-performed g c =
    ask_performed c.args.caller.now c.args.entity c.args.host.now c.args.operands.now (world_of (λ v. (g.dyn-1.0.entry v).1) c.args.store.now) (world_of (λ v. (g.dyn-1.0.entry v).1) c.call.new.store)
    c.in-Ok.object c.arguments_of-args.result.now c.call.result (sym c.in-Ok.ensures.exact) c.arguments_of-args.ensures.exact c.call.ensures.told

pub returns-in-Calling-clause-enough : goal.returns-in-Calling-clause-enough
returns-in-Calling-clause-enough g c = λ vs p. kept_can c.call.result vs (world_of (λ v. (g.dyn-1.0.entry v).1) c.call.new.store) (c.call.ensures.enough vs p)

pub returns-in-Making-clause-performed : goal.returns-in-Making-clause-performed
returns-in-Making-clause-performed g c =
    make_performed c.args.caller.now c.args.entity c.args.host.now c.args.operands.now (world_of (λ v. (g.dyn-1.0.entry v).1) c.args.store.now) (world_of (λ v. (g.dyn-1.0.entry v).1) c.make.new.store)
    c.in-Making.number c.in-Ok.object c.arguments_of-args.result.now c.make.result c.in-Making.is (sym c.in-Ok.ensures.exact) c.arguments_of-args.ensures.exact c.make.ensures.told

pub returns-in-Making-clause-enough : goal.returns-in-Making-clause-enough
returns-in-Making-clause-enough g c = λ vs p. kept_can c.make.result vs (world_of (λ v. (g.dyn-1.0.entry v).1) c.make.new.store) (c.make.ensures.enough vs p)

pub returns-in-Property-clause-performed : goal.returns-in-Property-clause-performed
returns-in-Property-clause-performed g c =
    ask_property c.args.caller.now c.args.entity c.args.host.now c.args.operands.now (world_of (λ v. (g.dyn-1.0.entry v).1) c.args.store.now) _ _ c.in-Property.field-0 c.in-Property.is
