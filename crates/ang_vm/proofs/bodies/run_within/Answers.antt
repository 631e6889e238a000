use Rattle.std.proofs.Common.{◌≡◌, length, sym, subst, arith}
use Rattle.ang_heap.specs.Stores.{world_of}
use Rattle.ang_vm_stack.specs.Stacks.{values}
use Rattle.ang_vm.specs.Crossings.{Comes, IfFault, HasFaulted}
use Rattle.ang_vm.specs.BodyRunning.{MayRun}
use Rattle.ang_vm.proofs.Running.{whole_slice}
use Rattle.ang_vm.proofs.bodies.run_within.Goals as goal

pub returns-clause-comes : goal.returns-clause-comes
returns-clause-comes g c =
    let f = c.args.from in
    let t = c.args.table.now in
    let w = (world_of (λ v. (g.dyn-1.0.entry v).1) c.args.store.now) in
    let w' = (world_of (λ v. (g.dyn-1.0.entry v).1) c.run_body.new.store) in
    let all : length c.run_body.new.stack ≡ c.args.stack.now.len = omega (arith, c.run_body.auto.stack, c.as_mut_slice.ensures.len) in
    let lent = subst (λ l. Comes t f.body f.room f.place l w c.run_body.result c.run_body.new.stack w') c.as_mut_slice.ensures.value c.run_body.ensures.comes in
    subst (λ l. Comes t f.body f.room f.place c.args.stack.now.items w c.run_body.result l w') (sym (whole_slice c.run_body.new.stack _ c.args.stack.now.len all)) lent

pub returns-clause-faults : goal.returns-clause-faults
returns-clause-faults g c =
    let f = c.args.from in
    let t = c.args.table.now in
    let w = (world_of (λ v. (g.dyn-1.0.entry v).1) c.args.store.now) in
    let w' = (world_of (λ v. (g.dyn-1.0.entry v).1) c.run_body.new.store) in
    let all : length c.run_body.new.stack ≡ c.args.stack.now.len = omega (arith, c.run_body.auto.stack, c.as_mut_slice.ensures.len) in
    let lent = subst (λ l. IfFault c.run_body.result.1 (λ x. HasFaulted t f.body f.room f.place l w c.run_body.new.noted c.run_body.result.0.top x c.run_body.new.stack w')) c.as_mut_slice.ensures.value c.run_body.ensures.faults in
    subst (λ l. IfFault c.run_body.result.1 (λ x. HasFaulted t f.body f.room f.place c.args.stack.now.items w c.run_body.new.noted c.run_body.result.0.top x l w')) (sym (whole_slice c.run_body.new.stack _ c.args.stack.now.len all)) lent

pub run_body-requires-clause-may_run : goal.run_body-requires-clause-may_run
run_body-requires-clause-may_run g c = subst (λ l. MayRun (λ v. (g.dyn-1.0.entry v).1) c.args.table.now (values l c.args.from.place.top) c.args.store.now) (sym c.as_mut_slice.ensures.value) c.requires.may_run
