use Rattle.std.proofs.Common.{◌≡◌, length, Some, sym, ap, subst, arith}
use Rattle.ang_meaning.specs.World.{with_inputs}
use Rattle.ang_meaning.proofs.Telling.{told_same, told_then}
use Rattle.ang_code.specs.declared.instruction.Instruction.TheVariants.{Return}
use Rattle.ang_code.specs.Machine.{act}
use Rattle.ang_meaning.specs.Counting.{IsCounted, CanGive}
use Rattle.std.specs.Prelude.{IfSome}
use Rattle.ang_heap.specs.Stores.{world_of}
use Rattle.ang_vm_stack.specs.Stacks.{values}
use Rattle.ang_vm.specs.Legs.{handed}
use Rattle.ang_vm.proofs.Running.{whole_slice}
use Rattle.ang_vm.proofs.bodies.leave_within.Goals as goal

pub returns-clause-told : goal.returns-clause-told
returns-clause-told g c = λ z texts f at room frames ticks known.
    let w = (world_of (λ v. (g.dyn-1.0.entry v).1) c.args.store.now) in
    let all : length c.leave_body.new.stack ≡ c.args.stack.now.len = omega (arith, c.leave_body.auto.stack, c.as_mut_slice.ensures.len) in
    told_then (told_same (λ is. ap (λ l. act z texts (Some (Return c.args.count)) f at room (values l c.args.top) frames ticks (with_inputs is w)) (sym c.as_mut_slice.ensures.value)))
    (told_then (c.leave_body.ensures.told z texts f at room frames ticks known)
    (told_same (λ is. ap (λ l. handed c.leave_body.result l frames ticks (with_inputs is (world_of (λ v. (g.dyn-1.0.entry v).1) c.leave_body.new.store))) (sym (whole_slice c.leave_body.new.stack _ c.args.stack.now.len all)))))

pub returns-clause-held : goal.returns-clause-held
returns-clause-held g c =
    let all : length c.leave_body.new.stack ≡ c.args.stack.now.len = omega (arith, c.leave_body.auto.stack, c.as_mut_slice.ensures.len) in
    subst (λ l. IfSome c.leave_body.result (λ parted. CanGive (values l parted.kept) (world_of (λ v. (g.dyn-1.0.entry v).1) c.leave_body.new.store))) (sym (whole_slice c.leave_body.new.stack _ c.args.stack.now.len all)) c.leave_body.ensures.held

pub leave_body-requires-clause-counted : goal.leave_body-requires-clause-counted
leave_body-requires-clause-counted g c = subst (λ l. IsCounted (values l c.args.top) (world_of (λ v. (g.dyn-1.0.entry v).1) c.args.store.now)) (sym c.as_mut_slice.ensures.value) c.requires.counted
