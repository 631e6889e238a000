use Rattle.std.proofs.Common.{ap, sym, ◌∙◌}
use Rattle.ang_meaning.specs.World.{with_inputs}
use Rattle.ang_meaning.specs.Environment.{target, virtual_of, bound as bound_to}
use Rattle.ang_heap.specs.Stores.{world_of}
use Rattle.ang_vm_stack.specs.Stacks.{values}
use Rattle.ang_vm_stack.specs.Tables.{setting_of}
use Rattle.ang_vm_steps.proofs.callees.callee_of.Goals as goal

pub returns-in-Own : goal.returns-in-Own
unfolding target
returns-in-Own g c = record { exact = λ nesting is. ap (λ k. target (setting_of c.args.table.now nesting) c.args.home k (values c.args.stack.now c.args.top) (with_inputs is (world_of (λ v. (g.dyn-1.0.entry v).1) c.args.store.now))) c.in-Own.is }

pub returns-in-Import : goal.returns-in-Import
unfolding target
returns-in-Import g c = record {
  exact = λ nesting is. ap (λ k. target (setting_of c.args.table.now nesting) c.args.home k (values c.args.stack.now c.args.top) (with_inputs is (world_of (λ v. (g.dyn-1.0.entry v).1) c.args.store.now))) c.in-Import.is
      ∙ ap bound_to (sym c.linked_at.ensures.exact) ∙ c.bound_or_fault.ensures.exact;
}

pub returns-in-Virtual : goal.returns-in-Virtual
unfolding target
returns-in-Virtual g c = record {
  exact = λ nesting is.
      let z = setting_of c.args.table.now nesting in
      let w = with_inputs is (world_of (λ v. (g.dyn-1.0.entry v).1) c.args.store.now) in
      ap (λ k. target z c.args.home k (values c.args.stack.now c.args.top) w) c.in-Virtual.is
      ∙ ap (λ x. virtual_of z c.args.home c.in-Virtual.slot x w) (sym c.receiver_of-receiver.ensures.exact) ∙ c.method_for.ensures.exact nesting is;
}
