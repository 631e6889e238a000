use Rattle.std.proofs.Common.{ap, sym, ◌∙◌}
use Rattle.std.specs.FinMap as map
use Rattle.ang_meaning.specs.declared.slot.Slot.TheVariants.{Script}
use Rattle.ang_meaning.specs.World.{with_inputs}
use Rattle.ang_meaning.specs.Environment.{virtual_of, bound as bound_to}
use Rattle.ang_heap.specs.Heaps.{objects_of}
use Rattle.ang_heap.specs.Stores.{world_of}
use Rattle.ang_vm_stack.specs.Tables.{setting_of}
use Rattle.ang_vm_steps.proofs.Receivers.{method_found, no_object}
use Rattle.ang_vm_steps.proofs.callees.method_for.Goals as goal

pub returns-in-Bits : goal.returns-in-Bits
returns-in-Bits g c = record { exact = λ nesting is. ap (λ x. virtual_of (setting_of c.args.table.now nesting) c.args.home c.args.slot x (with_inputs is (world_of (λ v. (g.dyn-1.0.entry v).1) c.args.store.now))) c.in-Bits.is }

pub returns-in-Host : goal.returns-in-Host
returns-in-Host g c = record { exact = λ nesting is. ap (λ x. virtual_of (setting_of c.args.table.now nesting) c.args.home c.args.slot x (with_inputs is (world_of (λ v. (g.dyn-1.0.entry v).1) c.args.store.now))) c.in-Host.is }

pub returns-in-None : goal.returns-in-None
returns-in-None g c = record { exact = λ nesting is. ap (λ x. virtual_of (setting_of c.args.table.now nesting) c.args.home c.args.slot x (with_inputs is (world_of (λ v. (g.dyn-1.0.entry v).1) c.args.store.now))) (c.in-Script.is ∙ ap Script c.in-None.is) }

pub returns-in-Some-class : goal.returns-in-Some-class
returns-in-Some-class g c = record {
  exact = λ nesting is.
      let z = setting_of c.args.table.now nesting in
      ap (λ x. virtual_of z c.args.home c.args.slot x (with_inputs is (world_of (λ v. (g.dyn-1.0.entry v).1) c.args.store.now))) (c.in-Script.is ∙ ap Script c.in-Some.is)
      ∙ method_found z c.args.home c.args.slot (map.get (objects_of c.args.store.now.heap) c.in-Some.number) c.in-Some-class.class (sym c.in-Some-class.is ∙ c.class.ensures.exact)
      ∙ ap bound_to (sym c.method_at.ensures.exact) ∙ c.bound_or_fault.ensures.exact;
}

pub returns-in-None-class : goal.returns-in-None-class
returns-in-None-class g c = record {
  exact = λ nesting is.
      let z = setting_of c.args.table.now nesting in
      ap (λ x. virtual_of z c.args.home c.args.slot x (with_inputs is (world_of (λ v. (g.dyn-1.0.entry v).1) c.args.store.now))) (c.in-Script.is ∙ ap Script c.in-Some.is)
      ∙ no_object z c.args.home c.args.slot (map.get (objects_of c.args.store.now.heap) c.in-Some.number) (sym c.in-None-class.is ∙ c.class.ensures.exact);
}
