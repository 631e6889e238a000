use Rattle.ang_vm_stack.specs.Tables.{setting_of}
use Rattle.ang_vm_ask.proofs.FieldOperations.{class_under, no_class_under}
use Rattle.ang_vm_ask.proofs.fields.is_under.Goals as goal

pub returns-in-Some-class_at : goal.returns-in-Some-class_at
returns-in-Some-class_at c = record {
  exact = λ nesting. class_under (setting_of c.args.table.now nesting) c.args.home c.args.number c.in-Some.own c.args.class c.in-Some-class_at.found.now c.stands_under.result c.in-Some.is c.in-Some-class_at.ensures.exact c.stands_under.ensures.exact;
}

pub returns-in-None-class_at : goal.returns-in-None-class_at
returns-in-None-class_at c = record { exact = λ nesting. no_class_under (setting_of c.args.table.now nesting) c.args.home c.args.number c.in-Some.own c.args.class c.in-Some.is c.in-None-class_at.ensures.exact }
