use Rattle.std.proofs.Common.{sym, ◌∙◌, ap}
use Rattle.ang_meaning.specs.declared.slot.Slot.TheVariants.{Script}
use Rattle.ang_heap.specs.Heaps.{objects_of}
use Rattle.ang_heap.specs.Parts.{world_by}
use Rattle.ang_vm_ask.proofs.FieldOperations.{bits_taken, null_taken, key_taken, object_taken}
use Rattle.ang_vm_ask.proofs.fields.may_take.Goals as goal

pub returns-in-Bits : goal.returns-in-Bits
returns-in-Bits c = record { exact = λ hs gs es n sp b is. sym (bits_taken c.args.number _ c.args.value (world_by (objects_of c.args.heap.now) hs gs es n sp b is) c.in-Bits.is) }

pub returns-in-Some : goal.returns-in-Some
returns-in-Some c = record {
  exact = λ hs gs es n sp b is. c.is_lower.ensures.exact
      ∙ object_taken c.args.number c.in-Some.held c.args.value (world_by (objects_of c.args.heap.now) hs gs es n sp b is) c.rank.result c.rank-in-Some.result (c.in-Script.is ∙ ap Script c.in-Some.is) c.rank.ensures.exact c.rank-in-Some.ensures.exact;
}

pub returns-in-None : goal.returns-in-None
returns-in-None c = record { exact = λ hs gs es n sp b is. sym (null_taken c.args.number c.args.value (world_by (objects_of c.args.heap.now) hs gs es n sp b is) (c.in-Script.is ∙ ap Script c.in-None.is)) }

pub returns-in-Host : goal.returns-in-Host
returns-in-Host c = record { exact = λ hs gs es n sp b is. sym (key_taken c.args.number _ _ c.args.value (world_by (objects_of c.args.heap.now) hs gs es n sp b is) c.in-Host.is) }
