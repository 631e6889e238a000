use Rattle.ang_vm_stack.specs.Tables.{texts_of}
use Rattle.ang_vm.proofs.calls.begin.Goals as goal

pub returns : goal.returns
returns c = record {
  told = λ fr w. c.begin_above.ensures.told (texts_of c.args.table.now) fr w c.height_at.ensures.exact;
  in_room = c.begin_above.ensures.in_room;
  same = c.begin_above.ensures.same;
  grows = c.begin_above.ensures.grows;
}
