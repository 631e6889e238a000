use Rattle.ang_heap.proofs.Numbering.{item_back}
use Rattle.ang_heap.proofs.numbers.put_number_at.Goals as goal

pub returns-then-index-len-clause-kept : goal.returns-then-index-len-clause-kept
returns-then-index-len-clause-kept c = λ e.
    item_back c.args.values.now c.args.index c.index_mut.result.now c.put_number_in_slot.new.slot c.index_mut.ensures.value (c.put_number_in_slot.ensures.kept e)
