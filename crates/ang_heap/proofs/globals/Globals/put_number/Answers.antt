use Rattle.std.proofs.Common.{[], None, is_some, slice_index_or, slice_set, ap, ◌∙◌, arith}
use Rattle.std.specs.Box.{with_value}
use Rattle.ang_meaning.specs.declared.slot.Slot.TheVariants.{Bits, Script}
use Rattle.ang_heap.specs.Globals.{values_in}
use Rattle.ang_heap.specs.Numbers.{number_in}
use Rattle.ang_heap.proofs.Numbering.{value_place, number_was, items_at, item_back}
use Rattle.ang_heap.proofs.Puts.{put_there}
use Rattle.ang_heap.proofs.globals.Globals.put_number.Goals as goal

pub returns-then-home-len-clause-there : goal.returns-then-home-len-clause-there
returns-then-home-len-clause-there c = λ t.
    let vs = slice_index_or (values_in c.args.self.now) c.args.home [] in
    number_was (slice_index_or vs c.args.number) (value_place vs c.args.number) c.put_number_at.result
    (c.put_number_at.ensures.exact
    ∙ ap (λ l. is_some (number_in (slice_index_or l c.args.number (Script None))))
    (ap (λ v. v.items) c.deref_mut.ensures.value
    ∙ items_at (λ b. b.value.items) c.args.self.now.modules.items c.args.home c.index_mut.result.now (omega arith) c.index_mut.ensures.value)) t

pub returns-then-home-len-clause-put : goal.returns-then-home-len-clause-put
returns-then-home-len-clause-put c = λ t.
    put_there (λ b. b.value.items) c.args.self.now.modules.items c.args.home c.args.number c.index_mut.result.now (with_value c.index_mut.result.now c.put_number_at.new.values)
    c.index_mut.result.now (Bits c.args.value) (omega arith) c.index_mut.ensures.value
    (c.put_number_at.ensures.put t ∙ ap (λ v. slice_set v.items c.args.number (Bits c.args.value)) c.deref_mut.ensures.value)

pub returns-then-home-len-clause-kept : goal.returns-then-home-len-clause-kept
returns-then-home-len-clause-kept c = λ e.
    ap (λ m. record { modules = m })
    (item_back c.args.self.now.modules c.args.home c.index_mut.result.now (with_value c.index_mut.result.now c.put_number_at.new.values) c.index_mut.ensures.value
    (ap (with_value c.index_mut.result.now) (c.put_number_at.ensures.kept e ∙ c.deref_mut.ensures.value)))
