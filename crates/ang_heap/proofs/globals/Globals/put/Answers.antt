use Rattle.std.proofs.Common.{slice_set, ap, ◌∙◌, arith}
use Rattle.std.specs.Box.{with_value}
use Rattle.ang_heap.proofs.Puts.{put_there}
use Rattle.ang_heap.proofs.globals.Globals.put.Goals as goal

pub returns-then-home-len : goal.returns-then-home-len
returns-then-home-len c = record {
  put = put_there (λ b. b.value.items) c.args.self.now.modules.items c.args.home c.args.number c.index_mut.result.now (with_value c.index_mut.result.now c.put_at.new.values)
      c.index_mut.result.now c.args.value (omega arith) c.index_mut.ensures.value
      (c.put_at.ensures.put ∙ ap (λ v. slice_set v.items c.args.number c.args.value) c.deref_mut.ensures.value);
}
