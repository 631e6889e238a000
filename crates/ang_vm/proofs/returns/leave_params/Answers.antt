use Rattle.std.proofs.Common.{[]}
use Rattle.ang_heap.specs.Stores.{world_of}
use Rattle.ang_vm.proofs.Counting.{left_can}
use Rattle.ang_vm.proofs.returns.leave_params.Goals as goal

pub returns : goal.returns
returns g c = record {
  given = c.give_others.ensures.given;
  held = left_can c.args.params.now c.args.stack.now c.keep_outs.new.stack c.args.top c.keep_outs.result (world_of (λ v. (g.dyn-1.0.entry v).1) c.args.store.now) (world_of (λ v. (g.dyn-1.0.entry v).1) c.give_others.new.store) c.requires.enough c.requires.within c.requires.held (c.give_others.ensures.given []) c.keep_outs.ensures.kept;
  kept = c.keep_outs.ensures.kept;
  fewer = c.keep_outs.ensures.fewer;
  moves = c.give_others.ensures.moves;
}
