use Rattle.std.proofs.Common.{false, ◌-◌, [], sym, ap, ◌∙◌, subst, arith}
use Rattle.std.proofs.Math.Seq.{take-length}
use Rattle.std.specs.Prelude.{slice_index_or}
use Rattle.ang_host.specs.Logs.{listed_in}
use Rattle.ang_host.specs.Boxes.{members}
use Rattle.ang_meaning.specs.World.{World}
use Rattle.ang_meaning.specs.Counting.{IsCounted}
use Rattle.ang_heap.specs.Globals.{values_in}
use Rattle.ang_heap.specs.Parts.{counts_of, world_by}
use Rattle.ang_heap.specs.Heaps.{objects_of}
use Rattle.ang_heap.proofs.Hosting.{parts_none, parts_join}
use Rattle.ang_engine_modules.specs.World.{unbounded, all_ended}
use Rattle.ang_engine.proofs.GlobalsEnd.{ended_counted}
use Rattle.ang_engine.proofs.Backwards.{last_of, turn_ends, none_ends}
use Rattle.ang_engine.proofs.ending.end_all.Goals as goal

pub loop-left-init : goal.loop-left-init
loop-left-init g c =
    record {
      ended = λ n sp b is. ap (λ l. all_ended l (world_by (objects_of c.args.heap.now) (counts_of (λ v. (g.dyn-1.0.entry v).1) (members c.args.drivers.now)) (values_in c.args.globals.now) (listed_in c.args.ends.now) n sp b is))
          (sym (take-length c.args.order.now));
      within = omega arith;
      counted = c.requires.counted;
      ready = c.requires.ready;
      moves = λ roles. parts_none _ roles _ _;
    }

pub loop-left-preserved : goal.loop-left-preserved
loop-left-preserved g c =
    let w : World = world_by (objects_of c.loop-left.heap) (counts_of (λ v. (g.dyn-1.0.entry v).1) (members c.loop-left.drivers)) (values_in c.loop-left.globals) (listed_in c.loop-left.ends) 0 false unbounded [] in
    let i = slice_index_or c.args.order.now (c.loop-left.left - 1) 0 in
    record {
      ended = λ n sp b is. c.loop-left.invariant.ended n sp b is
          ∙ turn_ends c.args.order.now c.loop-left.left i _ _ (last_of c.args.order.now c.loop-left.left 0 c.loop-left-test.true c.loop-left.invariant.within) (c.end_module.ensures.ended n sp b is);
      within = omega (arith, c.loop-left.invariant.within);
      counted = subst (λ u. IsCounted [] u) (c.end_module.ensures.ended 0 false unbounded []) (ended_counted i w c.loop-left.invariant.counted);
      ready = c.end_module.ensures.ready;
      moves = λ roles. parts_join _ roles _ _ _ _ _ _ (c.loop-left.invariant.moves roles) (c.end_module.ensures.moves roles);
    }

pub returns-clause-ended : goal.returns-clause-ended
returns-clause-ended g c = λ n sp b is. c.loop-left.invariant.ended n sp b is ∙ none_ends c.args.order.now c.loop-left.left _ c.loop-left-test.false
