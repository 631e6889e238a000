use Rattle.std.proofs.Common.{false, ◌≡◌, ◌-◌, ◌++◌, ◌∷◌, [], take, length, refl, sym, ap, ◌∙◌, subst, arith}
use Rattle.std.proofs.Math.Seq.{take-length}
use Rattle.std.specs.Prelude.{slice_index_or}
use Rattle.ang_host.specs.Logs.{listed_in}
use Rattle.ang_host.specs.Boxes.{members}
use Rattle.ang_meaning.specs.declared.slot.Slot.TheVariants.{Bits}
use Rattle.ang_meaning.specs.Counting.{EnoughIn}
use Rattle.ang_meaning.specs.Results.{give_back}
use Rattle.ang_heap.specs.Parts.{counts_of, world_by}
use Rattle.ang_heap.specs.Heaps.{objects_of}
use Rattle.ang_heap.proofs.Hosting.{parts_none, parts_join}
use Rattle.ang_engine_modules.specs.World.{unbounded}
use Rattle.ang_engine.proofs.Backwards.{last_of, none_of, back_turn, last_can, others_can}
use Rattle.ang_engine.proofs.ending.give_back.Goals as goal

pub loop-left-init : goal.loop-left-init
loop-left-init g c =
    let all : c.args.values.now ≡ take (length c.args.values.now) c.args.values.now = sym (take-length c.args.values.now) in
    record {
      within = omega arith;
      gives = λ gs n sp b is. ap (λ l. give_back l (world_by (objects_of c.args.heap.now) (counts_of (λ v. (g.dyn-1.0.entry v).1) (members c.args.drivers.now)) gs (listed_in c.args.events.now) n sp b is)) all;
      enough = subst (λ l. EnoughIn l (objects_of c.args.heap.now) (counts_of (λ v. (g.dyn-1.0.entry v).1) (members c.args.drivers.now))) all c.requires.enough;
      ready = c.requires.ready;
      capacity = refl;
      fewer = omega arith;
      level = refl;
      counted = λ e. e;
      heard = refl;
      less = omega arith;
      moves = λ roles. parts_none _ roles _ _;
    }

pub give_up-requires-clause-enough : goal.give_up-requires-clause-enough
give_up-requires-clause-enough g c =
    let vs = c.args.values.now in
    last_can (take (c.loop-left.left - 1) vs) (take c.loop-left.left vs) (slice_index_or vs (c.loop-left.left - 1) (Bits 0)) _ _
    (last_of vs c.loop-left.left (Bits 0) c.loop-left-test.true c.loop-left.invariant.within) c.loop-left.invariant.enough

pub loop-left-preserved : goal.loop-left-preserved
loop-left-preserved g c =
    let vs = c.args.values.now in
    let v = slice_index_or vs (c.loop-left.left - 1) (Bits 0) in
    let e : take c.loop-left.left vs ≡ take (c.loop-left.left - 1) vs ++ v ∷ [] = last_of vs c.loop-left.left (Bits 0) c.loop-left-test.true c.loop-left.invariant.within in
    record {
      within = omega (arith, c.loop-left.invariant.within);
      gives = λ gs n sp b is. back_turn vs c.loop-left.left v _ _ _ e (c.loop-left.invariant.gives gs n sp b is) (c.give_up.ensures.gives gs n sp b is);
      enough = others_can (take (c.loop-left.left - 1) vs) (take c.loop-left.left vs) v
          (world_by (objects_of c.loop-left.heap) (counts_of (λ v. (g.dyn-1.0.entry v).1) (members c.loop-left.drivers)) [] (listed_in c.loop-left.events) 0 false unbounded [])
          (world_by (objects_of c.give_up.new.self) (counts_of (λ v. (g.dyn-1.0.entry v).1) (members c.give_up.new.drivers)) [] (listed_in c.give_up.new.events) 0 false unbounded [])
          e c.loop-left.invariant.enough (c.give_up.ensures.gives [] 0 false unbounded []);
      ready = c.give_up.ensures.ready;
      capacity = c.give_up.ensures.capacity ∙ c.loop-left.invariant.capacity;
      fewer = omega (arith, c.give_up.ensures.fewer, c.loop-left.invariant.fewer);
      level = c.give_up.ensures.level ∙ c.loop-left.invariant.level;
      counted = λ e. c.give_up.ensures.counted (c.loop-left.invariant.counted e);
      heard = c.give_up.ensures.heard ∙ c.loop-left.invariant.heard;
      less = omega (arith, c.give_up.ensures.less, c.loop-left.invariant.less);
      moves = λ roles. parts_join _ roles _ _ _ _ _ _ (c.loop-left.invariant.moves roles) (c.give_up.ensures.moves roles);
    }

pub returns-clause-gives : goal.returns-clause-gives
returns-clause-gives g c = λ gs n sp b is. c.loop-left.invariant.gives gs n sp b is ∙ none_of c.args.values.now c.loop-left.left _ c.loop-left-test.false
