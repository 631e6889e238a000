use Rattle.std.proofs.Common.{[], ◌∙◌, arith}
use Rattle.ang_meaning.proofs.Enough.{counted_enough}
use Rattle.ang_vm_ask.proofs.Live.{some_each, counted_each}
use Rattle.ang_heap.specs.Stores.{world_of}
use Rattle.ang_heap.proofs.Storing.{moves_join}
use Rattle.ang_vm_stack.specs.Stacks.{values}
use Rattle.ang_vm_stack.specs.Tables.{setting_of}
use Rattle.ang_vm_stack.proofs.Values.{values_length}
use Rattle.ang_vm_steps.proofs.Asked.{asked_well, asked_badly}
use Rattle.ang_vm_steps.proofs.Turning.{same_count}
use Rattle.ang_vm_steps.proofs.asks.perform_on_host.Goals as goal

pub ask-requires-clause-enough : goal.ask-requires-clause-enough
ask-requires-clause-enough g c =
    let s = values c.args.stack.now c.args.top in
    let w = world_of (λ v. (g.dyn-1.0.entry v).1) c.args.store.now in
    some_each c.args.count s w (counted_each s w c.requires.counted)

pub give_top-requires : goal.give_top-requires
give_top-requires g c =
    let s = values c.args.stack.now c.args.top in
    record {
      in_use = omega (arith, c.requires.in_use, c.given_count.ensures.fewer);
      within = c.requires.within;
      ready = c.ask.ensures.ready;
      enough = c.ask.ensures.enough s (counted_enough s (world_of (λ v. (g.dyn-1.0.entry v).1) c.args.store.now) c.requires.counted);
    }

pub returns-in-Ok : goal.returns-in-Ok
returns-in-Ok g c =
    let s = values c.args.stack.now c.args.top in
    record {
      told = λ nesting host fit count.
          asked_well (setting_of c.args.table.now nesting) c.args.home c.args.operation c.args.count s (world_of (λ v. (g.dyn-1.0.entry v).1) c.args.store.now) (world_of (λ v. (g.dyn-1.0.entry v).1) c.ask.new.store) c.ask.result host (c.ask.ensures.told nesting host fit count)
          c.in-Ok.value c.given_count.result (world_of (λ v. (g.dyn-1.0.entry v).1) c.give_top.new.store) (omega (arith, c.requires.in_use, values_length c.args.stack.now c.args.top c.requires.within)) c.given_count.ensures.exact c.given_count.ensures.fewer c.in-Ok.is c.give_top.ensures.given;
      moves = λ roles h. moves_join _ roles _ _ _ (c.ask.ensures.moves roles h) (c.give_top.ensures.moves roles);
      ready = (c.give_top.ensures.moves []).ready c.ask.ensures.ready;
      count = same_count (λ v. (g.dyn-1.0.entry v).1) [] c.ask.new.store c.give_top.new.store (c.give_top.ensures.moves []) ∙ c.ask.ensures.same;
    }

pub returns-in-Err : goal.returns-in-Err
returns-in-Err g c =
    let s = values c.args.stack.now c.args.top in
    record {
      told = λ nesting host fit count.
          asked_badly (setting_of c.args.table.now nesting) c.args.home c.args.operation c.args.count s (world_of (λ v. (g.dyn-1.0.entry v).1) c.args.store.now) (world_of (λ v. (g.dyn-1.0.entry v).1) c.ask.new.store) c.ask.result host (c.ask.ensures.told nesting host fit count) c.in-Err.fault c.in-Err.is;
      moves = c.ask.ensures.moves;
      ready = c.ask.ensures.ready;
      count = c.ask.ensures.same;
    }
