use Rattle.std.proofs.Common.{refl, sym, subst, ◌∙◌}
use Rattle.std.proofs.lemmas.Result.{err_from_is_err_and}
use Rattle.ang_heap.specs.Stores.{world_of}
use Rattle.ang_heap.proofs.Storing.{moves_none, moves_join}
use Rattle.ang_vm_ask.specs.Entities.{DriversThere}
use Rattle.ang_vm.specs.Machines.{lent}
use Rattle.ang_engine_modules.proofs.Running.{begins_at, goes_on_at, faults_at, ends_at}
use Rattle.ang_engine_modules.proofs.runs.run_initializers.Goals as goal

pub loop-number-init : goal.loop-number-init
loop-number-init g c = record {
  come = begins_at c.args.table.now c.args.budget c.args.home c.args.first c.args.end
      (world_of (λ v. (g.dyn-1.0.entry v).1) (lent c.args.machine.now c.args.events.now)) c.requires.counted;
  moved = λ roles has. moves_none (λ v. (g.dyn-1.0.entry v).1) roles (lent c.args.machine.now c.args.events.now);
  ready = c.requires.ready;
  count = refl;
}

pub run_initializer-requires-clause-drivers : goal.run_initializer-requires-clause-drivers
run_initializer-requires-clause-drivers g c = subst (DriversThere c.args.table.now) (sym c.loop-number.invariant.count) c.requires.drivers

pub run_initializer-requires-clause-ready : goal.run_initializer-requires-clause-ready
run_initializer-requires-clause-ready g c = c.loop-number.invariant.ready

pub run_initializer-requires-clause-counted : goal.run_initializer-requires-clause-counted
run_initializer-requires-clause-counted g c = c.loop-number.invariant.come.counted

pub loop-number-preserved : goal.loop-number-preserved
loop-number-preserved g c = record {
  come = goes_on_at c.args.table.now c.args.budget c.args.home c.args.first c.args.end
      (world_of (λ v. (g.dyn-1.0.entry v).1) (lent c.args.machine.now c.args.events.now)) c.loop-number.number c.loop-number.ticks
      (world_of (λ v. (g.dyn-1.0.entry v).1) (lent c.loop-number.machine c.loop-number.events)) c.loop-number.invariant.come
      c.in_ok-ticks.ticks (world_of (λ v. (g.dyn-1.0.entry v).1) (lent c.run_initializer.new.machine c.run_initializer.new.events)) c.loop-number-test.true c.in_ok-ticks.ensures.told;
  moved = λ roles has.
      moves_join (λ v. (g.dyn-1.0.entry v).1) roles (lent c.args.machine.now c.args.events.now) (lent c.loop-number.machine c.loop-number.events)
      (lent c.run_initializer.new.machine c.run_initializer.new.events) (c.loop-number.invariant.moved roles has) (c.run_initializer.ensures.moves roles has);
  ready = c.run_initializer.ensures.ready;
  count = c.run_initializer.ensures.count ∙ c.loop-number.invariant.count;
}

pub returns-in_err-ticks-clause-begun : goal.returns-in_err-ticks-clause-begun
returns-in_err-ticks-clause-begun g c =
    let p = err_from_is_err_and c.from_residual.result c.from_residual.ensures.1 in
    rw (p.1, p.2) (faults_at c.args.table.now c.args.budget c.args.home c.args.first c.args.end
    (world_of (λ v. (g.dyn-1.0.entry v).1) (lent c.args.machine.now c.args.events.now)) c.loop-number.number c.loop-number.ticks
    (world_of (λ v. (g.dyn-1.0.entry v).1) (lent c.loop-number.machine c.loop-number.events)) c.loop-number.invariant.come
    c.in_err-ticks.field-0.0 (world_of (λ v. (g.dyn-1.0.entry v).1) (lent c.run_initializer.new.machine c.run_initializer.new.events)) c.loop-number-test.true c.in_err-ticks.ensures.told)

pub returns-in_err-ticks-clause-moves : goal.returns-in_err-ticks-clause-moves
returns-in_err-ticks-clause-moves g c = λ roles has.
    moves_join (λ v. (g.dyn-1.0.entry v).1) roles (lent c.args.machine.now c.args.events.now) (lent c.loop-number.machine c.loop-number.events)
    (lent c.run_initializer.new.machine c.run_initializer.new.events) (c.loop-number.invariant.moved roles has) (c.run_initializer.ensures.moves roles has)

pub returns-in_err-ticks-clause-count : goal.returns-in_err-ticks-clause-count
returns-in_err-ticks-clause-count g c = c.run_initializer.ensures.count ∙ c.loop-number.invariant.count

pub returns-clause-begun : goal.returns-clause-begun
returns-clause-begun g c =
    ends_at c.args.table.now c.args.budget c.args.home c.args.first c.args.end
    (world_of (λ v. (g.dyn-1.0.entry v).1) (lent c.args.machine.now c.args.events.now)) c.loop-number.number c.loop-number.ticks
    (world_of (λ v. (g.dyn-1.0.entry v).1) (lent c.loop-number.machine c.loop-number.events)) c.loop-number.invariant.come c.loop-number-test.false
