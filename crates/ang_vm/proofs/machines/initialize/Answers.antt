use Rattle.ang_meaning.specs.World.{with_inputs}
use Rattle.ang_code.specs.Machine.{initializer_begins}
use Rattle.std.specs.Prelude.{reverse}
use Rattle.ang_heap.specs.Stores.{world_of}
use Rattle.ang_vm_stack.specs.Tables.{setting_of, texts_of}
use Rattle.ang_vm_steps.proofs.Paths.{reach_then}
use Rattle.ang_vm.proofs.Counting.{initializer_counted, first_counted}
use Rattle.ang_vm.proofs.Moving.{moved_by, moved_then, may_go_on}
use Rattle.ang_vm.proofs.Running.{whole_ends}
use Rattle.ang_vm.proofs.Ticking.{initializer_most}
use Rattle.ang_vm.proofs.Tracing.{halted_kept, unbegun_kept}
use Rattle.ang_vm.proofs.machines.initialize.Goals as goal

pub run_from-requires-clause-may_run : goal.run_from-requires-clause-may_run
run_from-requires-clause-may_run g c =
    let z = setting_of c.args.table.now 201 in
    let code = texts_of c.args.table.now in
    let w = (world_of (λ v. (g.dyn-1.0.entry v).1) c.args.store.now) in
    may_go_on (λ v. (g.dyn-1.0.entry v).1) c.args.table.now _ _ c.args.store.now c.start_initializer.new.store c.requires.may_run (moved_by (λ v. (g.dyn-1.0.entry v).1) c.args.table.now _ _ c.in-Ok.ensures.moves)
    (first_counted z code (λ is. initializer_begins z code c.args.ticks c.args.entry (with_inputs is w)) c.in-Ok.first c.start_initializer.new.stack.items (reverse c.start_initializer.new.frames.items) (world_of (λ v. (g.dyn-1.0.entry v).1) c.start_initializer.new.store)
    (λ is. initializer_counted z code c.args.ticks c.args.entry (with_inputs is w) c.requires.may_run.counted)
    (c.in-Ok.ensures.starts 201))

pub returns-in-Ok : goal.returns-in-Ok
returns-in-Ok g c =
    let z = setting_of c.args.table.now 201 in
    let code = texts_of c.args.table.now in
    let w = (world_of (λ v. (g.dyn-1.0.entry v).1) c.args.store.now) in
    record {
      ends = whole_ends z code (λ is. initializer_begins z code c.args.ticks c.args.entry (with_inputs is w)) c.run_from.result (world_of (λ v. (g.dyn-1.0.entry v).1) c.run_from.new.store)
          (reach_then z code (c.in-Ok.ensures.starts 201) c.run_from.ensures.ends);
      moves = moved_then (λ v. (g.dyn-1.0.entry v).1) c.args.table.now _ _ _ (moved_by (λ v. (g.dyn-1.0.entry v).1) c.args.table.now _ _ c.in-Ok.ensures.moves) c.run_from.ensures.moves;
      stood = halted_kept z code (λ is. initializer_begins z code c.args.ticks c.args.entry (with_inputs is w)) c.args.ticks (λ is. initializer_most z code c.args.ticks c.args.entry (with_inputs is w)) c.run_from.result c.run_from.new.last
          (c.in-Ok.ensures.starts 201) c.run_from.ensures.halted;
    }

pub returns : goal.returns
returns g c =
    let z = setting_of c.args.table.now 201 in
    let code = texts_of c.args.table.now in
    let w = (world_of (λ v. (g.dyn-1.0.entry v).1) c.args.store.now) in
    record {
      ends = whole_ends z code (λ is. initializer_begins z code c.args.ticks c.args.entry (with_inputs is w)) c.in-Err.ending (world_of (λ v. (g.dyn-1.0.entry v).1) c.start_initializer.new.store) (c.in-Err.ensures.starts 201);
      moves = moved_by (λ v. (g.dyn-1.0.entry v).1) c.args.table.now _ _ c.in-Err.ensures.moves;
      stood = unbegun_kept z code (λ is. initializer_begins z code c.args.ticks c.args.entry (with_inputs is w)) c.args.ticks (λ is. initializer_most z code c.args.ticks c.args.entry (with_inputs is w)) c.in-Err.ending _ c.in-Err.ensures.callers c.requires.all;
    }
