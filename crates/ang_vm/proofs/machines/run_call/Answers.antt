use Rattle.std.proofs.Common.{sym, ap, subst}
use Rattle.std.specs.Prelude.{reverse}
use Rattle.ang_meaning.specs.World.{with_inputs}
use Rattle.ang_meaning.specs.Counting.{IsCounted}
use Rattle.ang_meaning.proofs.Enough.{counted_enough}
use Rattle.ang_code.specs.Machine.{call_begins}
use Rattle.ang_heap.specs.Stores.{world_of}
use Rattle.ang_vm_stack.specs.Tables.{setting_of, texts_of}
use Rattle.ang_vm_steps.proofs.Paths.{reach_same, reach_then}
use Rattle.ang_vm.proofs.Counting.{call_counted, first_counted}
use Rattle.ang_vm.proofs.Moving.{moved_by, moved_then, may_go_on}
use Rattle.ang_vm.proofs.Running.{whole_ends}
use Rattle.ang_vm.proofs.Ticking.{call_most}
use Rattle.ang_vm.proofs.Tracing.{halted_kept, unbegun_kept}
use Rattle.ang_vm.proofs.machines.run_call.Goals as goal

pub refuse-requires : goal.refuse-requires
refuse-requires g c = record { ready = c.requires.may_run.ready; held = counted_enough (reverse c.args.args.now) (world_of (λ v. (g.dyn-1.0.entry v).1) c.args.store.now) c.requires.may_run.counted }

pub returns-in_default-clause-ends : goal.returns-in_default-clause-ends
returns-in_default-clause-ends g c = c.refuse.ensures.ends (setting_of c.args.table.now 200) (texts_of c.args.table.now) c.args.entry

pub returns-in_default-clause-moves : goal.returns-in_default-clause-moves
returns-in_default-clause-moves g c = moved_by (λ v. (g.dyn-1.0.entry v).1) c.args.table.now _ _ c.refuse.ensures.moves

pub start_call-requires : goal.start_call-requires
start_call-requires g c = record {
  ready = c.requires.may_run.ready;
  counted = subst (λ l. IsCounted (reverse l) (world_of (λ v. (g.dyn-1.0.entry v).1) c.args.store.now)) (sym c.in-Ok.ensures.items) c.requires.may_run.counted;
}

pub run_from-requires-clause-may_run : goal.run_from-requires-clause-may_run
run_from-requires-clause-may_run g c =
    let z = setting_of c.args.table.now 200 in
    let code = texts_of c.args.table.now in
    let w = (world_of (λ v. (g.dyn-1.0.entry v).1) c.args.store.now) in
    may_go_on (λ v. (g.dyn-1.0.entry v).1) c.args.table.now _ _ c.args.store.now c.start_call.new.store c.requires.may_run (moved_by (λ v. (g.dyn-1.0.entry v).1) c.args.table.now _ _ c.in-Ok-start_call.ensures.moves)
    (first_counted z code (λ is. call_begins z code c.args.budget c.args.entry (reverse c.in-Ok.stack.items) (with_inputs is w)) c.in-Ok-start_call.first c.start_call.new.stack.items (reverse c.start_call.new.frames.items) (world_of (λ v. (g.dyn-1.0.entry v).1) c.start_call.new.store)
    (λ is. call_counted z code c.args.budget c.args.entry (reverse c.in-Ok.stack.items) (with_inputs is w) (subst (λ l. IsCounted (reverse l) w) (sym c.in-Ok.ensures.items) c.requires.may_run.counted))
    (c.in-Ok-start_call.ensures.starts 200))

pub returns-in-Ok-start_call-clause-ends : goal.returns-in-Ok-start_call-clause-ends
returns-in-Ok-start_call-clause-ends g c =
    let z = setting_of c.args.table.now 200 in
    let code = texts_of c.args.table.now in
    let w = (world_of (λ v. (g.dyn-1.0.entry v).1) c.args.store.now) in
    whole_ends z code (λ is. call_begins z code c.args.budget c.args.entry (reverse c.args.args.now) (with_inputs is w)) c.run_from.result (world_of (λ v. (g.dyn-1.0.entry v).1) c.run_from.new.store)
    (reach_then z code (reach_same z code (λ is. ap (λ s. call_begins z code c.args.budget c.args.entry (reverse s) (with_inputs is w)) (sym c.in-Ok.ensures.items)))
    (reach_then z code (c.in-Ok-start_call.ensures.starts 200) c.run_from.ensures.ends))

pub returns-in-Ok-start_call-clause-moves : goal.returns-in-Ok-start_call-clause-moves
returns-in-Ok-start_call-clause-moves g c = moved_then (λ v. (g.dyn-1.0.entry v).1) c.args.table.now _ _ _ (moved_by (λ v. (g.dyn-1.0.entry v).1) c.args.table.now _ _ c.in-Ok-start_call.ensures.moves) c.run_from.ensures.moves

pub returns-clause-ends : goal.returns-clause-ends
returns-clause-ends g c =
    let z = setting_of c.args.table.now 200 in
    let code = texts_of c.args.table.now in
    let w = (world_of (λ v. (g.dyn-1.0.entry v).1) c.args.store.now) in
    whole_ends z code (λ is. call_begins z code c.args.budget c.args.entry (reverse c.args.args.now) (with_inputs is w)) c.in-Err.ending (world_of (λ v. (g.dyn-1.0.entry v).1) c.start_call.new.store)
    (reach_then z code (reach_same z code (λ is. ap (λ s. call_begins z code c.args.budget c.args.entry (reverse s) (with_inputs is w)) (sym c.in-Ok.ensures.items))) (c.in-Err.ensures.starts 200))

pub returns-clause-moves : goal.returns-clause-moves
returns-clause-moves g c = moved_by (λ v. (g.dyn-1.0.entry v).1) c.args.table.now _ _ c.in-Err.ensures.moves

-- what is kept of it
pub returns-in_default-clause-stood : goal.returns-in_default-clause-stood
returns-in_default-clause-stood g c =
    let z = setting_of c.args.table.now 200 in
    let code = texts_of c.args.table.now in
    let w = (world_of (λ v. (g.dyn-1.0.entry v).1) c.args.store.now) in
    unbegun_kept z code (λ is. call_begins z code c.args.budget c.args.entry (reverse c.args.args.now) (with_inputs is w)) c.args.budget (λ is. call_most z code c.args.budget c.args.entry (reverse c.args.args.now) (with_inputs is w)) c.refuse.result c.args.last.now c.requires.none c.requires.all

pub returns-in-Ok-start_call-clause-stood : goal.returns-in-Ok-start_call-clause-stood
returns-in-Ok-start_call-clause-stood g c =
    let z = setting_of c.args.table.now 200 in
    let code = texts_of c.args.table.now in
    let w = (world_of (λ v. (g.dyn-1.0.entry v).1) c.args.store.now) in
    halted_kept z code (λ is. call_begins z code c.args.budget c.args.entry (reverse c.args.args.now) (with_inputs is w)) c.args.budget (λ is. call_most z code c.args.budget c.args.entry (reverse c.args.args.now) (with_inputs is w)) c.run_from.result c.run_from.new.last
    (reach_then z code (reach_same z code (λ is. ap (λ s. call_begins z code c.args.budget c.args.entry (reverse s) (with_inputs is w)) (sym c.in-Ok.ensures.items))) (c.in-Ok-start_call.ensures.starts 200)) c.run_from.ensures.halted

pub returns-clause-stood : goal.returns-clause-stood
returns-clause-stood g c =
    let z = setting_of c.args.table.now 200 in
    let code = texts_of c.args.table.now in
    let w = (world_of (λ v. (g.dyn-1.0.entry v).1) c.args.store.now) in
    unbegun_kept z code (λ is. call_begins z code c.args.budget c.args.entry (reverse c.args.args.now) (with_inputs is w)) c.args.budget (λ is. call_most z code c.args.budget c.args.entry (reverse c.args.args.now) (with_inputs is w)) c.in-Err.ending _ (c.in-Err.ensures.callers c.requires.none) c.requires.all
