use Rattle.std.proofs.Common.{List}
use Rattle.std.specs.Prelude.{reverse}
use Rattle.ang_meaning.specs.World.{Input, with_inputs}
use Rattle.ang_code.specs.Machine.{call_begins}
use Rattle.ang_heap.specs.Stores.{world_of}
use Rattle.ang_vm_stack.specs.Tables.{setting_of, texts_of}
use Rattle.ang_vm.proofs.Counting.{call_counted, whole_held}
use Rattle.ang_vm.proofs.Moving.{moved_by, moved_then}
use Rattle.ang_vm.proofs.Running.{has_given, has_stopped, end_counted}
use Rattle.ang_vm.proofs.Ticking.{call_most}
use Rattle.ang_vm.proofs.Tracing.{end_ticks, end_trace, end_within, given_with}
use Rattle.ang_vm.proofs.machines.call_told.Goals as goal

pub settle-requires : goal.settle-requires
settle-requires g c =
    let z = setting_of c.args.table.now 200 in
    let code = texts_of c.args.table.now in
    let w = (world_of (λ v. (g.dyn-1.0.entry v).1) c.args.store.now) in
    record {
      ready = c.run_call-ending.ensures.moves.ready c.requires.may_run.ready;
      held = whole_held z code (λ is. call_begins z code c.args.budget c.args.entry (reverse c.args.args.now) (with_inputs is w)) c.run_call-ending.result (world_of (λ v. (g.dyn-1.0.entry v).1) c.run_call-ending.new.store) (λ is. call_counted z code c.args.budget c.args.entry (reverse c.args.args.now) (with_inputs is w) c.requires.may_run.counted) c.run_call-ending.ensures.ends;
    }

pub returns-in-Ok-clause-told : goal.returns-in-Ok-clause-told
returns-in-Ok-clause-told g c =
    let z = setting_of c.args.table.now 200 in
    let code = texts_of c.args.table.now in
    let w = (world_of (λ v. (g.dyn-1.0.entry v).1) c.args.store.now) in
    (_, has_given z code (λ is. call_begins z code c.args.budget c.args.entry (reverse c.args.args.now) (with_inputs is w)) c.run_call-ending.result c.settle.result (world_of (λ v. (g.dyn-1.0.entry v).1) c.run_call-ending.new.store) (world_of (λ v. (g.dyn-1.0.entry v).1) c.settle.new.store) _ _ c.run_call-ending.ensures.ends c.settle.ensures.settled c.in-Ok.is)

pub returns-in-Ok-clause-moves : goal.returns-in-Ok-clause-moves
returns-in-Ok-clause-moves g c = moved_then (λ v. (g.dyn-1.0.entry v).1) c.args.table.now _ _ _ c.run_call-ending.ensures.moves (moved_by (λ v. (g.dyn-1.0.entry v).1) c.args.table.now _ _ c.settle.ensures.moves)

pub returns-in-Err-clause-told : goal.returns-in-Err-clause-told
returns-in-Err-clause-told g c =
    let z = setting_of c.args.table.now 200 in
    let code = texts_of c.args.table.now in
    let w = (world_of (λ v. (g.dyn-1.0.entry v).1) c.args.store.now) in
    has_stopped z code (λ is. call_begins z code c.args.budget c.args.entry (reverse c.args.args.now) (with_inputs is w)) c.run_call-ending.result c.settle.result (world_of (λ v. (g.dyn-1.0.entry v).1) c.run_call-ending.new.store) (world_of (λ v. (g.dyn-1.0.entry v).1) c.settle.new.store) c.in-Err.fault c.run_call-ending.ensures.ends c.settle.ensures.settled c.in-Err.is

pub returns-in-Err-clause-moves : goal.returns-in-Err-clause-moves
returns-in-Err-clause-moves g c = moved_then (λ v. (g.dyn-1.0.entry v).1) c.args.table.now _ _ _ c.run_call-ending.ensures.moves (moved_by (λ v. (g.dyn-1.0.entry v).1) c.args.table.now _ _ c.settle.ensures.moves)

pub returns-in-Ok-clause-counted : goal.returns-in-Ok-clause-counted
returns-in-Ok-clause-counted g c = λ no.
    let z = setting_of c.args.table.now 200 in
    let code = texts_of c.args.table.now in
    let w = (world_of (λ v. (g.dyn-1.0.entry v).1) c.args.store.now) in
    end_counted z code (λ is. call_begins z code c.args.budget c.args.entry (reverse c.args.args.now) (with_inputs is w)) c.run_call-ending.result c.settle.result (world_of (λ v. (g.dyn-1.0.entry v).1) c.run_call-ending.new.store) (world_of (λ v. (g.dyn-1.0.entry v).1) c.settle.new.store) c.run_call-ending.ensures.ends
    (whole_held z code (λ is. call_begins z code c.args.budget c.args.entry (reverse c.args.args.now) (with_inputs is w)) c.run_call-ending.result (world_of (λ v. (g.dyn-1.0.entry v).1) c.run_call-ending.new.store) (λ is. call_counted z code c.args.budget c.args.entry (reverse c.args.args.now) (with_inputs is w) c.requires.may_run.counted) c.run_call-ending.ensures.ends) c.settle.ensures.settled no

pub returns-in-Err-clause-counted : goal.returns-in-Err-clause-counted
returns-in-Err-clause-counted g c = λ no.
    let z = setting_of c.args.table.now 200 in
    let code = texts_of c.args.table.now in
    let w = (world_of (λ v. (g.dyn-1.0.entry v).1) c.args.store.now) in
    end_counted z code (λ is. call_begins z code c.args.budget c.args.entry (reverse c.args.args.now) (with_inputs is w)) c.run_call-ending.result c.settle.result (world_of (λ v. (g.dyn-1.0.entry v).1) c.run_call-ending.new.store) (world_of (λ v. (g.dyn-1.0.entry v).1) c.settle.new.store) c.run_call-ending.ensures.ends
    (whole_held z code (λ is. call_begins z code c.args.budget c.args.entry (reverse c.args.args.now) (with_inputs is w)) c.run_call-ending.result (world_of (λ v. (g.dyn-1.0.entry v).1) c.run_call-ending.new.store) (λ is. call_counted z code c.args.budget c.args.entry (reverse c.args.args.now) (with_inputs is w) c.requires.may_run.counted) c.run_call-ending.ensures.ends) c.settle.ensures.settled no

-- what is kept of it
pub returns-in-Err-clause-stood : goal.returns-in-Err-clause-stood
returns-in-Err-clause-stood g c =
    let z = setting_of c.args.table.now 200 in
    let code = texts_of c.args.table.now in
    let w = (world_of (λ v. (g.dyn-1.0.entry v).1) c.args.store.now) in
    let from = λ (is : List Input). call_begins z code c.args.budget c.args.entry (reverse c.args.args.now) (with_inputs is w) in
    end_trace z code from c.args.budget c.run_call-ending.result c.settle.result c.run_call-ending.new.last c.end_run.new.last (world_of (λ v. (g.dyn-1.0.entry v).1) c.run_call-ending.new.store) (world_of (λ v. (g.dyn-1.0.entry v).1) c.settle.new.store) c.in-Err.fault c.run_call-ending.ensures.stood c.end_run.ensures.ended c.settle.ensures.settled c.in-Err.is

pub returns-in-Err-clause-within : goal.returns-in-Err-clause-within
returns-in-Err-clause-within g c =
    let z = setting_of c.args.table.now 200 in
    let code = texts_of c.args.table.now in
    let w = (world_of (λ v. (g.dyn-1.0.entry v).1) c.args.store.now) in
    let from = λ (is : List Input). call_begins z code c.args.budget c.args.entry (reverse c.args.args.now) (with_inputs is w) in
    end_within z code from c.args.budget (λ is. call_most z code c.args.budget c.args.entry (reverse c.args.args.now) (with_inputs is w)) c.run_call-ending.result c.run_call-ending.new.last c.end_run.new.last (world_of (λ v. (g.dyn-1.0.entry v).1) c.run_call-ending.new.store) c.run_call-ending.ensures.stood c.end_run.ensures.ended c.run_call-ending.ensures.ends

pub returns-in-Ok-clause-within : goal.returns-in-Ok-clause-within
returns-in-Ok-clause-within g c =
    let z = setting_of c.args.table.now 200 in
    let code = texts_of c.args.table.now in
    let w = (world_of (λ v. (g.dyn-1.0.entry v).1) c.args.store.now) in
    let from = λ (is : List Input). call_begins z code c.args.budget c.args.entry (reverse c.args.args.now) (with_inputs is w) in
    end_within z code from c.args.budget (λ is. call_most z code c.args.budget c.args.entry (reverse c.args.args.now) (with_inputs is w)) c.run_call-ending.result c.run_call-ending.new.last c.end_run.new.last (world_of (λ v. (g.dyn-1.0.entry v).1) c.run_call-ending.new.store) c.run_call-ending.ensures.stood c.end_run.ensures.ended c.run_call-ending.ensures.ends

pub returns-in-Ok-clause-no_frames : goal.returns-in-Ok-clause-no_frames
returns-in-Ok-clause-no_frames g c =
    let z = setting_of c.args.table.now 200 in
    let code = texts_of c.args.table.now in
    let w = (world_of (λ v. (g.dyn-1.0.entry v).1) c.args.store.now) in
    let from = λ (is : List Input). call_begins z code c.args.budget c.args.entry (reverse c.args.args.now) (with_inputs is w) in
    (end_ticks z code from c.run_call-ending.result c.settle.result c.run_call-ending.new.last c.end_run.new.last (world_of (λ v. (g.dyn-1.0.entry v).1) c.run_call-ending.new.store) (world_of (λ v. (g.dyn-1.0.entry v).1) c.settle.new.store) _ _ c.end_run.ensures.ended c.settle.ensures.settled c.in-Ok.is).0

pub returns-in-Ok-clause-ticks : goal.returns-in-Ok-clause-ticks
returns-in-Ok-clause-ticks g c =
    let z = setting_of c.args.table.now 200 in
    let code = texts_of c.args.table.now in
    let w = (world_of (λ v. (g.dyn-1.0.entry v).1) c.args.store.now) in
    let from = λ (is : List Input). call_begins z code c.args.budget c.args.entry (reverse c.args.args.now) (with_inputs is w) in
    let given = has_given z code from c.run_call-ending.result c.settle.result (world_of (λ v. (g.dyn-1.0.entry v).1) c.run_call-ending.new.store) (world_of (λ v. (g.dyn-1.0.entry v).1) c.settle.new.store) _ _ c.run_call-ending.ensures.ends c.settle.ensures.settled c.in-Ok.is in
    given_with z code from _ _ c.end_run.new.last.left (world_of (λ v. (g.dyn-1.0.entry v).1) c.settle.new.store) given (end_ticks z code from c.run_call-ending.result c.settle.result c.run_call-ending.new.last c.end_run.new.last (world_of (λ v. (g.dyn-1.0.entry v).1) c.run_call-ending.new.store) (world_of (λ v. (g.dyn-1.0.entry v).1) c.settle.new.store) _ _ c.end_run.ensures.ended c.settle.ensures.settled c.in-Ok.is).1
