use Rattle.std.proofs.Common.{◌≡◌, ◌+◌, [], ◌∷◌, ◌++◌, length, refl, sym, ap, ◌∙◌, subst, arith, Some, None}
use Rattle.std.specs.Prelude.{◌⊎◌, reverse}
use Rattle.ang_meaning.specs.World.{with_inputs}
use Rattle.ang_meaning.specs.Counting.{CanGive}
use Rattle.ang_meaning.proofs.Enough.{counted_enough}
use Rattle.ang_meaning.proofs.Telling.{told_same, told_then}
use Rattle.ang_code.specs.Machine.{back}
use Rattle.ang_heap.specs.Stores.{world_of}
use Rattle.ang_heap.proofs.Storing.{moves_join}
use Rattle.ang_vm_stack.specs.declared.place.Pause.TheVariants as pause
use Rattle.ang_vm_stack.specs.declared.place.RunResult.TheVariants as ending
use Rattle.ang_vm_stack.specs.Stacks.{values}
use Rattle.ang_vm_stack.specs.Tables.{body_of, setting_of, texts_of}
use Rattle.ang_vm_steps.proofs.Paths.{reach_same, reach_told, reach_then, lead_reach}
use Rattle.ang_vm_steps.specs.Crossings.{pause_of}
use Rattle.ang_vm.specs.Crossings.{IfFault, HasFaulted}
use Rattle.ang_vm.proofs.Moving.{moved_by, moved_none, moved_then, may_go_on}
use Rattle.ang_vm.specs.Legs.{AllFit, Fits, handed, resumed}
use Rattle.ang_vm.proofs.Calling.{no_callers, push_front}
use Rattle.ang_vm.proofs.Counting.{enters_counted, returns_counted, leg_counted}
use Rattle.ang_vm.proofs.Going.{none_there, lost_nowhere, params_there, pauses_at}
use Rattle.ang_vm.proofs.Tracing.{faulted_there, refused_there, value_stops_not}
use Rattle.ang_vm.proofs.Running.{entered, not_entered, left_on, left_over, halted, leg_lighter}
use Rattle.ang_vm.proofs.bodies.run_from.Goals as goal

pub loop-callee-init : goal.loop-callee-init
loop-callee-init g c = record {
  code = c.in-Some.ensures.exact;
  fits = c.requires.fits;
  may_run = c.requires.may_run;
  reaches = reach_same (setting_of c.args.table.now c.args.nesting) (texts_of c.args.table.now) (λ is. refl);
  moves = moved_none (λ v. (g.dyn-1.0.entry v).1) c.args.table.now c.args.store.now;
}

-- a body that there is not
pub returns-in_default-clause-ends : goal.returns-in_default-clause-ends
returns-in_default-clause-ends g c =
    let none : body_of c.args.table.now c.args.from.body ≡ None = none_there _ (λ code. body_of c.args.table.now c.args.from.body ≡ Some code.now) c.body_at.result c.in_default.is c.body_at.ensures.exact in
    lost_nowhere c.args.table.now c.args.nesting c.args.from c.args.stack.now.items c.args.last.now.frames.items (world_of (λ v. (g.dyn-1.0.entry v).1) c.args.store.now) none

-- a fault, and code that is lost
pub returns-in-Faults-clause-ends : goal.returns-in-Faults-clause-ends
returns-in-Faults-clause-ends g c =
    reach_then (setting_of c.args.table.now c.args.nesting) (texts_of c.args.table.now) c.loop-callee.invariant.reaches
    (halted c.args.table.now c.args.nesting c.loop-callee.here c.loop-callee.stack.items c.run_within-crossing.new.stack.items c.loop-callee.last.frames.items (world_of (λ v. (g.dyn-1.0.entry v).1) c.loop-callee.store) (world_of (λ v. (g.dyn-1.0.entry v).1) c.run_within-crossing.new.store) (pause.Faults c.run_within-crossing.result.0.top c.in-Faults.fault) c.fail.result (world_of (λ v. (g.dyn-1.0.entry v).1) c.fail.new.store) (pauses_at c.args.table.now c.loop-callee.here c.loop-callee.stack.items c.run_within-crossing.new.stack.items (world_of (λ v. (g.dyn-1.0.entry v).1) c.loop-callee.store) (world_of (λ v. (g.dyn-1.0.entry v).1) c.run_within-crossing.new.store) _ _ (ap (λ x. pause_of x c.run_within-crossing.result.0) c.in-Faults.is) c.run_within-crossing.ensures.comes) c.fail.ensures.told)

pub returns-in-Faults-clause-moves : goal.returns-in-Faults-clause-moves
returns-in-Faults-clause-moves g c = moved_then (λ v. (g.dyn-1.0.entry v).1) c.args.table.now _ _ _ c.loop-callee.invariant.moves (moved_then (λ v. (g.dyn-1.0.entry v).1) c.args.table.now _ _ _ c.run_within-crossing.ensures.moves (moved_by (λ v. (g.dyn-1.0.entry v).1) c.args.table.now _ _ c.fail.ensures.moves))

pub returns-in-Stuck-clause-ends : goal.returns-in-Stuck-clause-ends
returns-in-Stuck-clause-ends g c =
    reach_then (setting_of c.args.table.now c.args.nesting) (texts_of c.args.table.now) c.loop-callee.invariant.reaches
    (halted c.args.table.now c.args.nesting c.loop-callee.here c.loop-callee.stack.items c.run_within-crossing.new.stack.items c.loop-callee.last.frames.items (world_of (λ v. (g.dyn-1.0.entry v).1) c.loop-callee.store) (world_of (λ v. (g.dyn-1.0.entry v).1) c.run_within-crossing.new.store) pause.Stuck ending.Stuck (world_of (λ v. (g.dyn-1.0.entry v).1) c.run_within-crossing.new.store) (pauses_at c.args.table.now c.loop-callee.here c.loop-callee.stack.items c.run_within-crossing.new.stack.items (world_of (λ v. (g.dyn-1.0.entry v).1) c.loop-callee.store) (world_of (λ v. (g.dyn-1.0.entry v).1) c.run_within-crossing.new.store) _ _ (ap (λ x. pause_of x c.run_within-crossing.result.0) c.in-Stuck.is) c.run_within-crossing.ensures.comes) (told_same (λ is. refl)))

pub returns-in-Stuck-clause-moves : goal.returns-in-Stuck-clause-moves
returns-in-Stuck-clause-moves g c = moved_then (λ v. (g.dyn-1.0.entry v).1) c.args.table.now _ _ _ c.loop-callee.invariant.moves c.run_within-crossing.ensures.moves

pub returns-in-Faults-clause-halted : goal.returns-in-Faults-clause-halted
returns-in-Faults-clause-halted g c =
    let w = world_of (λ v. (g.dyn-1.0.entry v).1) c.loop-callee.store in
    let w1 = world_of (λ v. (g.dyn-1.0.entry v).1) c.run_within-crossing.new.store in
    faulted_there c.args.table.now c.args.nesting _ c.loop-callee.here c.loop-callee.stack.items c.run_within-crossing.new.stack.items c.loop-callee.last.frames.items c.note_fault-in-Faults.new.last.frames.items w w1 (world_of (λ v. (g.dyn-1.0.entry v).1) c.fail.new.store) c.run_within-crossing.new.noted c.note_fault-in-Faults.new.last.left c.in-Faults.fault c.run_within-crossing.result.0.top c.fail.result
    c.loop-callee.invariant.reaches
    (subst (λ y. IfFault y (λ x. HasFaulted c.args.table.now c.loop-callee.here.body c.loop-callee.here.room c.loop-callee.here.place c.loop-callee.stack.items w c.run_within-crossing.new.noted c.run_within-crossing.result.0.top x c.run_within-crossing.new.stack.items w1)) c.in-Faults.is c.run_within-crossing.ensures.faults)
    c.fail.ensures.told c.fail.ensures.result c.note_fault-in-Faults.ensures.frames c.note_fault-in-Faults.ensures.left

-- a call
pub loop-callee-preserved-in-Enters : goal.loop-callee-preserved-in-Enters
loop-callee-preserved-in-Enters g c =
    let led = entered c.args.table.now c.args.nesting c.loop-callee.here c.loop-callee.stack.items c.run_within-crossing.new.stack.items c.loop-callee.last.frames.items (world_of (λ v. (g.dyn-1.0.entry v).1) c.loop-callee.store) (world_of (λ v. (g.dyn-1.0.entry v).1) c.run_within-crossing.new.store) c.run_within-crossing.result.0 c.in-Enters.callee c.enter.new.stack.items c.enter.new.frames.items c.in-Ok.both.0 (pauses_at c.args.table.now c.loop-callee.here c.loop-callee.stack.items c.run_within-crossing.new.stack.items (world_of (λ v. (g.dyn-1.0.entry v).1) c.loop-callee.store) (world_of (λ v. (g.dyn-1.0.entry v).1) c.run_within-crossing.new.store) _ _ (ap (λ x. pause_of x c.run_within-crossing.result.0) c.in-Enters.is) c.run_within-crossing.ensures.comes) c.in-Ok.ensures.fits c.in-Ok.ensures.reaches in
    record {
      code = c.in-Ok.ensures.code;
      fits = led.fits;
      may_run = may_go_on (λ v. (g.dyn-1.0.entry v).1) c.args.table.now _ _ c.loop-callee.store c.run_within-crossing.new.store c.loop-callee.invariant.may_run c.run_within-crossing.ensures.moves
          (leg_counted c.args.table.now c.args.nesting c.loop-callee.here c.in-Ok.both.0 c.loop-callee.stack.items c.enter.new.stack.items c.loop-callee.last.frames.items c.enter.new.frames.items (world_of (λ v. (g.dyn-1.0.entry v).1) c.loop-callee.store) (world_of (λ v. (g.dyn-1.0.entry v).1) c.run_within-crossing.new.store) led c.loop-callee.invariant.may_run.counted);
      reaches = reach_then (setting_of c.args.table.now c.args.nesting) (texts_of c.args.table.now) c.loop-callee.invariant.reaches (lead_reach (setting_of c.args.table.now c.args.nesting) (texts_of c.args.table.now) led.leads);
      moves = moved_then (λ v. (g.dyn-1.0.entry v).1) c.args.table.now _ _ _ c.loop-callee.invariant.moves c.run_within-crossing.ensures.moves;
    }

pub loop-callee-smaller-in-Enters : goal.loop-callee-smaller-in-Enters
loop-callee-smaller-in-Enters g c =
    leg_lighter c.args.table.now c.args.nesting c.loop-callee.here c.in-Ok.both.0 c.loop-callee.stack.items c.enter.new.stack.items c.loop-callee.last.frames.items c.enter.new.frames.items (world_of (λ v. (g.dyn-1.0.entry v).1) c.loop-callee.store) (world_of (λ v. (g.dyn-1.0.entry v).1) c.run_within-crossing.new.store)
    (entered c.args.table.now c.args.nesting c.loop-callee.here c.loop-callee.stack.items c.run_within-crossing.new.stack.items c.loop-callee.last.frames.items (world_of (λ v. (g.dyn-1.0.entry v).1) c.loop-callee.store) (world_of (λ v. (g.dyn-1.0.entry v).1) c.run_within-crossing.new.store) c.run_within-crossing.result.0 c.in-Enters.callee c.enter.new.stack.items c.enter.new.frames.items c.in-Ok.both.0 (pauses_at c.args.table.now c.loop-callee.here c.loop-callee.stack.items c.run_within-crossing.new.stack.items (world_of (λ v. (g.dyn-1.0.entry v).1) c.loop-callee.store) (world_of (λ v. (g.dyn-1.0.entry v).1) c.run_within-crossing.new.store) _ _ (ap (λ x. pause_of x c.run_within-crossing.result.0) c.in-Enters.is) c.run_within-crossing.ensures.comes) c.in-Ok.ensures.fits c.in-Ok.ensures.reaches)

pub give_up-requires-clause-held : goal.give_up-requires-clause-held
give_up-requires-clause-held g c =
    subst (λ l. CanGive l (world_of (λ v. (g.dyn-1.0.entry v).1) c.run_within-crossing.new.store)) (sym c.in-Err.ensures.same) (counted_enough (values c.run_within-crossing.new.stack.items c.run_within-crossing.result.0.top) (world_of (λ v. (g.dyn-1.0.entry v).1) c.run_within-crossing.new.store)
    (enters_counted c.args.table.now c.loop-callee.here.body c.loop-callee.here.room c.loop-callee.here.place c.run_within-crossing.result.0 c.in-Enters.callee c.loop-callee.stack.items c.run_within-crossing.new.stack.items (world_of (λ v. (g.dyn-1.0.entry v).1) c.loop-callee.store) (world_of (λ v. (g.dyn-1.0.entry v).1) c.run_within-crossing.new.store) (pauses_at c.args.table.now c.loop-callee.here c.loop-callee.stack.items c.run_within-crossing.new.stack.items (world_of (λ v. (g.dyn-1.0.entry v).1) c.loop-callee.store) (world_of (λ v. (g.dyn-1.0.entry v).1) c.run_within-crossing.new.store) _ _ (ap (λ x. pause_of x c.run_within-crossing.result.0) c.in-Enters.is) c.run_within-crossing.ensures.comes) c.loop-callee.invariant.may_run.counted))

pub returns-in-Err-clause-ends : goal.returns-in-Err-clause-ends
returns-in-Err-clause-ends g c =
    reach_then (setting_of c.args.table.now c.args.nesting) (texts_of c.args.table.now) c.loop-callee.invariant.reaches
    (not_entered c.args.table.now c.args.nesting c.loop-callee.here c.loop-callee.stack.items c.run_within-crossing.new.stack.items c.loop-callee.last.frames.items (world_of (λ v. (g.dyn-1.0.entry v).1) c.loop-callee.store) (world_of (λ v. (g.dyn-1.0.entry v).1) c.run_within-crossing.new.store) c.run_within-crossing.result.0 c.in-Enters.callee c.give_up.result (world_of (λ v. (g.dyn-1.0.entry v).1) c.give_up.new.store) (pauses_at c.args.table.now c.loop-callee.here c.loop-callee.stack.items c.run_within-crossing.new.stack.items (world_of (λ v. (g.dyn-1.0.entry v).1) c.loop-callee.store) (world_of (λ v. (g.dyn-1.0.entry v).1) c.run_within-crossing.new.store) _ _ (ap (λ x. pause_of x c.run_within-crossing.result.0) c.in-Enters.is) c.run_within-crossing.ensures.comes) (reach_then (setting_of c.args.table.now c.args.nesting) (texts_of c.args.table.now) c.in-Err.ensures.reaches (reach_told (setting_of c.args.table.now c.args.nesting) (texts_of c.args.table.now) (c.give_up.ensures.told _))))

pub returns-in-Err-clause-halted : goal.returns-in-Err-clause-halted
returns-in-Err-clause-halted g c =
    let w = world_of (λ v. (g.dyn-1.0.entry v).1) c.loop-callee.store in
    let w1 = world_of (λ v. (g.dyn-1.0.entry v).1) c.run_within-crossing.new.store in
    refused_there c.args.table.now c.args.nesting _ c.loop-callee.here c.loop-callee.stack.items c.run_within-crossing.new.stack.items c.loop-callee.last.frames.items c.note_fault.new.last.frames.items w w1 (world_of (λ v. (g.dyn-1.0.entry v).1) c.give_up.new.store) c.run_within-crossing.result.0 c.note_fault.new.last.left c.in-Enters.callee c.enter.new.stack.items c.in-Err.stop c.give_up.result
    c.loop-callee.invariant.reaches
    (pauses_at c.args.table.now c.loop-callee.here c.loop-callee.stack.items c.run_within-crossing.new.stack.items w w1 _ _ (ap (λ x. pause_of x c.run_within-crossing.result.0) c.in-Enters.is) c.run_within-crossing.ensures.comes)
    c.in-Err.ensures.refused (c.give_up.ensures.told _) c.give_up.ensures.result
    (subst (λ l. (c.note_fault.new.last.frames.items ≡ []) ⊎ (c.note_fault.new.last.frames.items ≡ l ++ record { of = c.loop-callee.here.body; at = c.run_within-crossing.result.0.at + 1; room = c.loop-callee.here.room } ∷ [])) c.in-Err.ensures.callers c.note_fault.ensures.frames)
    c.note_fault.ensures.left

pub returns-in-Err-clause-moves : goal.returns-in-Err-clause-moves
returns-in-Err-clause-moves g c = moved_then (λ v. (g.dyn-1.0.entry v).1) c.args.table.now _ _ _ c.loop-callee.invariant.moves (moved_then (λ v. (g.dyn-1.0.entry v).1) c.args.table.now _ _ _ c.run_within-crossing.ensures.moves (moved_by (λ v. (g.dyn-1.0.entry v).1) c.args.table.now _ _ c.give_up.ensures.moves))

-- a return
pub leave_within-requires-clause-counted : goal.leave_within-requires-clause-counted
leave_within-requires-clause-counted g c =
    returns_counted c.args.table.now c.loop-callee.here.body c.loop-callee.here.room c.loop-callee.here.place c.run_within-crossing.result.0 c.in-Returns.count c.loop-callee.stack.items c.run_within-crossing.new.stack.items (world_of (λ v. (g.dyn-1.0.entry v).1) c.loop-callee.store) (world_of (λ v. (g.dyn-1.0.entry v).1) c.run_within-crossing.new.store) (pauses_at c.args.table.now c.loop-callee.here c.loop-callee.stack.items c.run_within-crossing.new.stack.items (world_of (λ v. (g.dyn-1.0.entry v).1) c.loop-callee.store) (world_of (λ v. (g.dyn-1.0.entry v).1) c.run_within-crossing.new.store) _ _ (ap (λ x. pause_of x c.run_within-crossing.result.0) c.in-Returns.is) c.run_within-crossing.ensures.comes) c.loop-callee.invariant.may_run.counted

pub returns-in_default-leave_within-clause-ends : goal.returns-in_default-leave_within-clause-ends
returns-in_default-leave_within-clause-ends g c =
    reach_then (setting_of c.args.table.now c.args.nesting) (texts_of c.args.table.now) c.loop-callee.invariant.reaches
    (left_over c.args.table.now c.args.nesting c.loop-callee.here c.loop-callee.stack.items c.run_within-crossing.new.stack.items c.loop-callee.last.frames.items (world_of (λ v. (g.dyn-1.0.entry v).1) c.loop-callee.store) (world_of (λ v. (g.dyn-1.0.entry v).1) c.run_within-crossing.new.store) c.run_within-crossing.result.0 c.in-Returns.count ending.Stuck (world_of (λ v. (g.dyn-1.0.entry v).1) c.leave_within.new.store) (pauses_at c.args.table.now c.loop-callee.here c.loop-callee.stack.items c.run_within-crossing.new.stack.items (world_of (λ v. (g.dyn-1.0.entry v).1) c.loop-callee.store) (world_of (λ v. (g.dyn-1.0.entry v).1) c.run_within-crossing.new.store) _ _ (ap (λ x. pause_of x c.run_within-crossing.result.0) c.in-Returns.is) c.run_within-crossing.ensures.comes)
    (told_then (c.leave_within.ensures.told (setting_of c.args.table.now c.args.nesting) (texts_of c.args.table.now) c.loop-callee.here.body c.run_within-crossing.result.0.at c.loop-callee.here.room (reverse c.loop-callee.last.frames.items) c.run_within-crossing.result.0.ticks (params_there c.args.table.now c.loop-callee.here.body c.loop-callee.code.now c.args.nesting c.loop-callee.invariant.code)) (told_same (λ is. ap (λ o. handed o c.leave_within.new.stack.items (reverse c.loop-callee.last.frames.items) c.run_within-crossing.result.0.ticks (with_inputs is (world_of (λ v. (g.dyn-1.0.entry v).1) c.leave_within.new.store))) (c.in_default-leave_within.is)))))

pub returns-in_default-leave_within-clause-moves : goal.returns-in_default-leave_within-clause-moves
returns-in_default-leave_within-clause-moves g c = moved_then (λ v. (g.dyn-1.0.entry v).1) c.args.table.now _ _ _ c.loop-callee.invariant.moves (moved_then (λ v. (g.dyn-1.0.entry v).1) c.args.table.now _ _ _ c.run_within-crossing.ensures.moves (moved_by (λ v. (g.dyn-1.0.entry v).1) c.args.table.now _ _ c.leave_within.ensures.moves))

pub finish-requires-clause-ready : goal.finish-requires-clause-ready
finish-requires-clause-ready g c = (c.leave_within.ensures.moves []).ready (c.run_within-crossing.ensures.moves.ready c.loop-callee.invariant.may_run.ready)

pub returns-in_default-pop-clause-ends : goal.returns-in_default-pop-clause-ends
returns-in_default-pop-clause-ends g c =
    let none : reverse c.loop-callee.last.frames.items ≡ [] = no_callers c.loop-callee.last.frames.items (omega (arith, c.in_default-pop.ensures.cases.0)) in
    reach_then (setting_of c.args.table.now c.args.nesting) (texts_of c.args.table.now) c.loop-callee.invariant.reaches
    (left_over c.args.table.now c.args.nesting c.loop-callee.here c.loop-callee.stack.items c.run_within-crossing.new.stack.items c.loop-callee.last.frames.items (world_of (λ v. (g.dyn-1.0.entry v).1) c.loop-callee.store) (world_of (λ v. (g.dyn-1.0.entry v).1) c.run_within-crossing.new.store) c.run_within-crossing.result.0 c.in-Returns.count c.finish.result (world_of (λ v. (g.dyn-1.0.entry v).1) c.finish.new.store) (pauses_at c.args.table.now c.loop-callee.here c.loop-callee.stack.items c.run_within-crossing.new.stack.items (world_of (λ v. (g.dyn-1.0.entry v).1) c.loop-callee.store) (world_of (λ v. (g.dyn-1.0.entry v).1) c.run_within-crossing.new.store) _ _ (ap (λ x. pause_of x c.run_within-crossing.result.0) c.in-Returns.is) c.run_within-crossing.ensures.comes)
    (told_then (c.in-Some-leave_within.ensures.told (setting_of c.args.table.now c.args.nesting) (texts_of c.args.table.now) c.loop-callee.here.body c.run_within-crossing.result.0.at c.loop-callee.here.room (reverse c.loop-callee.last.frames.items) c.run_within-crossing.result.0.ticks (params_there c.args.table.now c.loop-callee.here.body c.loop-callee.code.now c.args.nesting c.loop-callee.invariant.code)) (told_then (told_same (λ is. ap (λ x. back x c.in-Some-leave_within.parted.value [] (values c.leave_within.new.stack.items c.in-Some-leave_within.parted.kept) c.run_within-crossing.result.0.ticks (with_inputs is (world_of (λ v. (g.dyn-1.0.entry v).1) c.leave_within.new.store))) none)) c.finish.ensures.told)))

pub returns-in_default-pop-clause-halted : goal.returns-in_default-pop-clause-halted
returns-in_default-pop-clause-halted g c = value_stops_not _ c.finish.result _ _ c.finish.ensures.result

pub returns-in_default-pop-clause-moves : goal.returns-in_default-pop-clause-moves
returns-in_default-pop-clause-moves g c = moved_then (λ v. (g.dyn-1.0.entry v).1) c.args.table.now _ _ _ c.loop-callee.invariant.moves (moved_then (λ v. (g.dyn-1.0.entry v).1) c.args.table.now _ _ _ c.run_within-crossing.ensures.moves (moved_by (λ v. (g.dyn-1.0.entry v).1) c.args.table.now _ _ (λ roles. moves_join (λ v. (g.dyn-1.0.entry v).1) roles _ _ _ (c.leave_within.ensures.moves roles) (c.finish.ensures.moves roles))))

pub returns-in_default-resume_within-clause-ends : goal.returns-in_default-resume_within-clause-ends
returns-in_default-resume_within-clause-ends g c =
    let split : reverse c.loop-callee.last.frames.items ≡ c.in-Some-pop.caller ∷ reverse c.pop.new.self.items = ap reverse c.in-Some-pop.ensures.items ∙ push_front c.pop.new.self.items c.in-Some-pop.caller in
    reach_then (setting_of c.args.table.now c.args.nesting) (texts_of c.args.table.now) c.loop-callee.invariant.reaches
    (left_over c.args.table.now c.args.nesting c.loop-callee.here c.loop-callee.stack.items c.run_within-crossing.new.stack.items c.loop-callee.last.frames.items (world_of (λ v. (g.dyn-1.0.entry v).1) c.loop-callee.store) (world_of (λ v. (g.dyn-1.0.entry v).1) c.run_within-crossing.new.store) c.run_within-crossing.result.0 c.in-Returns.count ending.Stuck (world_of (λ v. (g.dyn-1.0.entry v).1) c.leave_within.new.store) (pauses_at c.args.table.now c.loop-callee.here c.loop-callee.stack.items c.run_within-crossing.new.stack.items (world_of (λ v. (g.dyn-1.0.entry v).1) c.loop-callee.store) (world_of (λ v. (g.dyn-1.0.entry v).1) c.run_within-crossing.new.store) _ _ (ap (λ x. pause_of x c.run_within-crossing.result.0) c.in-Returns.is) c.run_within-crossing.ensures.comes)
    (told_then (c.in-Some-leave_within.ensures.told (setting_of c.args.table.now c.args.nesting) (texts_of c.args.table.now) c.loop-callee.here.body c.run_within-crossing.result.0.at c.loop-callee.here.room (reverse c.loop-callee.last.frames.items) c.run_within-crossing.result.0.ticks (params_there c.args.table.now c.loop-callee.here.body c.loop-callee.code.now c.args.nesting c.loop-callee.invariant.code)) (told_same (λ is. ap (λ x. back x c.in-Some-leave_within.parted.value [] (values c.leave_within.new.stack.items c.in-Some-leave_within.parted.kept) c.run_within-crossing.result.0.ticks (with_inputs is (world_of (λ v. (g.dyn-1.0.entry v).1) c.leave_within.new.store))) split ∙ c.resume_within.ensures.told (reverse c.pop.new.self.items) (with_inputs is (world_of (λ v. (g.dyn-1.0.entry v).1) c.leave_within.new.store))
    ∙ ap (λ o. resumed o c.resume_within.new.stack.items (reverse c.pop.new.self.items) (with_inputs is (world_of (λ v. (g.dyn-1.0.entry v).1) c.leave_within.new.store))) c.in_default-resume_within.is))))

pub returns-in_default-resume_within-clause-moves : goal.returns-in_default-resume_within-clause-moves
returns-in_default-resume_within-clause-moves g c = moved_then (λ v. (g.dyn-1.0.entry v).1) c.args.table.now _ _ _ c.loop-callee.invariant.moves (moved_then (λ v. (g.dyn-1.0.entry v).1) c.args.table.now _ _ _ c.run_within-crossing.ensures.moves (moved_by (λ v. (g.dyn-1.0.entry v).1) c.args.table.now _ _ c.leave_within.ensures.moves))

pub returns-in_default-body_at-clause-ends : goal.returns-in_default-body_at-clause-ends
returns-in_default-body_at-clause-ends g c =
    let split : reverse c.loop-callee.last.frames.items ≡ c.in-Some-pop.caller ∷ reverse c.pop.new.self.items = ap reverse c.in-Some-pop.ensures.items ∙ push_front c.pop.new.self.items c.in-Some-pop.caller in
    let same : length c.resume_within.new.stack.items ≡ length c.loop-callee.stack.items = c.in-Some-resume_within.ensures.same ∙ c.leave_within.ensures.same ∙ c.run_within-crossing.ensures.same in
    let all = subst (AllFit (length c.loop-callee.stack.items)) split c.loop-callee.invariant.fits.callers in
    let room = c.in-Some-resume_within.ensures.fits in
    let fits : Fits c.in-Some-resume_within.next c.resume_within.new.stack.items c.pop.new.self.items = record { values = room.0; body = omega (arith, all.0, same, room.1); callers = subst (λ n. AllFit n (reverse c.pop.new.self.items)) (sym same) all.1 } in
    let led = left_on c.args.table.now c.args.nesting c.loop-callee.here c.loop-callee.stack.items c.run_within-crossing.new.stack.items c.loop-callee.last.frames.items (world_of (λ v. (g.dyn-1.0.entry v).1) c.loop-callee.store) (world_of (λ v. (g.dyn-1.0.entry v).1) c.run_within-crossing.new.store) c.run_within-crossing.result.0 c.in-Returns.count c.resume_within.new.stack.items c.pop.new.self.items c.in-Some-resume_within.next (world_of (λ v. (g.dyn-1.0.entry v).1) c.leave_within.new.store) (pauses_at c.args.table.now c.loop-callee.here c.loop-callee.stack.items c.run_within-crossing.new.stack.items (world_of (λ v. (g.dyn-1.0.entry v).1) c.loop-callee.store) (world_of (λ v. (g.dyn-1.0.entry v).1) c.run_within-crossing.new.store) _ _ (ap (λ x. pause_of x c.run_within-crossing.result.0) c.in-Returns.is) c.run_within-crossing.ensures.comes) fits
    (told_then (c.in-Some-leave_within.ensures.told (setting_of c.args.table.now c.args.nesting) (texts_of c.args.table.now) c.loop-callee.here.body c.run_within-crossing.result.0.at c.loop-callee.here.room (reverse c.loop-callee.last.frames.items) c.run_within-crossing.result.0.ticks (params_there c.args.table.now c.loop-callee.here.body c.loop-callee.code.now c.args.nesting c.loop-callee.invariant.code)) (told_same (λ is. ap (λ x. back x c.in-Some-leave_within.parted.value [] (values c.leave_within.new.stack.items c.in-Some-leave_within.parted.kept) c.run_within-crossing.result.0.ticks (with_inputs is (world_of (λ v. (g.dyn-1.0.entry v).1) c.leave_within.new.store))) split ∙ c.in-Some-resume_within.ensures.told (reverse c.pop.new.self.items) (with_inputs is (world_of (λ v. (g.dyn-1.0.entry v).1) c.leave_within.new.store))))) in
    let none : body_of c.args.table.now c.in-Some-resume_within.next.body ≡ None = none_there _ (λ code. body_of c.args.table.now c.in-Some-resume_within.next.body ≡ Some code.now) c.body_at-in-Returns.result c.in_default-body_at.is c.body_at-in-Returns.ensures.exact in
    reach_then (setting_of c.args.table.now c.args.nesting) (texts_of c.args.table.now) c.loop-callee.invariant.reaches
    (reach_then (setting_of c.args.table.now c.args.nesting) (texts_of c.args.table.now) (lead_reach (setting_of c.args.table.now c.args.nesting) (texts_of c.args.table.now) led.leads)
    (lost_nowhere c.args.table.now c.args.nesting c.in-Some-resume_within.next c.resume_within.new.stack.items c.pop.new.self.items (world_of (λ v. (g.dyn-1.0.entry v).1) c.leave_within.new.store) none))

pub returns-in_default-body_at-clause-moves : goal.returns-in_default-body_at-clause-moves
returns-in_default-body_at-clause-moves g c = moved_then (λ v. (g.dyn-1.0.entry v).1) c.args.table.now _ _ _ c.loop-callee.invariant.moves (moved_then (λ v. (g.dyn-1.0.entry v).1) c.args.table.now _ _ _ c.run_within-crossing.ensures.moves (moved_by (λ v. (g.dyn-1.0.entry v).1) c.args.table.now _ _ c.leave_within.ensures.moves))

pub loop-callee-smaller : goal.loop-callee-smaller
loop-callee-smaller g c =
    let split : reverse c.loop-callee.last.frames.items ≡ c.in-Some-pop.caller ∷ reverse c.pop.new.self.items = ap reverse c.in-Some-pop.ensures.items ∙ push_front c.pop.new.self.items c.in-Some-pop.caller in
    let same : length c.resume_within.new.stack.items ≡ length c.loop-callee.stack.items = c.in-Some-resume_within.ensures.same ∙ c.leave_within.ensures.same ∙ c.run_within-crossing.ensures.same in
    let all = subst (AllFit (length c.loop-callee.stack.items)) split c.loop-callee.invariant.fits.callers in
    let room = c.in-Some-resume_within.ensures.fits in
    let fits : Fits c.in-Some-resume_within.next c.resume_within.new.stack.items c.pop.new.self.items = record { values = room.0; body = omega (arith, all.0, same, room.1); callers = subst (λ n. AllFit n (reverse c.pop.new.self.items)) (sym same) all.1 } in
    let led = left_on c.args.table.now c.args.nesting c.loop-callee.here c.loop-callee.stack.items c.run_within-crossing.new.stack.items c.loop-callee.last.frames.items (world_of (λ v. (g.dyn-1.0.entry v).1) c.loop-callee.store) (world_of (λ v. (g.dyn-1.0.entry v).1) c.run_within-crossing.new.store) c.run_within-crossing.result.0 c.in-Returns.count c.resume_within.new.stack.items c.pop.new.self.items c.in-Some-resume_within.next (world_of (λ v. (g.dyn-1.0.entry v).1) c.leave_within.new.store) (pauses_at c.args.table.now c.loop-callee.here c.loop-callee.stack.items c.run_within-crossing.new.stack.items (world_of (λ v. (g.dyn-1.0.entry v).1) c.loop-callee.store) (world_of (λ v. (g.dyn-1.0.entry v).1) c.run_within-crossing.new.store) _ _ (ap (λ x. pause_of x c.run_within-crossing.result.0) c.in-Returns.is) c.run_within-crossing.ensures.comes) fits
    (told_then (c.in-Some-leave_within.ensures.told (setting_of c.args.table.now c.args.nesting) (texts_of c.args.table.now) c.loop-callee.here.body c.run_within-crossing.result.0.at c.loop-callee.here.room (reverse c.loop-callee.last.frames.items) c.run_within-crossing.result.0.ticks (params_there c.args.table.now c.loop-callee.here.body c.loop-callee.code.now c.args.nesting c.loop-callee.invariant.code)) (told_same (λ is. ap (λ x. back x c.in-Some-leave_within.parted.value [] (values c.leave_within.new.stack.items c.in-Some-leave_within.parted.kept) c.run_within-crossing.result.0.ticks (with_inputs is (world_of (λ v. (g.dyn-1.0.entry v).1) c.leave_within.new.store))) split ∙ c.in-Some-resume_within.ensures.told (reverse c.pop.new.self.items) (with_inputs is (world_of (λ v. (g.dyn-1.0.entry v).1) c.leave_within.new.store))))) in
    leg_lighter c.args.table.now c.args.nesting c.loop-callee.here c.in-Some-resume_within.next c.loop-callee.stack.items c.resume_within.new.stack.items c.loop-callee.last.frames.items c.pop.new.self.items (world_of (λ v. (g.dyn-1.0.entry v).1) c.loop-callee.store) (world_of (λ v. (g.dyn-1.0.entry v).1) c.leave_within.new.store) led

pub loop-callee-preserved : goal.loop-callee-preserved
loop-callee-preserved g c =
    let split : reverse c.loop-callee.last.frames.items ≡ c.in-Some-pop.caller ∷ reverse c.pop.new.self.items = ap reverse c.in-Some-pop.ensures.items ∙ push_front c.pop.new.self.items c.in-Some-pop.caller in
    let same : length c.resume_within.new.stack.items ≡ length c.loop-callee.stack.items = c.in-Some-resume_within.ensures.same ∙ c.leave_within.ensures.same ∙ c.run_within-crossing.ensures.same in
    let all = subst (AllFit (length c.loop-callee.stack.items)) split c.loop-callee.invariant.fits.callers in
    let room = c.in-Some-resume_within.ensures.fits in
    let fits : Fits c.in-Some-resume_within.next c.resume_within.new.stack.items c.pop.new.self.items = record { values = room.0; body = omega (arith, all.0, same, room.1); callers = subst (λ n. AllFit n (reverse c.pop.new.self.items)) (sym same) all.1 } in
    let led = left_on c.args.table.now c.args.nesting c.loop-callee.here c.loop-callee.stack.items c.run_within-crossing.new.stack.items c.loop-callee.last.frames.items (world_of (λ v. (g.dyn-1.0.entry v).1) c.loop-callee.store) (world_of (λ v. (g.dyn-1.0.entry v).1) c.run_within-crossing.new.store) c.run_within-crossing.result.0 c.in-Returns.count c.resume_within.new.stack.items c.pop.new.self.items c.in-Some-resume_within.next (world_of (λ v. (g.dyn-1.0.entry v).1) c.leave_within.new.store) (pauses_at c.args.table.now c.loop-callee.here c.loop-callee.stack.items c.run_within-crossing.new.stack.items (world_of (λ v. (g.dyn-1.0.entry v).1) c.loop-callee.store) (world_of (λ v. (g.dyn-1.0.entry v).1) c.run_within-crossing.new.store) _ _ (ap (λ x. pause_of x c.run_within-crossing.result.0) c.in-Returns.is) c.run_within-crossing.ensures.comes) fits
    (told_then (c.in-Some-leave_within.ensures.told (setting_of c.args.table.now c.args.nesting) (texts_of c.args.table.now) c.loop-callee.here.body c.run_within-crossing.result.0.at c.loop-callee.here.room (reverse c.loop-callee.last.frames.items) c.run_within-crossing.result.0.ticks (params_there c.args.table.now c.loop-callee.here.body c.loop-callee.code.now c.args.nesting c.loop-callee.invariant.code)) (told_same (λ is. ap (λ x. back x c.in-Some-leave_within.parted.value [] (values c.leave_within.new.stack.items c.in-Some-leave_within.parted.kept) c.run_within-crossing.result.0.ticks (with_inputs is (world_of (λ v. (g.dyn-1.0.entry v).1) c.leave_within.new.store))) split ∙ c.in-Some-resume_within.ensures.told (reverse c.pop.new.self.items) (with_inputs is (world_of (λ v. (g.dyn-1.0.entry v).1) c.leave_within.new.store))))) in
    let moves = moved_then (λ v. (g.dyn-1.0.entry v).1) c.args.table.now _ _ _ c.run_within-crossing.ensures.moves (moved_by (λ v. (g.dyn-1.0.entry v).1) c.args.table.now _ _ c.leave_within.ensures.moves) in
    record {
      code = c.in-Some-body_at.ensures.exact;
      fits = led.fits;
      may_run = may_go_on (λ v. (g.dyn-1.0.entry v).1) c.args.table.now _ _ c.loop-callee.store c.leave_within.new.store c.loop-callee.invariant.may_run moves
          (leg_counted c.args.table.now c.args.nesting c.loop-callee.here c.in-Some-resume_within.next c.loop-callee.stack.items c.resume_within.new.stack.items c.loop-callee.last.frames.items c.pop.new.self.items (world_of (λ v. (g.dyn-1.0.entry v).1) c.loop-callee.store) (world_of (λ v. (g.dyn-1.0.entry v).1) c.leave_within.new.store) led c.loop-callee.invariant.may_run.counted);
      reaches = reach_then (setting_of c.args.table.now c.args.nesting) (texts_of c.args.table.now) c.loop-callee.invariant.reaches (lead_reach (setting_of c.args.table.now c.args.nesting) (texts_of c.args.table.now) led.leads);
      moves = moved_then (λ v. (g.dyn-1.0.entry v).1) c.args.table.now _ _ _ c.loop-callee.invariant.moves moves;
    }
