use Rattle.std.proofs.Common.{◌≡◌, ◌≤◌, List, [], sym, subst, ap, ◌∙◌}
use Rattle.std.specs.Prelude.{length, reverse, IfErr, IfOk}
use Rattle.ang_host.specs.Boxes.{members}
use Rattle.ang_meaning.specs.World.{Input, with_inputs}
use Rattle.ang_code.specs.Machine.{call_begins}
use Rattle.ang_code.specs.Values.{answer_of}
use Rattle.ang_heap.specs.Stores.{world_of, IsReady, StoreMoves}
use Rattle.ang_vm_stack.specs.Tables.{setting_of, texts_of, result_of}
use Rattle.ang_meaning.specs.Counting.{IsCounted}
use Rattle.ang_vm.specs.Machines.{lent, IsLost, HasCalled, HasGiven}
use Rattle.ang_vm.specs.BodyRunning.{MayRun, RunMoves}
use Rattle.ang_vm.specs.Traces.{HasTrace}
use Rattle.ang_vm.proofs.Tracing.{answered_fault, answered_ok, answered_value}
use Rattle.ang_vm.proofs.machines.run.Goals as goal

pub call_told-ended-requires : goal.call_told-ended-requires
call_told-ended-requires g c = record {
  may_run = subst (λ s. MayRun (λ v. (g.dyn-1.0.entry v).1) c.args.table.now (reverse c.args.args.now) s) (sym c.lend.ensures.lent) (record { ready = c.requires.ready; counted = c.requires.counted; drivers = c.requires.drivers });
}

pub returns-clause-told : goal.returns-clause-told
returns-clause-told g c =
    let z = setting_of c.args.table.now 200 in
    let code = texts_of c.args.table.now in
    let first = lent c.args.machine.now c.args.events.now in
    let after = c.call_told-ended.new.store in
    let told = subst (λ s. HasCalled z code (λ is. call_begins z code c.args.budget c.args.entry (reverse c.args.args.now) (with_inputs is (world_of (λ v. (g.dyn-1.0.entry v).1) s))) c.call_told-ended.result (world_of (λ v. (g.dyn-1.0.entry v).1) after)) c.lend.ensures.lent c.call_told-ended.ensures.told in
    record {
      end = c.call_told-ended.result;
      called = subst (λ u. HasCalled z code (λ is. call_begins z code c.args.budget c.args.entry (reverse c.args.args.now) (with_inputs is (world_of (λ v. (g.dyn-1.0.entry v).1) first))) c.call_told-ended.result (world_of (λ v. (g.dyn-1.0.entry v).1) u)) (sym c.take_back.ensures.back) told;
      answered = c.answer.ensures.exact ∙ ap (λ p. answer_of p c.call_told-ended.result) c.result_type.ensures.exact;
    }

pub returns-clause-moves : goal.returns-clause-moves
returns-clause-moves g c = λ roles r.
    let first = lent c.args.machine.now c.args.events.now in
    let after = c.call_told-ended.new.store in
    let moved = subst (λ s. RunMoves (λ v. (g.dyn-1.0.entry v).1) c.args.table.now s after) c.lend.ensures.lent c.call_told-ended.ensures.moves in
    subst (λ u. StoreMoves (λ v. (g.dyn-1.0.entry v).1) roles first u) (sym c.take_back.ensures.back) (moved.moves roles r)

pub returns-clause-ready : goal.returns-clause-ready
returns-clause-ready g c =
    let after = c.call_told-ended.new.store in
    let moved = subst (λ s. RunMoves (λ v. (g.dyn-1.0.entry v).1) c.args.table.now s after) c.lend.ensures.lent c.call_told-ended.ensures.moves in
    subst (λ u. IsReady (λ v. (g.dyn-1.0.entry v).1) u) (sym c.take_back.ensures.back) (moved.ready c.requires.ready)

pub returns-clause-count : goal.returns-clause-count
returns-clause-count g c =
    let after = c.call_told-ended.new.store in
    let moved = subst (λ s. RunMoves (λ v. (g.dyn-1.0.entry v).1) c.args.table.now s after) c.lend.ensures.lent c.call_told-ended.ensures.moves in
    ap (λ u. length (members u.drivers)) c.take_back.ensures.back ∙ moved.count

pub returns-clause-counted : goal.returns-clause-counted
returns-clause-counted g c = λ no.
    let z = setting_of c.args.table.now 200 in
    let code = texts_of c.args.table.now in
    subst (λ u. IsCounted [] (world_of (λ v. (g.dyn-1.0.entry v).1) u)) (sym c.take_back.ensures.back)
    (c.call_told-ended.ensures.counted (λ lost. no (subst (λ s. IsLost z code (λ is. call_begins z code c.args.budget c.args.entry (reverse c.args.args.now) (with_inputs is (world_of (λ v. (g.dyn-1.0.entry v).1) s)))) c.lend.ensures.lent lost)))

-- what is kept of it
pub returns-clause-stood : goal.returns-clause-stood
returns-clause-stood g c =
    let z = setting_of c.args.table.now 200 in
    let code = texts_of c.args.table.now in
    let first = lent c.args.machine.now c.args.events.now in
    let after = c.call_told-ended.new.store in
    let last = c.call_told-ended.new.last in
    let same = c.take_back.ensures.last in
    answered_fault (λ f. HasTrace z code (λ is. call_begins z code c.args.budget c.args.entry (reverse c.args.args.now) (with_inputs is (world_of (λ v. (g.dyn-1.0.entry v).1) first))) f c.take_back.new.machine.last.frames.items c.take_back.new.machine.last.left) (result_of c.args.table.now c.args.entry) c.call_told-ended.result c.answer.result (c.answer.ensures.exact ∙ ap (λ p. answer_of p c.call_told-ended.result) c.result_type.ensures.exact)
    (subst (λ l. IfErr c.call_told-ended.result (λ f. HasTrace z code (λ is. call_begins z code c.args.budget c.args.entry (reverse c.args.args.now) (with_inputs is (world_of (λ v. (g.dyn-1.0.entry v).1) first))) f l.frames.items l.left)) (sym same)
    (subst (λ s. IfErr c.call_told-ended.result (λ f. HasTrace z code (λ is. call_begins z code c.args.budget c.args.entry (reverse c.args.args.now) (with_inputs is (world_of (λ v. (g.dyn-1.0.entry v).1) s))) f last.frames.items last.left)) c.lend.ensures.lent c.call_told-ended.ensures.stood))

pub returns-clause-ticks : goal.returns-clause-ticks
returns-clause-ticks g c =
    let z = setting_of c.args.table.now 200 in
    let code = texts_of c.args.table.now in
    let first = lent c.args.machine.now c.args.events.now in
    let after = c.call_told-ended.new.store in
    let last = c.call_told-ended.new.last in
    let w = world_of (λ v. (g.dyn-1.0.entry v).1) (lent c.take_back.new.machine c.take_back.new.events) in
    let from = λ (is : List Input). call_begins z code c.args.budget c.args.entry (reverse c.args.args.now) (with_inputs is (world_of (λ v. (g.dyn-1.0.entry v).1) first)) in
    let same = c.take_back.ensures.last in
    answered_value z code from (result_of c.args.table.now c.args.entry) c.call_told-ended.result c.answer.result c.take_back.new.machine.last.left w (c.answer.ensures.exact ∙ ap (λ p. answer_of p c.call_told-ended.result) c.result_type.ensures.exact)
    (subst (λ l. IfOk c.call_told-ended.result (λ v. HasGiven z code from v l.left w)) (sym same)
    (subst (λ u. IfOk c.call_told-ended.result (λ v. HasGiven z code from v last.left (world_of (λ v. (g.dyn-1.0.entry v).1) u))) (sym c.take_back.ensures.back)
    (subst (λ s. IfOk c.call_told-ended.result (λ v. HasGiven z code (λ is. call_begins z code c.args.budget c.args.entry (reverse c.args.args.now) (with_inputs is (world_of (λ v. (g.dyn-1.0.entry v).1) s))) v last.left (world_of (λ v. (g.dyn-1.0.entry v).1) after))) c.lend.ensures.lent c.call_told-ended.ensures.ticks)))

pub returns-clause-no_frames : goal.returns-clause-no_frames
returns-clause-no_frames g c =
    answered_ok (c.take_back.new.machine.last.frames.items ≡ []) (result_of c.args.table.now c.args.entry) c.call_told-ended.result c.answer.result (c.answer.ensures.exact ∙ ap (λ p. answer_of p c.call_told-ended.result) c.result_type.ensures.exact)
    (subst (λ l. IfOk c.call_told-ended.result (λ v. l.frames.items ≡ [])) (sym c.take_back.ensures.last) c.call_told-ended.ensures.no_frames)

pub returns-clause-within : goal.returns-clause-within
returns-clause-within g c = subst (λ l. l.left ≤ c.args.budget) (sym c.take_back.ensures.last) c.call_told-ended.ensures.within
