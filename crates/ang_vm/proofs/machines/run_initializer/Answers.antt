use Rattle.std.proofs.Common.{◌≡◌, ◌≤◌, [], sym, subst, ap, ◌∙◌}
use Rattle.std.specs.Prelude.{length, IfErr, IfOk}
use Rattle.ang_host.specs.Boxes.{members}
use Rattle.ang_meaning.specs.World.{with_inputs}
use Rattle.ang_code.specs.Machine.{initializer_begins}
use Rattle.ang_heap.specs.Stores.{world_of, IsReady, StoreMoves}
use Rattle.ang_vm_stack.specs.Tables.{setting_of, texts_of}
use Rattle.ang_meaning.specs.Counting.{IsCounted}
use Rattle.ang_vm.specs.Machines.{lent, IsLost, HasInitialized}
use Rattle.ang_vm.specs.BodyRunning.{MayRun, RunMoves}
use Rattle.ang_vm.specs.Traces.{HasTrace}
use Rattle.ang_vm.proofs.machines.run_initializer.Goals as goal

pub initializer_told-ended-requires : goal.initializer_told-ended-requires
initializer_told-ended-requires g c = record {
  may_run = subst (λ s. MayRun (λ v. (g.dyn-1.0.entry v).1) c.args.table.now [] s) (sym c.lend.ensures.lent) (record { ready = c.requires.ready; counted = c.requires.counted; drivers = c.requires.drivers });
}

pub returns-clause-told : goal.returns-clause-told
returns-clause-told g c =
    let z = setting_of c.args.table.now 201 in
    let code = texts_of c.args.table.now in
    let first = lent c.args.machine.now c.args.events.now in
    let after = c.initializer_told-ended.new.store in
    let told = subst (λ s. HasInitialized z code (λ is. initializer_begins z code c.args.ticks c.args.entry (with_inputs is (world_of (λ v. (g.dyn-1.0.entry v).1) s))) c.initializer_told-ended.result (world_of (λ v. (g.dyn-1.0.entry v).1) after)) c.lend.ensures.lent c.initializer_told-ended.ensures.told in
    subst (λ u. HasInitialized z code (λ is. initializer_begins z code c.args.ticks c.args.entry (with_inputs is (world_of (λ v. (g.dyn-1.0.entry v).1) first))) c.initializer_told-ended.result (world_of (λ v. (g.dyn-1.0.entry v).1) u)) (sym c.take_back.ensures.back) told

pub returns-clause-moves : goal.returns-clause-moves
returns-clause-moves g c = λ roles r.
    let first = lent c.args.machine.now c.args.events.now in
    let after = c.initializer_told-ended.new.store in
    let moved = subst (λ s. RunMoves (λ v. (g.dyn-1.0.entry v).1) c.args.table.now s after) c.lend.ensures.lent c.initializer_told-ended.ensures.moves in
    subst (λ u. StoreMoves (λ v. (g.dyn-1.0.entry v).1) roles first u) (sym c.take_back.ensures.back) (moved.moves roles r)

pub returns-clause-ready : goal.returns-clause-ready
returns-clause-ready g c =
    let after = c.initializer_told-ended.new.store in
    let moved = subst (λ s. RunMoves (λ v. (g.dyn-1.0.entry v).1) c.args.table.now s after) c.lend.ensures.lent c.initializer_told-ended.ensures.moves in
    subst (λ u. IsReady (λ v. (g.dyn-1.0.entry v).1) u) (sym c.take_back.ensures.back) (moved.ready c.requires.ready)

pub returns-clause-count : goal.returns-clause-count
returns-clause-count g c =
    let after = c.initializer_told-ended.new.store in
    let moved = subst (λ s. RunMoves (λ v. (g.dyn-1.0.entry v).1) c.args.table.now s after) c.lend.ensures.lent c.initializer_told-ended.ensures.moves in
    ap (λ u. length (members u.drivers)) c.take_back.ensures.back ∙ moved.count

pub returns-clause-counted : goal.returns-clause-counted
returns-clause-counted g c = λ no.
    let z = setting_of c.args.table.now 201 in
    let code = texts_of c.args.table.now in
    subst (λ u. IsCounted [] (world_of (λ v. (g.dyn-1.0.entry v).1) u)) (sym c.take_back.ensures.back)
    (c.initializer_told-ended.ensures.counted (λ lost. no (subst (λ s. IsLost z code (λ is. initializer_begins z code c.args.ticks c.args.entry (with_inputs is (world_of (λ v. (g.dyn-1.0.entry v).1) s)))) c.lend.ensures.lent lost)))

-- what is kept of it
pub returns-clause-stood : goal.returns-clause-stood
returns-clause-stood g c =
    let z = setting_of c.args.table.now 201 in
    let code = texts_of c.args.table.now in
    let first = lent c.args.machine.now c.args.events.now in
    let after = c.initializer_told-ended.new.store in
    let last = c.initializer_told-ended.new.last in
    subst (λ l. IfErr c.initializer_told-ended.result (λ f. HasTrace z code (λ is. initializer_begins z code c.args.ticks c.args.entry (with_inputs is (world_of (λ v. (g.dyn-1.0.entry v).1) first))) f l.frames.items l.left)) (sym c.take_back.ensures.last)
    (subst (λ s. IfErr c.initializer_told-ended.result (λ f. HasTrace z code (λ is. initializer_begins z code c.args.ticks c.args.entry (with_inputs is (world_of (λ v. (g.dyn-1.0.entry v).1) s))) f last.frames.items last.left)) c.lend.ensures.lent c.initializer_told-ended.ensures.stood)

pub returns-clause-ticks : goal.returns-clause-ticks
returns-clause-ticks g c = subst (λ l. IfOk c.initializer_told-ended.result (λ left. l.left ≡ left)) (sym c.take_back.ensures.last) c.initializer_told-ended.ensures.ticks

pub returns-clause-no_frames : goal.returns-clause-no_frames
returns-clause-no_frames g c = subst (λ l. IfOk c.initializer_told-ended.result (λ left. l.frames.items ≡ [])) (sym c.take_back.ensures.last) c.initializer_told-ended.ensures.no_frames

pub returns-clause-within : goal.returns-clause-within
returns-clause-within g c = subst (λ l. l.left ≤ c.args.ticks) (sym c.take_back.ensures.last) c.initializer_told-ended.ensures.within
