use Rattle.std.proofs.Common.{[], true, refl, sym, ap, subst, ◌∙◌}
use Rattle.ang_host.specs.Boxes.{members}
use Rattle.ang_host.specs.Members.{states_of}
use Rattle.ang_meaning.specs.declared.slot.Slot.TheVariants.{Script, Host}
use Rattle.ang_heap.specs.Parts.{counts_of, world_by, IsTallyFull}
use Rattle.ang_heap.specs.Heaps.{objects_in}
use Rattle.ang_heap.proofs.Storing.{bits_held, null_held, no_key_held, host_held, script_held, none_noted}
use Rattle.ang_heap.proofs.heap.hold.Goals as goal

pub returns-in-Bits-clause-holds : goal.returns-in-Bits-clause-holds
returns-in-Bits-clause-holds g c = λ gs es n sp b. let w = world_by (objects_in c.args.records.now) (counts_of (λ v. (g.dyn-1.0.entry v).1) (members c.args.drivers.now)) gs es n sp b [] in none_noted c.args.value _ true w w c.in-Bits.is refl (bits_held c.args.value _ w c.in-Bits.is)

pub returns-in-Some-clause-holds : goal.returns-in-Some-clause-holds
returns-in-Some-clause-holds g c = λ gs es n sp b.
    host_held c.args.value c.in-Host.driver c.in-Some.key c.add.result (world_by (objects_in c.args.records.now) (counts_of (λ v. (g.dyn-1.0.entry v).1) (members c.args.drivers.now)) gs es n sp b []) _
    (c.in-Host.is ∙ ap (λ o. Host c.in-Host.driver o) c.in-Some.is) c.add.ensures.counts

pub returns-in-Some-clause-full : goal.returns-in-Some-clause-full
returns-in-Some-clause-full g c = λ e.
    subst (λ v. IsTallyFull v (objects_in c.args.records.now) (states_of (λ v. (g.dyn-1.0.entry v).1) (members c.args.drivers.now)))
    (sym (c.in-Host.is ∙ ap (λ o. Host c.in-Host.driver o) c.in-Some.is)) (c.add.ensures.full e)

pub returns-in-None-clause-holds : goal.returns-in-None-clause-holds
returns-in-None-clause-holds g c = λ gs es n sp b. let w = world_by (objects_in c.args.records.now) (counts_of (λ v. (g.dyn-1.0.entry v).1) (members c.args.drivers.now)) gs es n sp b [] in let e = c.in-Host.is ∙ ap (λ o. Host c.in-Host.driver o) c.in-None.is in none_noted c.args.value _ true w w e refl (no_key_held c.args.value c.in-Host.driver w e)

pub returns-in-Some-handle-clause-holds : goal.returns-in-Some-handle-clause-holds
returns-in-Some-handle-clause-holds g c = λ gs es n sp b.
    let w = world_by (objects_in c.args.records.now) (counts_of (λ v. (g.dyn-1.0.entry v).1) (members c.args.drivers.now)) gs es n sp b [] in
    let e = c.in-Script.is ∙ ap Script c.in-Some-handle.is in
    none_noted c.args.value _ c.raise.result w (record w { objects = objects_in c.raise.new.records }) e refl
    (script_held c.args.value c.in-Some-handle.number c.raise.result w _ e c.raise.ensures.raised c.raise.ensures.full)

pub returns-in-Some-handle-clause-full : goal.returns-in-Some-handle-clause-full
returns-in-Some-handle-clause-full g c = λ e.
    subst (λ v. IsTallyFull v (objects_in c.args.records.now) (states_of (λ v. (g.dyn-1.0.entry v).1) (members c.args.drivers.now)))
    (sym (c.in-Script.is ∙ ap Script c.in-Some-handle.is)) (c.raise.ensures.full e)

pub returns-in-None-handle-clause-holds : goal.returns-in-None-handle-clause-holds
returns-in-None-handle-clause-holds g c = λ gs es n sp b. let w = world_by (objects_in c.args.records.now) (counts_of (λ v. (g.dyn-1.0.entry v).1) (members c.args.drivers.now)) gs es n sp b [] in let e = c.in-Script.is ∙ ap Script c.in-None-handle.is in none_noted c.args.value _ true w w e refl (null_held c.args.value w e)
