use Rattle.std.proofs.Common.{sym, subst, ap, ◌∙◌}
use Rattle.ang_meaning.specs.World.{hold, if_told, with_inputs}
use Rattle.ang_meaning.specs.Told.{Told}
use Rattle.ang_meaning.specs.declared.slot.Slot.TheVariants.{Script, Host}
use Rattle.ang_heap.specs.Stores.{world_of}
use Rattle.ang_heap.proofs.Storing.{bits_held, null_held, no_key_held, script_held, moves_objects}
use Rattle.ang_heap.proofs.store.hold.Goals as goal

pub returns-in-Bits-clause-told : goal.returns-in-Bits-clause-told
returns-in-Bits-clause-told g c = bits_held c.args.value _ (world_of (λ v. (g.dyn-1.0.entry v).1) c.args.store.now) c.in-Bits.is

pub returns-in-Some-clause-told : goal.returns-in-Some-clause-told
returns-in-Some-clause-told g c = script_held c.args.value c.in-Some.number c.raise.result (world_of (λ v. (g.dyn-1.0.entry v).1) c.args.store.now) _ (c.in-Script.is ∙ ap Script c.in-Some.is) c.raise.ensures.raised c.raise.ensures.full

pub returns-in-None-clause-told : goal.returns-in-None-clause-told
returns-in-None-clause-told g c = null_held c.args.value (world_of (λ v. (g.dyn-1.0.entry v).1) c.args.store.now) (c.in-Script.is ∙ ap Script c.in-None.is)

pub returns-in-None-named-clause-told : goal.returns-in-None-named-clause-told
returns-in-None-named-clause-told g c =
    no_key_held c.args.value c.in-Host.driver (world_of (λ v. (g.dyn-1.0.entry v).1) c.args.store.now) (c.in-Host.is ∙ ap (λ o. Host c.in-Host.driver o) c.in-None-named.is)

pub returns-in-Some-named-clause-told : goal.returns-in-Some-named-clause-told
returns-in-Some-named-clause-told g c =
    subst (λ x. Told (λ is. hold x (with_inputs is (world_of (λ v. (g.dyn-1.0.entry v).1) c.args.store.now))) (λ is. if_told c.hold_host.result (with_inputs is (world_of (λ v. (g.dyn-1.0.entry v).1) c.hold_host.new.store))))
    (sym (c.in-Host.is ∙ ap (λ o. Host c.in-Host.driver o) c.in-Some-named.is)) c.hold_host.ensures.told

pub returns-in-Some-clause-moves : goal.returns-in-Some-clause-moves
returns-in-Some-clause-moves g c = λ roles.
    let s = c.args.store.now in
    moves_objects _ roles s (record s.heap { records = c.raise.new.records }) (λ e. e ∙ sym c.raise.ensures.slots) (λ n a b. a)
