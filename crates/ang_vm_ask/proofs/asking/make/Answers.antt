use Rattle.std.proofs.Common.{None, refl, sym, ap, subst, ◌∙◌}
use Rattle.ang_host.specs.Laws.{AreLive}
use Rattle.ang_meaning.specs.World.{with_inputs}
use Rattle.ang_meaning.specs.Hosts.{values_of, asked}
use Rattle.ang_meaning.proofs.Telling.{told_same, told_then}
use Rattle.ang_heap.specs.Stores.{world_of}
use Rattle.ang_vm_ask.specs.Askings.{driver_state}
use Rattle.ang_vm_ask.proofs.Asks.{refused}
use Rattle.ang_vm_ask.proofs.asking.make.Goals as goal

pub returns-in_default-clause-told : goal.returns-in_default-clause-told
returns-in_default-clause-told g c = λ z m sees.
    let host = c.args.host.now in
    refused z m c.args.caller.now c.args.entity host sees None (values_of host.driver host.params c.args.args.now) host.result (world_of (λ v. (g.dyn-1.0.entry v).1) c.args.store.now) _ _ refl refl

pub make_with-requires-clause-args_live : goal.make_with-requires-clause-args_live
make_with-requires-clause-args_live g c =
    subst (AreLive (driver_state (λ v. (g.dyn-1.0.entry v).1) c.args.store.now c.args.host.now.driver)) (sym (c.as_slice.ensures ∙ c.in-Ok.ensures.exact)) c.requires.args_live

pub returns-clause-told : goal.returns-clause-told
returns-clause-told g c = λ z m sees.
    let host = c.args.host.now in
    told_then
    (told_same (λ is. ap (λ vs. asked z m c.args.entity None vs host.result (with_inputs is (world_of (λ v. (g.dyn-1.0.entry v).1) c.args.store.now))) (sym (c.as_slice.ensures ∙ c.in-Ok.ensures.exact))))
    (c.make_with.ensures.told z m sees)
