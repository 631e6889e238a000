use Rattle.std.proofs.Common.{◌≡◌, sym, ap, ◌∙◌}
use Rattle.ang_heap.specs.Stores.{world_of}
use Rattle.ang_vm_stack.specs.Tables.{setting_of, entity_of}
use Rattle.ang_vm_ask.specs.Askings.{Sees}
use Rattle.ang_vm_ask.proofs.Live.{kept_can}
use Rattle.ang_vm_ask.proofs.Performing.{ask_with}
use Rattle.ang_vm_ask.proofs.operation.call_entry.Goals as goal

pub returns-clause-called : goal.returns-clause-called
returns-clause-called g c = λ ops object args nesting.
    let same : c.requires.entry.entity ≡ c.args.entity = cc in
    let z = setting_of c.args.table.now nesting in
    let sees : Sees z c.args.home c.name_at-name.result.now c.args.entity c.args.host.now = record { name = sym c.name_at-name.ensures.exact; host = ap (λ e. entity_of c.args.table.now c.args.home e.0) (sym same) ∙ c.requires.entry.seen } in
    ask_with c.name_at-name.result.now c.args.entity c.args.host.now ops (world_of (λ v. (g.dyn-1.0.entry v).1) c.args.store.now) (world_of (λ v. (g.dyn-1.0.entry v).1) c.call_with.new.store)
    z c.args.home sees c.args.object c.args.args.now c.call_with.result object args (c.call_with.ensures.told z c.args.home sees)

pub returns-clause-enough : goal.returns-clause-enough
returns-clause-enough g c = λ vs p. kept_can c.call_with.result vs (world_of (λ v. (g.dyn-1.0.entry v).1) c.call_with.new.store) (c.call_with.ensures.enough vs p)
