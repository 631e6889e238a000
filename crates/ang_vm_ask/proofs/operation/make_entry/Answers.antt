use Rattle.std.proofs.Common.{◌≡◌, None, sym, ap, ◌∙◌}
use Rattle.ang_heap.specs.Stores.{world_of}
use Rattle.ang_vm_stack.specs.Tables.{setting_of, entity_of}
use Rattle.ang_vm_ask.specs.Askings.{Sees}
use Rattle.ang_vm_ask.proofs.Live.{kept_can}
use Rattle.ang_vm_ask.proofs.Performing.{ask_with}
use Rattle.ang_vm_ask.proofs.operation.make_entry.Goals as goal

pub returns-clause-made : goal.returns-clause-made
returns-clause-made g c = λ ops object args nesting.
    let same : c.requires.entry.entity ≡ c.args.entity = cc in
    let z = setting_of c.args.table.now nesting in
    let sees : Sees z c.args.home c.name_at-asking.result.now c.args.entity c.args.host.now = record { name = sym c.name_at-asking.ensures.exact; host = ap (λ e. entity_of c.args.table.now c.args.home e.0) (sym same) ∙ c.requires.entry.seen } in
    ask_with c.name_at-asking.result.now c.args.entity c.args.host.now ops (world_of (λ v. (g.dyn-1.0.entry v).1) c.args.store.now) (world_of (λ v. (g.dyn-1.0.entry v).1) c.make_with.new.store)
    z c.args.home sees None c.args.args.now c.make_with.result object args (c.make_with.ensures.told z c.args.home sees)

pub returns-clause-enough : goal.returns-clause-enough
returns-clause-enough g c = λ vs p. kept_can c.make_with.result vs (world_of (λ v. (g.dyn-1.0.entry v).1) c.make_with.new.store) (c.make_with.ensures.enough vs p)
