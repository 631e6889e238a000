use Rattle.std.proofs.Common.{rules, ◌≡◌, ◌∙◌, ap, length, slice_index_or, map}
use Rattle.ang_vm_stack.specs.declared.table.LinkedImport.{LinkedImport}
use Rattle.ang_engine_modules.specs.Modules.{unbound_link}
use Rattle.ang_engine_modules.proofs.Lists.{next_first, left_mapped}
use Rattle.ang_engine_modules.proofs.Imports.{unbound_import, bounds_unbound, params_unbound}
use Rattle.ang_engine_modules.proofs.links.unbind_imports.Goals as goal

pub loop-import-preserved : goal.loop-import-preserved
loop-import-preserved c =
    let stood = slice_index_or c.loop-import.import-items c.loop-import.import-index c.import-item.result in
    let link : c.unbound_link-import.result ≡ unbound_link c.args.home stood.bound = search rules in
    next_first (unbound_import c.args.home) c.loop-import.import-index c.deref_mut-import-items.result.now c.loop-import.import-items c.import-item.result _ c.loop-import.invariant
    c.loop-import-test.true (ap (λ b. record { params = stood.params; bound = b }) link)

pub returns-clause-bound : goal.returns-clause-bound
returns-clause-bound c =
    let old = c.args.imports.now in
    let same : c.deref_mut-import-items.result.now ≡ old.items = search rules in
    let count : old.len ≡ length old.items = search rules in
    ap (map (λ (y : LinkedImport). y.bound))
    (left_mapped (unbound_import c.args.home) c.loop-import.import-index old.len c.loop-import.import-items c.deref_mut-import-items.result.now old.items c.loop-import.invariant same
    c.loop-import-test.false count)
    ∙ bounds_unbound c.args.home old.items

pub returns-clause-params : goal.returns-clause-params
returns-clause-params c =
    let old = c.args.imports.now in
    let same : c.deref_mut-import-items.result.now ≡ old.items = search rules in
    let count : old.len ≡ length old.items = search rules in
    ap (map (λ (y : LinkedImport). y.params.items))
    (left_mapped (unbound_import c.args.home) c.loop-import.import-index old.len c.loop-import.import-items c.deref_mut-import-items.result.now old.items c.loop-import.invariant same
    c.loop-import-test.false count)
    ∙ params_unbound c.args.home old.items
