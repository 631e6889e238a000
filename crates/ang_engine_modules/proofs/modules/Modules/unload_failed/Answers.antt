use Rattle.std.proofs.Common.{◌∙◌, ap, option_map}
use Rattle.ang_engine_modules.specs.Loaded.{loaded_at, unbound_in}
use Rattle.ang_engine_modules.specs.Traced.{failed_at}
use Rattle.ang_engine_modules.proofs.Loading.{blank, loaded_cleared}
use Rattle.ang_engine_modules.proofs.Standing.{kept_code}
use Rattle.ang_engine_modules.proofs.modules.Modules.unload_failed.Goals as goal

pub invariant_of-self : goal.invariant_of-self
invariant_of-self c =
    let x = c.self.inside in
    let e = c.no_code.ensures in
    loaded_cleared x.table _ x.loaded.items _ c.self.invariant c.args.home c.no_code.result _ c.replace_code-code.ensures.put
    (blank c.args.home c.no_code.result e.name e.bodies e.imports e.entities e.classes e.slots) c.unbind_codes.ensures.unbound (c.unbind_places.ensures.unbound ∙ ap (unbound_in c.args.home) c.take_loaded-loaded.ensures.taken)

pub failed_module-failed-requires : goal.failed_module-failed-requires
failed_module-failed-requires c =
    let x = c.self.inside in
    let e = c.no_code.ensures in
    let code = kept_code x.table x.loaded.items c.args.home c.no_code.result c.replace_code-code.result c.take_loaded-loaded.result c.self.invariant
    (blank c.args.home c.no_code.result e.name e.bodies e.imports e.entities e.classes e.slots) c.replace_code-code.ensures.replaced c.take_loaded-loaded.ensures.item
    in
    record { code = code }

pub returns-clause-kept : goal.returns-clause-kept
returns-clause-kept c =
    c.failed_module-failed.ensures.exact ∙ ap (option_map (failed_at c.args.home)) (c.take_loaded-loaded.ensures.item ∙ ap (λ xs. loaded_at xs c.args.home) c.self.view_is)
