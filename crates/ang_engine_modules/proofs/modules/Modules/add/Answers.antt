use Rattle.ang_engine_modules.proofs.Loading.{blank}
use Rattle.ang_engine_modules.proofs.Serving.{loaded_added}
use Rattle.ang_engine_modules.proofs.modules.Modules.add.Goals as goal

pub invariant_of-self : goal.invariant_of-self
invariant_of-self c =
    let x = c.self.inside in
    let e = c.no_code.ensures in
    let p = c.push_place.ensures in
    loaded_added x.table _ x.loaded.items _ c.self.invariant c.push_place.result c.no_code.result p.codes p.codes_unchanged p.loaded p.loaded_unchanged
    (λ m. blank m c.no_code.result e.name e.bodies e.imports e.entities e.classes e.slots)
