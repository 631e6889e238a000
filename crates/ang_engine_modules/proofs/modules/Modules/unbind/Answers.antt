use Rattle.std.proofs.Common.{None}
use Rattle.ang_engine_modules.proofs.Loading.{loaded_linked}
use Rattle.ang_engine_modules.proofs.Serving.{within_still, none_some}
use Rattle.ang_engine_modules.proofs.modules.Modules.unbind.Goals as goal

pub invariant_of-self : goal.invariant_of-self
invariant_of-self c =
    let x = c.self.inside in
    loaded_linked x.table _ x.loaded.items _ c.self.invariant c.args.home c.args.index None (within_still x.loaded.items c.args.self.now c.self.view_is c.args.home c.requires.within) c.bind_import.ensures.code c.bind_import.ensures.place (λ g e. absurd (none_some g e))
