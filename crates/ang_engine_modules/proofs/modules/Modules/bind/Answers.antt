use Rattle.std.proofs.Common.{Some}
use Rattle.ang_meaning.specs.declared.routine.Routine.{Routine}
use Rattle.ang_engine_modules.proofs.Loading.{loaded_linked}
use Rattle.ang_engine_modules.proofs.Serving.{fits_still, within_still}
use Rattle.ang_engine_modules.proofs.modules.Modules.bind.Goals as goal

pub invariant_of-self : goal.invariant_of-self
invariant_of-self c =
    let x = c.self.inside in
    let f : Routine = record { home = c.args.exporter; number = c.args.number } in
    loaded_linked x.table _ x.loaded.items _ c.self.invariant c.args.home c.args.index (Some f) (within_still x.loaded.items c.args.self.now c.self.view_is c.args.home c.requires.within) c.bind_import.ensures.code c.bind_import.ensures.place
    (fits_still x.loaded.items c.args.self.now c.self.view_is c.args.home c.args.index f c.requires.fits)
