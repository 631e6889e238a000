use Rattle.std.proofs.Common.{ap, sym, ◌∙◌, Some}
use Rattle.ang_engine_modules.specs.World.{module_in}
use Rattle.ang_engine_modules.specs.States.{place_of}
use Rattle.ang_engine.specs.Step.{emptied}
use Rattle.ang_engine.proofs.building.compile_place.Goals as goal

pub returns-clause-emptied : goal.returns-clause-emptied
returns-clause-emptied c = λ l. ap (λ s. Some s) (c.compile_waiting.ensures.emptied l) ∙ ap (λ q. Some (emptied (module_in (place_of q l)))) (sym c.in-Some.is)
