use Rattle.std.proofs.Common.{◌∙◌, sym}
use Rattle.ang_engine_modules.proofs.Finding.{named_same, found_there}
use Rattle.ang_engine_modules.proofs.module_places.find.Goals as goal

pub returns-in-Some-clause-exact : goal.returns-in-Some-clause-exact
returns-in-Some-clause-exact c = λ code. c.in-Some.ensures.exact ∙ named_same c.args.name.now c.args.places.now code

pub returns-in-Some-clause-there : goal.returns-in-Some-clause-there
returns-in-Some-clause-there c = (found_there c.args.name.now c.args.places.now c.in-Some.place (sym c.in-Some.ensures.exact)).1

pub returns-in-None-clause-exact : goal.returns-in-None-clause-exact
returns-in-None-clause-exact c = λ code. c.in-None.ensures.exact ∙ named_same c.args.name.now c.args.places.now code
