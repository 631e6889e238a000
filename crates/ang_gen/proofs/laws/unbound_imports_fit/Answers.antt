use Rattle.ang_gen.proofs.Composed.{modules_fit}
use Rattle.ang_gen.proofs.laws.unbound_imports_fit.Goals as goal

pub returns : goal.returns
returns c = record { of_modules = λ z view program code ms none. modules_fit z view program code ms none }
