use Rattle.std.proofs.Common.{◌≡◌, ap, subst}
use Rattle.std.specs.Prelude.{IfOk, option_and_then}
use Rattle.ang_engine_modules.specs.World.{Program}
use Rattle.ang_engine.specs.Declarations.{import_in}
use Rattle.ang_engine.proofs.engine.Engine.import_number.Goals as goal

pub returns-in-Some : goal.returns-in-Some
returns-in-Some g c = record {
  exact = subst (λ o. IfOk c.declared_import.result (λ number. number ≡ option_and_then (λ (p : Program). import_in p c.args.decl.now) o)) c.in-Some.ensures.program c.declared_import.ensures.exact;
}

pub returns-in-None : goal.returns-in-None
returns-in-None g c = record { exact = ap (λ o. option_and_then (λ (p : Program). import_in p c.args.decl.now) o) c.in-None.ensures.program }
