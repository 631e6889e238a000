use Rattle.std.proofs.Common.{Some, ap, ◌∙◌}
use Rattle.std.specs.Prelude.{option_map}
use Rattle.ang_engine.specs.Declarations.{declared_in}
use Rattle.ang_engine.proofs.engine.Engine.declarations.Goals as goal

pub returns-in_default : goal.returns-in_default
returns-in_default g c = record { exact = ap (option_map (declared_in c.args.kind)) c.in_default.ensures.program }

pub returns : goal.returns
returns g c = record { exact = ap Some c.declared_count.ensures.exact ∙ ap (option_map (declared_in c.args.kind)) c.in-Some.ensures.program }
