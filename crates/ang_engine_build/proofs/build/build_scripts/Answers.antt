use Rattle.std.proofs.Common.{refl, map as list_map}
use Rattle.ang_names_listed.specs.Sources.{source_of}
use Rattle.ang_engine_build.proofs.Scripts.{declarations_refused, bodies_refused, none_refused}
use Rattle.ang_engine_build.proofs.build.build_scripts.Goals as goal

pub returns-in-Err-clause-built : goal.returns-in-Err-clause-built
returns-in-Err-clause-built c =
    declarations_refused c.args.view.now (list_map source_of c.args.scripts.now) c.with_denials.result c.in-Err.unbuilt _ c.in-Err.ensures.refused c.with_denials.ensures.exact

pub returns-in-Err-check-clause-built : goal.returns-in-Err-check-clause-built
returns-in-Err-check-clause-built c =
    bodies_refused c.args.view.now (list_map source_of c.args.scripts.now) c.in-Ok.names c.in-Ok.ensures.accepted c.in-Ok.ensures.names
    c.with_denials-why.result c.in-Err-check.unbuilt _ c.in-Err-check.ensures.refused c.with_denials-why.ensures.exact

pub returns-in-Ok-check-clause-built : goal.returns-in-Ok-check-clause-built
returns-in-Ok-check-clause-built c =
    none_refused c.args.view.now (list_map source_of c.args.scripts.now) c.in-Ok.names c.in-Ok.ensures.accepted c.in-Ok.ensures.names
    (record { names = c.in-Ok.names; tree = c.in-Ok-check.tree }) refl c.in-Ok-check.ensures.accepted c.in-Ok-check.ensures.typed
