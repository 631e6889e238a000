use Rattle.ang_typed.specs.View.{view_typed}
use Rattle.ang_lower.proofs.Modules.{params_are, results_are, lowers_program, keeps_sound}
use Rattle.ang_lower.proofs.bodies.lower.Goals as goal

pub returns : goal.returns
returns c =
    let p = view_typed c.args.program.now in
    let bs = c.in_ok-bodies.bodies.items in
    let exact = c.in_ok-bodies.ensures.exact in
    record { exact = exact; params = params_are p bs exact; results = results_are p bs exact; lowered = lowers_program p bs exact; sound = keeps_sound p bs exact; positions = c.in_ok-bodies.ensures.positions }
