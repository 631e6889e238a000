use Rattle.std.proofs.Common.{◌≤◌, length, arith}
use Rattle.ang_engine_modules.proofs.Uses.{uses_all}
use Rattle.ang_engine_modules.proofs.entities.uses_of.Goals as goal

pub returns : goal.returns
returns c =
    let past : length c.args.view.now ≤ c.loop-number.number = omega arith in
    record { exact = uses_all c.args.view.now c.loop-number.number c.loop-number.uses.items past c.loop-number.invariant }
