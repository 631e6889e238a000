use Rattle.std.proofs.Common.{rules, ◌≡◌, false}
use Rattle.ang_engine_modules.specs.Keeping.{keeps, keeps_some}
use Rattle.ang_engine_modules.proofs.Ranges.{goes_on}
use Rattle.ang_engine_modules.proofs.groups.keeps_some.Goals as goal

pub loop-number-preserved : goal.loop-number-preserved
loop-number-preserved c =
    let none : keeps c.args.view.now c.loop-number.number ≡ false = search rules in
    goes_on (keeps c.args.view.now) c.loop-number.number c.args.group.now.after (keeps_some c.args.group.now c.args.view.now) (search rules) none c.loop-number.invariant
