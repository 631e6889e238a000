use Rattle.std.proofs.Common.{◌∷◌}
use Rattle.ang_types.specs.declared.arg_type.ArgType.TheVariants.{Object}
use Rattle.ang_check_uses.proofs.ChosenLaws.{contest_of_methods as of_methods}
use Rattle.ang_check_uses.proofs.standings.contest_of_methods.Goals as goal

pub returns : goal.returns
returns c =
    let s = c.args.scope.now in
    let types = Object c.args.number c.args.read_only ∷ c.args.args.now in
    record {
      contest = of_methods s.ancestors types s.view c.args.number c.args.name.now c.in_ok-contest.contest c.in_ok-contest.ensures.entered;
    }
