use Rattle.std.proofs.Common.{rules, subst}
use Rattle.ang_check_uses.specs.Uses.{candidates_of, factories_of}
use Rattle.ang_check_denials.specs.Others.{AreOthers}
use Rattle.ang_check_denials.proofs.Seen.{factories_are}
use Rattle.ang_check_denials.proofs.beside.makers_of.Goals as goal

pub returns : goal.returns
returns c =
    let V = c.args.scope.now.view in
    let l = c.args.scope.now.ancestors in
    record {
      exact =
          subst (λ cs. AreOthers c.in_ok-makers.makers l cs c.args.types.now) (factories_are V c.args.number)
          (c.in_ok-makers.ensures.rivals l (candidates_of (factories_of V c.args.number)) c.args.types.now c.in_ok-contest.ensures.contest (search rules));
    }
