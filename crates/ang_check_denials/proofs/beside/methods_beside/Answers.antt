use Rattle.std.proofs.Common.{rules, subst, sym}
use Rattle.ang_check_contest.specs.Contest.{IsContest}
use Rattle.ang_check_uses.specs.Uses.{candidates_of, host_methods}
use Rattle.ang_check_denials.proofs.beside.methods_beside.Goals as goal

pub returns : goal.returns
returns c =
    let l = c.args.scope.now.ancestors in
    let cs = candidates_of (host_methods c.args.scope.now.view c.args.receiver.0 c.args.name.now) in
    record {
      exact =
          c.in_ok-others.ensures.rivals l cs c.args.types.now
          (subst (λ ts. IsContest l cs ts c.in_ok-contest.contest) (sym c.requires.types) c.in_ok-contest.ensures.contest) (search rules);
    }
