use Rattle.std.proofs.Common.{◌≡◌, ◌≤◌, IfOk, subst}
use Rattle.std.specs.Prelude.{IfSome}
use Rattle.ang_check_denials.specs.Telling.{IsTold}
use Rattle.ang_check_denials.proofs.Telling.{chosen_help}
use Rattle.ang_check_denials.proofs.helpers.helpers_of.Goals as goal

pub returns : goal.returns
returns c =
    let k = c.args.masked.now in
    let s = c.args.scope.now in
    let r = c.args.refused.now in
    let a = c.args.asks.now in
    let t = c.in-Some.told in
    let is : IsTold k.list k.mask k.kinds s r a t = subst (λ o. IfSome o (IsTold k.list k.mask k.kinds s r a)) c.in-Some.is c.in_ok-found.ensures.told in
    record {
      exact =
          subst (λ ns. IfOk c.helpers_told.result (λ numbers. numbers.items ≡ ns))
          (chosen_help k.list k.mask s r a t.sought c.args.row.now is.tells (subst (λ n. n ≤ 1024) c.requires.count c.requires.few) c.requires.row)
          c.helpers_told.ensures.exact;
    }
