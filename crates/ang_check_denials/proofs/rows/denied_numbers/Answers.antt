use Rattle.std.proofs.Common.{◌≡◌, IfOk, subst}
use Rattle.ang_check_denials.specs.Denials.{helps}
use Rattle.ang_check_added.proofs.Bringing.{kept_in_order}
use Rattle.ang_check_denials.proofs.Kept.{denied_are}
use Rattle.ang_check_denials.proofs.rows.denied_numbers.Goals as goal

pub denied_with-requires : goal.denied_with-requires
denied_with-requires c =
    let R = c.args.masked.now.list in
    let help = helps R c.args.masked.now.mask c.args.scope.now c.args.refused.now c.args.asks.now in
    record { ordered = kept_in_order R help c.in_ok-helpers.helpers.items c.in_ok-helpers.ensures.exact }

pub returns : goal.returns
returns c =
    record {
      exact =
          subst (λ ns. IfOk c.denied_with.result (λ numbers. numbers.items ≡ ns))
          (denied_are c.args.masked.now.list c.args.masked.now.mask c.args.scope.now c.args.refused.now c.args.asks.now c.in_ok-helpers.helpers.items c.in_ok-helpers.ensures.exact)
          c.denied_with.ensures.exact;
    }
