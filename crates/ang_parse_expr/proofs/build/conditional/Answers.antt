use Rattle.std.proofs.Common.{◌≡◌, ◌∙◌, refl}
use Rattle.ang_parse_expr.proofs.Views.{conditional_made}
use Rattle.ang_parse_expr.proofs.build.conditional.Goals as goal

pub returns : goal.returns
returns c =
    record {
      exact =
          let a : c.in_ok-condition.condition.value ≡ c.args.condition = c.in_ok-condition.ensures.first in
          let b : c.in_ok-condition.then.value ≡ c.args.then = c.in_ok-condition.ensures.second in
          let d : c.in_ok-condition.otherwise.value ≡ c.args.otherwise = c.in_ok-condition.ensures.third in
          conditional_made _ _ _ _ _ ∙ rw (a, b, d) refl;
    }
