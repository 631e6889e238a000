use Rattle.std.proofs.Common.{refl}
use Rattle.std.proofs.lemmas.Result.{err_from_is_err_and}
use Rattle.asremote.specs.Talk.{Told}
use Rattle.asremote.proofs.obeying.tell_used.Goals as goal

pub returns-in_err-print_used-clause-cut : goal.returns-in_err-print_used-clause-cut
returns-in_err-print_used-clause-cut g c =
    let p = err_from_is_err_and c.from_residual.result c.from_residual.ensures.1 in
    λ ps ticks. rw p.1 record {
      did = Told c.ticks_used.result c.held.result;
      says = refl;
      budgeted = tt;
      comes = record { comes = (refl, c.held.ensures.exact, c.ticks_used.ensures.exact); functions = refl };
      front = c.in_err-print_used.ensures.front;
    }

pub returns-clause-obeyed : goal.returns-clause-obeyed
returns-clause-obeyed g c = λ ps ticks. record {
  did = Told c.ticks_used.result c.held.result;
  says = refl;
  budgeted = tt;
  comes = record { comes = (refl, c.held.ensures.exact, c.ticks_used.ensures.exact); functions = refl };
  right = refl;
  printed = c.in_ok-print_used.ensures.whole;
}
