use Rattle.std.proofs.Common.{refl}
use Rattle.std.proofs.lemmas.Result.{err_from_is_err_and}
use Rattle.asremote.specs.Talk.{Traced}
use Rattle.asremote.proofs.obeying.tell_trace.Goals as goal

pub returns-in_err-print_trace-clause-cut : goal.returns-in_err-print_trace-clause-cut
returns-in_err-print_trace-clause-cut g c =
    let p = err_from_is_err_and c.from_residual.result c.from_residual.ensures.1 in
    λ ps ticks. rw p.1 record {
      did = Traced c.in_err-print_trace.ensures.front.frames;
      says = refl;
      budgeted = tt;
      comes = record { comes = refl; functions = refl };
      front = c.in_err-print_trace.ensures.front.front;
    }

pub returns-clause-obeyed : goal.returns-clause-obeyed
returns-clause-obeyed g c = λ ps ticks. record {
  did = Traced c.in_ok-print_trace.ensures.whole.frames;
  says = refl;
  budgeted = tt;
  comes = record { comes = refl; functions = refl };
  right = refl;
  printed = c.in_ok-print_trace.ensures.whole.printed;
}
