use Rattle.std.proofs.Common.{Ok, Err, refl}
use Rattle.std.proofs.lemmas.Result.{err_from_is_err_and}
use Rattle.asremote.specs.Talk.{LookedUp}
use Rattle.asremote.proofs.prepared.prepare.Goals as goal

pub returns-in_ok-print_prepared-in-Ok-clause-obeyed : goal.returns-in_ok-print_prepared-in-Ok-clause-obeyed
returns-in_ok-print_prepared-in-Ok-clause-obeyed g c = λ ticks. record {
  did = LookedUp c.args.name.now c.args.decl.now (Ok c.in-Ok.number);
  says = refl;
  budgeted = tt;
  comes = record { comes = refl; functions = c.in-Ok.ensures.found };
  right = refl;
  printed = c.in_ok-print_prepared-in-Ok.ensures.whole;
}

pub returns-in_err-print_prepared-in-Ok-clause-cut : goal.returns-in_err-print_prepared-in-Ok-clause-cut
returns-in_err-print_prepared-in-Ok-clause-cut g c =
    let p = err_from_is_err_and c.from_residual.result c.from_residual.ensures.1 in
    λ ticks. rw p.1 record {
      did = LookedUp c.args.name.now c.args.decl.now (Ok c.in-Ok.number);
      says = refl;
      budgeted = tt;
      comes = record { comes = refl; functions = c.in-Ok.ensures.found };
      front = c.in_err-print_prepared-in-Ok.ensures.front;
    }

pub returns-in_ok-print_refusal-in-Err-clause-obeyed : goal.returns-in_ok-print_refusal-in-Err-clause-obeyed
returns-in_ok-print_refusal-in-Err-clause-obeyed g c = λ ticks. record {
  did = LookedUp c.args.name.now c.args.decl.now (Err c.in-Err.refusal);
  says = refl;
  budgeted = tt;
  comes = record { comes = refl; functions = c.in-Err.ensures.found };
  right = refl;
  printed = c.in_ok-print_refusal-in-Err.ensures.whole;
}

pub returns-in_err-print_refusal-in-Err-clause-cut : goal.returns-in_err-print_refusal-in-Err-clause-cut
returns-in_err-print_refusal-in-Err-clause-cut g c =
    let p = err_from_is_err_and c.from_residual-in_err-print_refusal-in-Err.result c.from_residual-in_err-print_refusal-in-Err.ensures.1 in
    λ ticks. rw p.1 record {
      did = LookedUp c.args.name.now c.args.decl.now (Err c.in-Err.refusal);
      says = refl;
      budgeted = tt;
      comes = record { comes = refl; functions = c.in-Err.ensures.found };
      front = c.in_err-print_refusal-in-Err.ensures.front;
    }
