use Rattle.std.proofs.Common.{refl}
use Rattle.asremote.specs.Talk.{Checked}
use Rattle.asremote.proofs.Turning.{ok_both, err_turn}
use Rattle.asremote.proofs.obeying.check.Goals as goal

pub returns-clause-obeyed : goal.returns-clause-obeyed
returns-clause-obeyed g c = λ ps ticks. ok_both c.tell_reply.result _ _ _ (λ ok ended told. record {
  did = Checked c.args.name.now c.check-reply.result;
  says = refl;
  budgeted = tt;
  comes = record {
    comes = record {
      checks = c.check-reply.ensures.checks;
      list = c.check-reply.ensures.list;
      numbers = record { last = c.check-reply.ensures.last; builds = λ j i. c.check-reply.ensures.builds i j };
      silent = c.check-reply.ensures.silent;
      drivers = c.check-reply.ensures.drivers;
      limits = c.check-reply.ensures.limits;
    };
    functions = refl;
  };
  right = ended;
  printed = told;
}) c.tell_reply.ensures.ended c.tell_reply.ensures.told

pub returns-clause-cut : goal.returns-clause-cut
returns-clause-cut g c = λ ps ticks. err_turn c.tell_reply.result _ _ (λ front. record {
  did = Checked c.args.name.now c.check-reply.result;
  says = refl;
  budgeted = tt;
  comes = record {
    comes = record {
      checks = c.check-reply.ensures.checks;
      list = c.check-reply.ensures.list;
      numbers = record { last = c.check-reply.ensures.last; builds = λ j i. c.check-reply.ensures.builds i j };
      silent = c.check-reply.ensures.silent;
      drivers = c.check-reply.ensures.drivers;
      limits = c.check-reply.ensures.limits;
    };
    functions = refl;
  };
  front = front;
}) c.tell_reply.ensures.front
