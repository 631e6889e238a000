use Rattle.std.proofs.Common.{refl}
use Rattle.asremote.specs.Talk.{Listed}
use Rattle.asremote.proofs.Turning.{ok_turn, err_turn}
use Rattle.asremote.proofs.obeying.list.Goals as goal

pub returns-clause-obeyed : goal.returns-clause-obeyed
returns-clause-obeyed g c = λ ps ticks. ok_turn c.print_declarations.result _ _ (λ ok p. record {
  did = Listed c.args.name.now p.lines p.outcome;
  says = refl;
  budgeted = tt;
  comes = record { comes = refl; functions = refl };
  right = p.ended;
  printed = p.printed;
}) c.print_declarations.ensures.whole

pub returns-clause-cut : goal.returns-clause-cut
returns-clause-cut g c = λ ps ticks. err_turn c.print_declarations.result _ _ (λ p. record {
  did = Listed c.args.name.now p.lines p.outcome;
  says = refl;
  budgeted = tt;
  comes = record { comes = refl; functions = refl };
  front = p.front;
}) c.print_declarations.ensures.front
