use Rattle.std.proofs.Common.{inr, rules, ◌≡◌, refl}
use Rattle.ang_host.specs.State.{call}
use Rattle.example_driver.proofs.TicketsLaws.{gives_next, unknown, full}
use Rattle.example_driver.proofs.TicketsDriver.call.Goals as goal

pub returns-then-self-eq-LIMIT : goal.returns-then-self-eq-LIMIT
returns-then-self-eq-LIMIT c = record { law = full c.args.self.now.given c.args.self.now.asked (call c.args.f c.args._object c.args._args.now) c.if-self-eq-LIMIT.true }

pub returns-then-f-ne0 : goal.returns-then-f-ne0
returns-then-f-ne0 c = record {
  law = unknown c.args.self.now.given c.args.self.now.asked (call c.args.f c.args._object c.args._args.now) (inr (c.if-f-ne0.true, (refl, refl)));
}

pub returns : goal.returns
returns c = record {
  law =
      let zero : c.args.f ≡ 0 = search rules in
      gives_next c.args.self.now.given c.args.self.now.asked c.args.f c.args._object c.args._args.now zero;
}
