use Rattle.std.proofs.Common.{refl, ap, ◌≡◌, false, true}
use Rattle.ang_host.specs.State.{write}
use Rattle.ang_drivers.specs.CounterState.{counter_state}
use Rattle.ang_drivers.specs.Counter.{count_code, CounterFits}
use Rattle.ang_drivers.specs.Tables.{state_of}
use Rattle.ang_drivers.specs.ObjectsLedger.{ledger}
use Rattle.ang_drivers.proofs.Moving.{sound_of}
use Rattle.ang_drivers.proofs.Trials.{answered_over, answered_failing}
use Rattle.ang_drivers.proofs.faulty.FaultyDriver.write.Goals as goal

pub returns-then-not-is_failing : goal.returns-then-not-is_failing
returns-then-not-is_failing c =
    let f = c.args.self.now in
    record {
      law =
          answered_over CounterFits f.how f.number (counter_state f.counter) (counter_state c.write.new.self) (write c.args.f c.args.object c.args.value) (λ x r y h. h)
          (λ h. let e : false ≡ true = c.if-not-is_failing.ensures.exact.1 h in cc) c.write.result c.write.ensures.law;
    }

pub returns : goal.returns
returns c =
    let f = c.args.self.now in
    let t = c.ask.new.self in
    record {
      law =
          answered_failing CounterFits f.number (counter_state f.counter) (state_of count_code (ledger t)) (write c.args.f c.args.object c.args.value) (λ x r y h. h) f.how c.answer.result (λ how. refl) c.answer.ensures.exact
          (c.if-not-is_failing.ensures.exact.0 refl, ap (state_of count_code) c.if-not-ask.ensures.asked, t.few_asked) (sound_of count_code t);
    }
