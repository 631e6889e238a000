use Rattle.std.proofs.Common.{refl, ap, ◌≡◌, false, true}
use Rattle.ang_host.specs.State.{make}
use Rattle.ang_drivers.specs.CounterState.{counter_state}
use Rattle.ang_drivers.specs.Counter.{count_code, CounterFits}
use Rattle.ang_drivers.specs.Tables.{state_of}
use Rattle.ang_drivers.specs.ObjectsLedger.{ledger}
use Rattle.ang_drivers.proofs.Moving.{sound_of}
use Rattle.ang_drivers.proofs.Trials.{made_over, made_failing}
use Rattle.ang_drivers.proofs.faulty.FaultyDriver.make.Goals as goal

pub returns-then-not-is_failing : goal.returns-then-not-is_failing
returns-then-not-is_failing c =
    let f = c.args.self.now in
    record {
      law =
          made_over CounterFits f.how f.number (counter_state f.counter) (counter_state c.make.new.self) (make c.args.f c.args.args.now) (λ x r y h. h)
          (λ h. let e : false ≡ true = c.if-not-is_failing.ensures.exact.1 h in cc) c.make.result c.make.ensures.law;
    }

pub returns : goal.returns
returns c =
    let f = c.args.self.now in
    let t = c.ask.new.self in
    record {
      law =
          made_failing CounterFits f.number (counter_state f.counter) (state_of count_code (ledger t)) (make c.args.f c.args.args.now) (λ x r y h. h) f.how c.made.result (λ how. refl) c.made.ensures.exact
          (c.if-not-is_failing.ensures.exact.0 refl, ap (state_of count_code) c.if-not-ask.ensures.asked, t.few_asked) (sound_of count_code t);
    }
