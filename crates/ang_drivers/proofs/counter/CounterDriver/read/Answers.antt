use Rattle.std.proofs.Common.{rules, arith, refl, ap, subst, ◌≡◌}
use Rattle.std.specs.Int.{w64, cast_signed, cast_unsigned}
use Rattle.std.proofs.lemmas.Int.{ints}
use Rattle.ang_kinds.specs.declared.value.Value.TheVariants.{Int}
use Rattle.ang_host.specs.State.{read}
use Rattle.ang_host.specs.declared.answer.Answer.TheVariants.{Gave, Fault}
use Rattle.ang_host.specs.declared.answer.HostReply.TheVariants.{Asking}
use Rattle.ang_drivers.specs.Counter.{count_code, CounterMoves, ReadMoves}
use Rattle.ang_drivers.specs.ObjectsLedger.{ledger}
use Rattle.ang_drivers.proofs.Moving.{answered, kept, sound_of}
use Rattle.ang_drivers.proofs.counter.CounterDriver.read.Goals as goal

pub returns-in-Some : goal.returns-in-Some
returns-in-Some c =
    let t = ledger c.ask.new.self in
    let z = cast_signed w64 (cast_unsigned w64 c.from.result) in
    let e : z ≡ c.value-count.result.step = first_of (search rules, omega (arith, ints)) in
    record {
      law =
          answered count_code CounterMoves (ledger c.args.self.now.counts) t t (read c.args.f c.args.object) (Gave (Int z)) c.if-not-ask.ensures.asked (kept t) tt
          (subst (λ o. ReadMoves t.table o (Asking (Gave (Int z))) t.table) c.in-Some.ensures.exact
          (c.value-count.result, c.value-count.ensures.exact, ap (λ n. Asking (Gave (Int n))) e, refl)) tt (sound_of count_code c.ask.new.self);
    }

pub returns-in-None : goal.returns-in-None
returns-in-None c =
    let t = ledger c.ask.new.self in
    record {
      law =
          answered count_code CounterMoves (ledger c.args.self.now.counts) t t (read c.args.f c.args.object) (Fault 1) c.if-not-ask.ensures.asked (kept t) tt
          (subst (λ o. ReadMoves t.table o (Asking (Fault 1)) t.table) c.in-None.ensures.exact (refl, refl)) tt (sound_of count_code c.ask.new.self);
    }
