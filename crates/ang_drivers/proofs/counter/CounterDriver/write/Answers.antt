use Rattle.std.proofs.Common.{rules, refl, subst, ◌∙◌, ◌≡◌, Some}
use Rattle.std.specs.Int.{w32}
use Rattle.std.specs.Int.RustNames.{FitsSigned}
use Rattle.std.proofs.lemmas.Int.{to_z-of_z}
use Rattle.ang_host.specs.State.{write}
use Rattle.ang_host.specs.declared.answer.Answer.TheVariants.{Void, Fault}
use Rattle.ang_host.specs.declared.answer.HostReply.TheVariants.{Asking}
use Rattle.ang_drivers.specs.declared.counter.Count.{Count}
use Rattle.ang_drivers.specs.Tables.{int_32}
use Rattle.ang_drivers.specs.Counter.{count_code, CounterMoves, WriteMoves}
use Rattle.ang_drivers.specs.ObjectsLedger.{ledger}
use Rattle.ang_drivers.proofs.Moving.{answered, kept, revalued, revalued_table, sound_of}
use Rattle.ang_drivers.proofs.counter.CounterDriver.write.Goals as goal

pub returns-in-Some-read_int_32 : goal.returns-in-Some-read_int_32
returns-in-Some-read_int_32 c =
    let t = ledger c.ask.new.self in
    let u = ledger c.set_value.new.self in
    let k = c.in-Some.key in
    let z = c.in-Some-read_int_32.step in
    let count = c.value-count.result in
    let new : Count = record { value = count.value; step = z } in
    let fits : FitsSigned w32 z = search rules in
    let stepped : c.with_step.result ≡ new = c.with_step.ensures.exact ∙ (λ i. record { value = count.value; step = to_z-of_z w32 z fits i }) in
    record {
      law =
          answered count_code CounterMoves (ledger c.args.self.now.counts) t u (write c.args.f c.args.object c.args.value) Void c.if-not-ask.ensures.asked
          (revalued t u k c.with_step.result c.set_value.ensures.revalued) tt
          (subst (λ o. WriteMoves t.table o (int_32 c.args.value) (Asking Void) u.table) c.in-Some.ensures.exact
          (subst (λ n. WriteMoves t.table (Some k) n (Asking Void) u.table) c.in-Some-read_int_32.ensures.exact
          (count, c.value-count.ensures.exact, refl, revalued_table t u k c.with_step.result new c.set_value.ensures.revalued stepped))) tt
          (sound_of count_code c.set_value.new.self);
    }

pub returns-in-None-read_int_32 : goal.returns-in-None-read_int_32
returns-in-None-read_int_32 c =
    let t = ledger c.ask.new.self in
    record {
      law =
          answered count_code CounterMoves (ledger c.args.self.now.counts) t t (write c.args.f c.args.object c.args.value) (Fault 1) c.if-not-ask.ensures.asked (kept t) tt
          (subst (λ o. WriteMoves t.table o (int_32 c.args.value) (Asking (Fault 1)) t.table) c.in-Some.ensures.exact
          (subst (λ n. WriteMoves t.table (Some c.in-Some.key) n (Asking (Fault 1)) t.table) c.in-None-read_int_32.ensures.exact (refl, refl))) tt
          (sound_of count_code c.ask.new.self);
    }

pub returns-in-None : goal.returns-in-None
returns-in-None c =
    let t = ledger c.ask.new.self in
    record {
      law =
          answered count_code CounterMoves (ledger c.args.self.now.counts) t t (write c.args.f c.args.object c.args.value) (Fault 1) c.if-not-ask.ensures.asked (kept t) tt
          (subst (λ o. WriteMoves t.table o (int_32 c.args.value) (Asking (Fault 1)) t.table) c.in-None.ensures.exact (refl, refl)) tt
          (sound_of count_code c.ask.new.self);
    }
