use Rattle.std.proofs.Common.{rules, arith, refl, ap, subst, ◌≡◌}
use Rattle.std.specs.Int.{w64, cast_signed, cast_unsigned}
use Rattle.std.proofs.lemmas.Int.{ints}
use Rattle.ang_kinds.specs.declared.value.Value.TheVariants.{Int, Uint}
use Rattle.ang_host.specs.State.{call}
use Rattle.ang_host.specs.declared.answer.Answer.TheVariants.{Void, Gave, Fault}
use Rattle.ang_host.specs.declared.answer.HostReply.TheVariants.{Asking}
use Rattle.ang_drivers.specs.declared.counter.CounterCall.TheVariants.{Bump, Tell}
use Rattle.ang_drivers.specs.Counter.{count_code, bumped, CounterMoves, CallMoves}
use Rattle.ang_drivers.specs.ObjectsLedger.{ledger}
use Rattle.ang_drivers.proofs.Moving.{answered, kept, revalued, revalued_table, held_after, sound_of}
use Rattle.ang_drivers.proofs.Counting.{named}
use Rattle.ang_drivers.proofs.counter.CounterDriver.call.Goals as goal

pub value-count-requires : goal.value-count-requires
value-count-requires c = record {
  held =
      held_after count_code (ledger c.args.self.now.counts) (ledger c.ask.new.self) c.args.object c.in-Bump.key c.if-not-ask.ensures.asked
      (named c.args.f c.args.object c.args.args.now (Bump c.in-Bump.key) c.in-Bump.ensures.exact) c.requires.object_live;
}

pub set_value-requires : goal.set_value-requires
set_value-requires c = record {
  held =
      held_after count_code (ledger c.args.self.now.counts) (ledger c.ask.new.self) c.args.object c.in-Bump.key c.if-not-ask.ensures.asked
      (named c.args.f c.args.object c.args.args.now (Bump c.in-Bump.key) c.in-Bump.ensures.exact) c.requires.object_live;
}

pub value-count-requires-in-Tell : goal.value-count-requires-in-Tell
value-count-requires-in-Tell c = record {
  held =
      held_after count_code (ledger c.args.self.now.counts) (ledger c.ask.new.self) c.args.object c.in-Tell.key c.if-not-ask.ensures.asked
      (named c.args.f c.args.object c.args.args.now (Tell c.in-Tell.key) c.in-Tell.ensures.exact) c.requires.object_live;
}

pub returns-in-Bump : goal.returns-in-Bump
returns-in-Bump c =
    let t = ledger c.ask.new.self in
    let u = ledger c.set_value.new.self in
    record {
      law =
          answered count_code CounterMoves (ledger c.args.self.now.counts) t u (call c.args.f c.args.object c.args.args.now) Void c.if-not-ask.ensures.asked
          (revalued t u c.in-Bump.key c.bumped.result c.set_value.ensures.revalued) tt
          (subst (λ m. CallMoves t.table m (Asking Void) u.table) c.in-Bump.ensures.exact (
            c.value-count.result,
            c.value-count.ensures.exact,
            refl,
            revalued_table t u c.in-Bump.key c.bumped.result (bumped c.value-count.result) c.set_value.ensures.revalued c.bumped.ensures.exact,
          )) tt (sound_of count_code c.set_value.new.self);
    }

pub returns-in-Tell : goal.returns-in-Tell
returns-in-Tell c =
    let t = ledger c.ask.new.self in
    let z = cast_signed w64 (cast_unsigned w64 c.from.result) in
    let e : z ≡ c.value-count-in-Tell.result.value = first_of (search rules, omega (arith, ints)) in
    record {
      law =
          answered count_code CounterMoves (ledger c.args.self.now.counts) t t (call c.args.f c.args.object c.args.args.now) (Gave (Int z)) c.if-not-ask.ensures.asked (kept t) tt
          (subst (λ m. CallMoves t.table m (Asking (Gave (Int z))) t.table) c.in-Tell.ensures.exact
          (c.value-count-in-Tell.result, c.value-count-in-Tell.ensures.exact, ap (λ n. Asking (Gave (Int n))) e, refl)) tt (sound_of count_code c.ask.new.self);
    }

pub returns-in-Added : goal.returns-in-Added
returns-in-Added c =
    let t = ledger c.ask.new.self in
    record {
      law =
          answered count_code CounterMoves (ledger c.args.self.now.counts) t t (call c.args.f c.args.object c.args.args.now) (Gave (Uint c.added.result)) c.if-not-ask.ensures.asked (kept t) tt
          (subst (λ m. CallMoves t.table m (Asking (Gave (Uint c.added.result))) t.table) c.in-Added.ensures.exact (c.added.result, refl, refl)) tt (sound_of count_code c.ask.new.self);
    }

pub returns-in-Unknown : goal.returns-in-Unknown
returns-in-Unknown c =
    let t = ledger c.ask.new.self in
    record {
      law =
          answered count_code CounterMoves (ledger c.args.self.now.counts) t t (call c.args.f c.args.object c.args.args.now) (Fault 1) c.if-not-ask.ensures.asked (kept t) tt
          (subst (λ m. CallMoves t.table m (Asking (Fault 1)) t.table) c.in-Unknown.ensures.exact (refl, refl)) tt (sound_of count_code c.ask.new.self);
    }
