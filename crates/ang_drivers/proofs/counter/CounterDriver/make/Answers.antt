use Rattle.std.proofs.Common.{refl, subst}
use Rattle.ang_host.specs.State.{make}
use Rattle.ang_host.specs.declared.answer.Made.TheVariants.{Fault as MadeFault}
use Rattle.ang_host.specs.declared.answer.HostReply.TheVariants.{Making}
use Rattle.ang_drivers.specs.Counter.{count_code, CounterMoves}
use Rattle.ang_drivers.specs.Tables.{MakesValue}
use Rattle.ang_drivers.specs.ObjectsLedger.{ledger}
use Rattle.ang_drivers.proofs.Moving.{made_value, made_fault, sound_of}
use Rattle.ang_drivers.proofs.counter.CounterDriver.make.Goals as goal

pub returns-in-Some : goal.returns-in-Some
returns-in-Some c = record {
  law =
      made_value count_code CounterMoves (ledger c.args.self.now.counts) (ledger c.ask.new.self) (ledger c.make.new.self) (make c.args.f c.args.args.now) c.in-Some.first c.make.result
      c.if-not-ask.ensures.asked c.make.ensures.made (λ r y m. subst (λ o. MakesValue (ledger c.ask.new.self).table o r y) c.in-Some.ensures.exact m) (sound_of count_code c.make.new.self);
}

pub returns-in-None : goal.returns-in-None
returns-in-None c = record {
  law =
      made_fault count_code CounterMoves (ledger c.args.self.now.counts) (ledger c.ask.new.self) (make c.args.f c.args.args.now) 1
      c.if-not-ask.ensures.asked (subst (λ o. MakesValue (ledger c.ask.new.self).table o (Making (MadeFault 1)) (ledger c.ask.new.self).table) c.in-None.ensures.exact (refl, refl)) (sound_of count_code c.ask.new.self);
}
