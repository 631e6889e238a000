use Rattle.std.proofs.Common.{sym, subst, []}
use Rattle.ang_drivers.specs.Objects.{MakesOne}
use Rattle.ang_drivers.specs.IntMap.{map_code}
use Rattle.ang_drivers.specs.ObjectsLedger.{ledger}
use Rattle.ang_drivers.proofs.Moving.{sound_of}
use Rattle.ang_drivers.proofs.MapLaws.{makes_map, makes_nothing}
use Rattle.ang_drivers.proofs.int_map.IntMapDriver.make.Goals as goal

pub returns-then-is_bare_making : goal.returns-then-is_bare_making
returns-then-is_bare_making c =
    let t = ledger c.ask.new.self in
    let u = ledger c.make.new.self in
    let made : MakesOne t [] c.make.result u = subst (λ v. MakesOne t v c.make.result u) c.new.ensures.empty c.make.ensures.made in
    record {
      law =
          makes_map c.args.self.now.bound (ledger c.args.self.now.maps) (ledger c.ask.new.self) c.if-not-ask.ensures.asked (ledger c.make.new.self) c.args.f
          c.args.args.now c.make.result (sym c.if-is_bare_making.ensures.exact) made (sound_of map_code c.make.new.self);
    }

pub returns-else-is_bare_making : goal.returns-else-is_bare_making
returns-else-is_bare_making c = record {
  law =
      makes_nothing c.args.self.now.bound (ledger c.args.self.now.maps) (ledger c.ask.new.self) c.if-not-ask.ensures.asked c.args.f c.args.args.now
      (sym c.if-is_bare_making.ensures.exact) (sound_of map_code c.ask.new.self);
}
