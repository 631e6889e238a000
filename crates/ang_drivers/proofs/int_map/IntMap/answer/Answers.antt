use Rattle.std.proofs.Common.{refl}
use Rattle.ang_drivers.specs.ObjectsLedger.{ledger}
use Rattle.ang_drivers.proofs.Moving.{held_revalued, revalued_twice}
use Rattle.ang_drivers.proofs.int_map.IntMap.answer.Goals as goal

pub set_value-requires : goal.set_value-requires
set_value-requires c = record {
  held = held_revalued (ledger c.args.self.now.maps) (ledger c.replace_value-map.new.self) c.args.key c.new.result c.replace_value-map.ensures.revalued c.requires.held;
}

pub returns : goal.returns
returns c = record {
  bound = refl;
  changes = (
    c.replace_value-map.result,
    c.answer-answer.new.self,
    c.replace_value-map.ensures.exact,
    c.answer-answer.ensures.does,
    revalued_twice (ledger c.args.self.now.maps) (ledger c.replace_value-map.new.self) (ledger c.set_value.new.self) c.args.key c.new.result c.answer-answer.new.self
        c.replace_value-map.ensures.revalued c.set_value.ensures.revalued,
  );
}
