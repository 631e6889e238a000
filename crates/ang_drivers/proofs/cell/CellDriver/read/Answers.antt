use Rattle.std.proofs.Common.{refl}
use Rattle.ang_host.specs.State.{read}
use Rattle.ang_host.specs.declared.answer.Answer.TheVariants.{Fault}
use Rattle.ang_drivers.specs.Cell.{value_code, CellMoves}
use Rattle.ang_drivers.specs.ObjectsLedger.{ledger}
use Rattle.ang_drivers.proofs.Moving.{answered, kept, sound_of}
use Rattle.ang_drivers.proofs.cell.CellDriver.read.Goals as goal

pub returns : goal.returns
returns c =
    let t = ledger c.ask.new.self in
    record {
      law =
          answered value_code CellMoves (ledger c.args.self.now.cells) t t (read c.args._f c.args._object) (Fault 1) c.if-not-ask.ensures.asked (kept t) tt (refl, refl) tt
          (sound_of value_code c.ask.new.self);
    }
