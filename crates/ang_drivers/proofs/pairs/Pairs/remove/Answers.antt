use Rattle.std.proofs.Common.{rules}
use Rattle.std.specs.Int.{w64}
use Rattle.std.specs.Int.RustNames.{FitsSigned}
use Rattle.std.proofs.lemmas.Int.{to_z-of_z}
use Rattle.ang_drivers.proofs.Pairing.{known, unknown, gone, none_gone}
use Rattle.ang_drivers.proofs.pairs.Pairs.remove.Goals as goal

pub returns-in-Ok : goal.returns-in-Ok
returns-in-Ok c =
    let fits : FitsSigned w64 c.args.key = search rules in
    let same = to_z-of_z w64 c.args.key fits in
    record { exact = known c.args.self.now c.args.key _ _ same c.in-Ok.ensures.found; removed = gone c.args.self.now _ c.args.key _ same c.take_out.ensures.removed }

pub returns-in-Err : goal.returns-in-Err
returns-in-Err c =
    let fits : FitsSigned w64 c.args.key = search rules in
    let same = to_z-of_z w64 c.args.key fits in
    record {
      exact = unknown c.args.self.now c.args.key _ _ same c.in-Err.ensures.rises c.in-Err.ensures.absent;
      removed = none_gone c.args.self.now c.args.key _ _ same c.in-Err.ensures.rises c.in-Err.ensures.absent;
    }
