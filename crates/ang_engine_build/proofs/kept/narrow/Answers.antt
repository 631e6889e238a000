use Rattle.ang_typed.specs.View.{view_typed}
use Rattle.ang_engine_build.proofs.Narrowing.{kept_so}
use Rattle.ang_engine_build.proofs.kept.narrow.Goals as goal

pub returns : goal.returns
returns c = record { exact = kept_so c.kept_by.result c.args.view.now (view_typed c.args.module.now) c.in_ok-marks.marks.items c.in_ok-marks.ensures.exact c.kept_by.ensures.exact }
