use Rattle.std.proofs.Common.{◌∙◌, ap}
use Rattle.std.specs.Prelude.{slice_get}
use Rattle.ang_engine_modules.specs.Traced.{marks_in}
use Rattle.ang_engine_modules.proofs.Standing.{failed_stands}
use Rattle.ang_engine_modules.proofs.failed.KeptFailure.frame.Goals as goal

pub returns-clause-stands : goal.returns-clause-stands
returns-clause-stands c = λ l there.
    let x = c.self.inside in
    failed_stands x.module c.args.self.now x.code c.args.body.home c.args.body.number c.args.at c.marks_in-marks.result.now c.trace_frame.result c.self.invariant c.self.view_is
    (c.marks_in-marks.ensures.exact ∙ ap (λ bodies. marks_in (slice_get bodies c.args.body.number)) c.as_slice.ensures.value) c.trace_frame.ensures.placed l there
