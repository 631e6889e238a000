use Rattle.ang_engine_modules.proofs.Standing.{built_first, failed_else, loaded_stands}
use Rattle.ang_engine_modules.proofs.modules.Modules.trace_frame.Goals as goal

pub returns-in-Some-clause-stands : goal.returns-in-Some-clause-stands
returns-in-Some-clause-stands c = λ l there.
    let x = c.self.inside in
    loaded_stands x.table x.loaded.items c.args.self.now c.args.body c.args.at c.marks_at.result.now c.trace_frame.result c.self.invariant c.self.view_is
    c.marks_at.ensures.exact c.trace_frame.ensures.placed l
    (built_first c.args.self.now c.args.failed.now c.args.body.home c.in-Some.loaded.now l c.in-Some.ensures.exact there)
