use Rattle.ang_engine.proofs.Traced.{trace_placed}
use Rattle.ang_engine.proofs.engine.Engine.trace.Goals as goal

pub returns-clause-past : goal.returns-clause-past
returns-clause-past g c = c.trace_at.ensures.past

pub returns-clause-named : goal.returns-clause-named
returns-clause-named g c = c.trace_at.ensures.named

pub returns-clause-placed : goal.returns-clause-placed
returns-clause-placed g c = λ frame l sight sections there loaded built.
    trace_placed sight sections l built frame.of.number c.trace_at.result (c.trace_at.ensures.named frame l there loaded) (c.trace_at.ensures.stands frame l there loaded)

pub returns-clause-section : goal.returns-clause-section
returns-clause-section g c = c.trace_at.ensures.section
