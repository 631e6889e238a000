use Rattle.ang_engine.proofs.engine.Engine.trace_len.Goals as goal

pub returns : goal.returns
returns g c = record { exact = c.frame_count.ensures.exact }
