use Rattle.std.proofs.Common.{length}
use Rattle.ang_engine.specs.Sound.{IsSound}
use Rattle.asrun_session.proofs.tracing.run_lines.Given as goal

abbrev pub invariant-loop-line : goal.invariant-loop-line
invariant-loop-line g l = record { sound : IsSound (λ v. (g.dyn-1.0.entry v).1) l.engine }

abbrev pub decreases-loop-line : goal.decreases-loop-line
decreases-loop-line g l = length l.rest
