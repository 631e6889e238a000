use Rattle.ang_engine.specs.Sound.{IsSound}
use Rattle.tests_session.proofs.hidden.apply_all.Given as goal

abbrev pub invariant-loop-row : goal.invariant-loop-row
invariant-loop-row g l = record { sound : IsSound (λ v. (g.dyn-1.0.entry v).1) l.engine }
