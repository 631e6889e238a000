use Rattle.ang_engine.specs.Sound.{IsSound}
use Rattle.ang_alike.proofs.in_turn.apply_each.Given as goal

abbrev pub invariant-loop-command : goal.invariant-loop-command
invariant-loop-command g l = record { sound : IsSound (λ v. (g.dyn-1.0.entry v).1) l.engine }
