use Rattle.std.proofs.Common.{◌≡◌, length, map}
use Rattle.ang_lex.specs.Words.{is_listed}
use Rattle.ang_lex.proofs.names.is_listed.Given as goal

abbrev pub invariant-loop-entries : goal.invariant-loop-entries
invariant-loop-entries l = is_listed (map (λ e. (e.0.now, e.1)) l.entries) l.text ≡ is_listed (map (λ e. (e.0.now, e.1)) l.initial.entries) l.text

abbrev pub decreases-loop-entries : goal.decreases-loop-entries
decreases-loop-entries l = length l.entries
