use Rattle.std.proofs.Common.{◌≡◌, length, map}
use Rattle.ang_lex.specs.Words.{lookup}
use Rattle.ang_lex.proofs.scan.lookup.Given as goal

abbrev pub invariant-loop-entries : goal.invariant-loop-entries
invariant-loop-entries l = lookup (map (λ e. (e.0.now, e.1)) l.entries) l.text l.other ≡ lookup (map (λ e. (e.0.now, e.1)) l.initial.entries) l.text l.other

abbrev pub decreases-loop-entries : goal.decreases-loop-entries
decreases-loop-entries l = length l.entries
