use Rattle.std.proofs.Common.{◌≡◌, length, map}
use Rattle.ang_lex.specs.Fronts.{first_of_entries, entry_token}
use Rattle.ang_lex.proofs.scan.first_of_entries.Given as goal

abbrev pub invariant-loop-entries : goal.invariant-loop-entries
invariant-loop-entries l =
    entry_token (first_of_entries (map (λ e. (e.0.now, e.1)) l.entries) l.rest) ≡ entry_token (first_of_entries (map (λ e. (e.0.now, e.1)) l.initial.entries) l.rest)

abbrev pub decreases-loop-entries : goal.decreases-loop-entries
decreases-loop-entries l = length l.entries
