use Rattle.std.proofs.Common.{◌≡◌, ◌++◌, ℕ, drop}
use Rattle.ang_names_known.specs.Kinds.{kinds_of, numbered, told_of}
use Rattle.ang_check_added.specs.Made.{params_made}
use Rattle.ang_check_added.proofs.numbered.number_kinds.Given as goal

abbrev pub invariant-loop-candidate : goal.invariant-loop-candidate
invariant-loop-candidate l =
    (t : ℕ) → kinds_of (numbered t l.table) l.rows ++ told_of (params_made (drop l.candidate-index l.all)) ≡ told_of (params_made l.all)
