use Rattle.std.proofs.Common.{◌≡◌, ◌++◌, ℕ, drop, map as list_map}
use Rattle.ang_names_known.specs.Kinds.{kinds_of, numbered, told_of}
use Rattle.ang_check_contest.specs.EntryKinds.{entry_params, view_params}
use Rattle.ang_check_contest.proofs.known_view.KnownView.new.Given as goal

abbrev pub invariant-loop-entry : goal.invariant-loop-entry
invariant-loop-entry l =
    (t : ℕ) → kinds_of (numbered t l.table) l.rows ++ told_of (list_map (entry_params l.view t) (drop l.entry-index l.entries)) ≡ told_of (view_params l.view t)
