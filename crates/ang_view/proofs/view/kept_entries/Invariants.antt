use Rattle.std.proofs.Common.{◌≡◌, ◌++◌, drop, false}
use Rattle.std.specs.Prelude.{slice_index_or}
use Rattle.ang_view.specs.Hidden.{shown_from}
use Rattle.ang_view.specs.Only.{kept_entry}
use Rattle.ang_view.proofs.view.kept_entries.Given as goal

abbrev pub invariant-loop-number : goal.invariant-loop-number
invariant-loop-number l =
    l.kept.items ++ shown_from (kept_entry (λ n. slice_index_or l.marks n false)) l.number (drop l.number l.entries)
    ≡ shown_from (kept_entry (λ n. slice_index_or l.marks n false)) 0 l.entries
