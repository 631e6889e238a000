use Rattle.std.proofs.Common.{◌≡◌, ◌<◌, ℕ, drop, length}
use Rattle.ang_names.proofs.Nearest.{after_families}
use Rattle.ang_names.proofs.kin.note_families.Given as goal

abbrev pub invariant-loop-number : goal.invariant-loop-number
invariant-loop-number l =
    (length l.nearest ≡ length l.initial.nearest)
    × ((s : ℕ) → s < length l.initial.nearest
    → after_families l.families l.initial.nearest l.order s ≡ after_families l.families l.nearest (drop l.number-index l.order) s)
