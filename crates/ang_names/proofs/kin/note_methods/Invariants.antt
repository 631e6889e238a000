use Rattle.std.proofs.Common.{◌≡◌, ◌<◌, ℕ, drop, length}
use Rattle.ang_names.proofs.Nearest.{after_methods}
use Rattle.ang_names.proofs.kin.note_methods.Given as goal

abbrev pub invariant-loop-method : goal.invariant-loop-method
invariant-loop-method l =
    (length l.nearest ≡ length l.initial.nearest)
    × ((s : ℕ) → s < length l.initial.nearest
    → after_methods l.initial.nearest l.number l.methods s ≡ after_methods l.nearest l.number (drop l.method-index l.methods) s)
