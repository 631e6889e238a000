use Rattle.std.proofs.Common.{◌≡◌, ◌==◌, drop}
use Rattle.ang_names_known.specs.declared.names.ScriptMethod.{ScriptMethod}
use Rattle.ang_names.specs.Rows.{first_at}
use Rattle.ang_names.proofs.heirs.first_at.Given as goal

abbrev pub invariant-loop-place : goal.invariant-loop-place
invariant-loop-place l =
    first_at (λ (m : ScriptMethod). m.slot == l.slot) l.methods l.row ≡ first_at (λ (m : ScriptMethod). m.slot == l.slot) l.methods (drop l.place-index l.row)
