use Rattle.std.proofs.Common.{◌≡◌, ◌+◌, ◌≤◌, drop}
use Rattle.ang_gen.specs.Rows.{declared_in}
use Rattle.ang_gen.proofs.statement.declared_by_all.Given as goal

abbrev pub invariant-loop-s : goal.invariant-loop-s
invariant-loop-s l = (l.count + declared_in (drop l.s-index l.statements) ≡ declared_in l.statements) × (l.count ≤ l.s-index)
