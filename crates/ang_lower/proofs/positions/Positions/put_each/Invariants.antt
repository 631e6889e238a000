use Rattle.std.proofs.Common.{◌≡◌, ◌++◌, replicate}
use Rattle.ang_lower.proofs.positions.Positions.put_each.Given as goal

abbrev pub invariant-loop : goal.invariant-loop
invariant-loop l = record {
  so_far : l.self.found.items ≡ l.initial.self.found.items ++ replicate l.counter l.position;
  left : l.self.left.now ≡ l.initial.self.left.now;
}
