use Rattle.std.proofs.Common.{◌≡◌, ◌+◌, length, map}
use Rattle.ang_types.specs.Marks.{AreMarked}
use Rattle.ang_types.proofs.lineage.marks_from.Given as goal

abbrev pub invariant-loop-number : goal.invariant-loop-number
invariant-loop-number l =
    record {
      size : l.first + length l.all.items ≡ l.number;
      marked : AreMarked l.first l.all.items (map (λ v. v.items) l.above);
    }
