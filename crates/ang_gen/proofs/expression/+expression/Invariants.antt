use Rattle.std.proofs.Common.{◌≡◌, ◌+◌, ◌++◌, length}
use Rattle.std.specs.Prelude.{map, reverse}
use Rattle.ang_gen.specs.Rows.{list_code}
use Rattle.ang_gen.proofs.expression.+expression.Given as goal

abbrev pub invariant-write_operands-loop-e : goal.invariant-write_operands-loop-e
invariant-write_operands-loop-e l =
    (l.text ≡ list_code l.next (reverse (map (λ y. y.now) l.yielded)) ++ l.initial.text) × (l.next + length l.yielded ≡ l.above + length l.operands)
