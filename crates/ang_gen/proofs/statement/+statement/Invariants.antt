use Rattle.std.proofs.Common.{◌≡◌, ◌+◌, ◌-◌, ◌++◌, length}
use Rattle.std.specs.Prelude.{map, reverse}
use Rattle.ang_gen.specs.Rows.{statements_code, declared_in}
use Rattle.ang_gen.proofs.statement.+statement.Given as goal

abbrev pub invariant-write_row-loop-s : goal.invariant-write_row-loop-s
invariant-write_row-loop-s l =
    (l.text ≡ statements_code l.exits.params l.here l.exits.alive (length l.initial.text - l.exits.exit) (length l.initial.text - l.exits.again) (reverse (map (λ y. y.now) l.yielded)) ++ l.initial.text)
    × (l.here + declared_in (reverse (map (λ y. y.now) l.yielded)) ≡ declared_in l.row + l.locals)
