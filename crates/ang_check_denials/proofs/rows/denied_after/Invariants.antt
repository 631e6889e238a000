use Rattle.std.proofs.Common.{◌≡◌, ◌++◌, drop}
use Rattle.std.specs.List.{flat_map}
use Rattle.ang_check_denials.specs.Denials.{numbers_asked, rows_for}
use Rattle.ang_check_denials.proofs.rows.denied_after.Given as goal

-- what was pushed, in front of the rows of what is left, is all; and the numbers are those of the last use
abbrev pub invariant-loop-one : goal.invariant-loop-one
invariant-loop-one l =
    record {
      pushed : flat_map (rows_for l.masked.list l.masked.mask l.scope) l.refused
          ≡ l.rows.items ++ flat_map (rows_for l.masked.list l.masked.mask l.scope) (drop l.one-index l.refused);
      numbers : l.numbers.items ≡ numbers_asked l.masked.list l.masked.mask l.scope l.last l.last.asks;
    }
