use Rattle.std.proofs.Common.{◌≡◌, ◌≤◌, ◌++◌, take, drop}
use Rattle.ang_parse_read.specs.Group.{split}
use Rattle.ang_parse.proofs.group.group_len.Given as goal

abbrev pub invariant-loop-i : goal.invariant-loop-i
invariant-loop-i l = record {
  few : l.depth ≤ l.i;
  ends : split l.tokens 0 ≡ (take l.i l.tokens ++ (split (drop l.i l.tokens) l.depth).0, (split (drop l.i l.tokens) l.depth).1);
}
