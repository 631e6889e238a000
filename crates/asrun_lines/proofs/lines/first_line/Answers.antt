use Rattle.std.proofs.Common.{rules, sym}
use Rattle.asrun_lines.proofs.FirstLines.{lines_of-nil, line_at_place, line_without_place}
use Rattle.asrun_lines.proofs.lines.first_line.Goals as goal
use Rattle.asrun_lines.proofs.lines.first_line.Goals.{in-Some, in-None}

pub returns-then-is_empty-clause-none : goal.returns-then-is_empty-clause-none
returns-then-is_empty-clause-none c = lines_of-nil c.args.text.now (search rules)

pub returns-clause-some : goal.returns-clause-some
returns-clause-some c = rw (c.split_at.ensures.front, c.split_at.ensures.back) (elim c.match-place_of.branch [
  | in-Some w ↦ rw w.end-is (line_at_place c.args.text.now w.in-Some.at (sym w.in-Some.ensures.exact))
  | in-None w ↦ rw w.end-is (line_without_place c.args.text.now (sym w.in-None.ensures.exact) (search rules))
])
