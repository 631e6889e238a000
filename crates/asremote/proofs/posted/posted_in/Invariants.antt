use Rattle.std.proofs.Common.{◌≡◌, ◌++◌, length}
use Rattle.asrun_lines.specs.Lines.{lines_of}
use Rattle.asremote.specs.Posted.{posted_in}
use Rattle.asremote.proofs.posted.posted_in.Given as goal

abbrev pub invariant-loop-line : goal.invariant-loop-line
invariant-loop-line l = l.posted.items ++ posted_in (lines_of l.rest) ≡ posted_in (lines_of l.text)

abbrev pub decreases-loop-line : goal.decreases-loop-line
decreases-loop-line l = length l.rest
