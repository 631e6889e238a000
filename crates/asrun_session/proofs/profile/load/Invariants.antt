use Rattle.std.proofs.Common.{◌≡◌, ◌+◌, ◌≤◌, length}
use Rattle.asrun_lines.specs.Lines.{lines_of}
use Rattle.asrun_session.specs.Limits.{limits_of}
use Rattle.asrun_session.specs.Profile.{loaded}
use Rattle.asrun_session.proofs.profile.load.Given as goal

abbrev pub invariant-loop-line : goal.invariant-loop-line
invariant-loop-line l =
    (l.number + length l.rest ≤ length l.text + 1)
    × (loaded l.number l.profile.registry (lines_of l.rest) ≡ loaded 1 l.initial.profile.registry (lines_of l.text))
    × (limits_of l.profile.limits (lines_of l.rest) ≡ limits_of l.initial.profile.limits (lines_of l.text))

abbrev pub decreases-loop-line : goal.decreases-loop-line
decreases-loop-line l = length l.rest
