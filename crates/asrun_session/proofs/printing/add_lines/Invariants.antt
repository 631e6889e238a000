use Rattle.std.proofs.Common.{◌++◌, take, flat_map}
use Rattle.asrun_session.specs.Pieces.{Holds}
use Rattle.asrun_session.proofs.printing.add_lines.Given as goal

abbrev pub invariant-loop-line : goal.invariant-loop-line
invariant-loop-line g l =
    Holds (g.W.Write.contents l.initial.writer) (g.W.Write.contents l.writer) l.text.items
    (l.initial.text.items ++ flat_map g.L.Line.line (take l.line-index l.lines))
