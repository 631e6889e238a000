use Rattle.std.proofs.Common.{◌++◌, take, flat_map}
use Rattle.asrun_text.specs.Text.{denial_text}
use Rattle.asrun_session.specs.Pieces.{Holds}
use Rattle.asrun_session.proofs.printing.add_denials_after.Given as goal

abbrev pub invariant-loop-denial : goal.invariant-loop-denial
invariant-loop-denial g l =
    Holds (g.W.Write.contents l.initial.writer) (g.W.Write.contents l.writer) l.text.items
    (l.initial.text.items ++ flat_map denial_text (take l.denial-index l.denials))
