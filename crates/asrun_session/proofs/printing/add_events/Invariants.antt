use Rattle.std.proofs.Common.{◌++◌, take, flat_map}
use Rattle.asrun_text.specs.Text.{event_text}
use Rattle.asrun_session.specs.Pieces.{Holds}
use Rattle.asrun_session.proofs.printing.add_events.Given as goal

abbrev pub invariant-loop-index : goal.invariant-loop-index
invariant-loop-index g l =
    Holds (g.W.Write.contents l.initial.writer) (g.W.Write.contents l.writer) l.text.items
    (l.initial.text.items ++ flat_map event_text (take l.index l.events))
