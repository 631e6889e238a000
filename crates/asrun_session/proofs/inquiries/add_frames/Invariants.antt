use Rattle.asrun_text.specs.Trace.{trace_line_text}
use Rattle.asrun_session.specs.Pieces.{AddsLines}
use Rattle.asrun_session.proofs.inquiries.add_frames.Given as goal

abbrev pub invariant-loop-depth : goal.invariant-loop-depth
invariant-loop-depth g l =
    AddsLines trace_line_text (g.W.Write.contents l.initial.writer) (g.W.Write.contents l.writer) l.initial.text.items l.text.items
