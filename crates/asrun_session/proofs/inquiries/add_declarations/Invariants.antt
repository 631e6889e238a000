use Rattle.asrun_session.specs.Inquiries.{declared_line}
use Rattle.asrun_session.specs.Pieces.{AddsLines}
use Rattle.asrun_session.proofs.inquiries.add_declarations.Given as goal

abbrev pub invariant-loop-number : goal.invariant-loop-number
invariant-loop-number g l =
    AddsLines declared_line (g.W.Write.contents l.initial.writer) (g.W.Write.contents l.writer) l.initial.text.items l.text.items
