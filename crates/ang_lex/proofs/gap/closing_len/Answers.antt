use Rattle.std.proofs.Common.{sym, ◌∙◌, arith}
use Rattle.std.proofs.lemmas.List.{take_rest}
use Rattle.ang_lex.proofs.Shifted.{closing_later}
use Rattle.ang_lex.proofs.gap.closing_len.Goals as goal

pub loop-i-preserved : goal.loop-i-preserved
loop-i-preserved c =
    let tested = rw (take_rest c.args.rest.now c.loop-i.i) at (sym c.starts_with.ensures.value ∙ c.if-starts_with.false) in
    sym (closing_later c.loop-i.i c.args.rest.now (omega arith) tested) ∙ c.loop-i.invariant
