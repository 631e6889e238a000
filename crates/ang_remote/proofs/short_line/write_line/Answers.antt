use Rattle.ang_remote.proofs.Texts.{line_written}
use Rattle.ang_remote.proofs.short_line.write_line.Goals as goal

pub returns-clause-written : goal.returns-clause-written
returns-clause-written c =
    let a = c.args in
    line_written a.posted a.driver a.kind a.f a.object a.values.now c.from.result _ _ _ _ c.write_last-at.ensures.written c.write_asked-at.ensures.written
    c.from.ensures c.write_number-at.ensures.written c.write_word.ensures.written
