use Rattle.ang_remote.proofs.Reading.{heard_answer_from}
use Rattle.ang_remote.proofs.exchange.read_answer.Goals as goal

pub returns : goal.returns
returns g c = record {
  answered =
      rw (c.heard_as.ensures.exact, c.deref.ensures.value)
      (heard_answer_from c.new-line.result.items c.read_line-heard.new.text.items _ _ c.read_line-heard.result c.new-line.ensures.items c.read_line-heard.ensures.heard);
}
