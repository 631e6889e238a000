use Rattle.std.proofs.Common.{drop, arith, ◌∙◌}
use Rattle.std.proofs.lemmas.Slice.{between_to_end}
use Rattle.asrun_text.proofs.Parts.{call_written}
use Rattle.asrun_text.proofs.event_line.push_call.Goals as goal

pub returns-then-is_short : goal.returns-then-is_short
returns-then-is_short c =
    let a = c.args in
    let line = c.write_answered-at.new.line in
    record {
      added = call_written c.push_short.result _ _ a.caller.now a.entity a.driver a.object a.args.now a.reply
          (drop c.write_answered-at.result line) c.push_short.ensures.added c.write_answered-at.ensures.written;
    }

pub returns : goal.returns
returns c =
    let a = c.args in
    let line = c.write_answered-at.new.line in
    record {
      added = call_written c.push_long.result _ _ a.caller.now a.entity a.driver a.object a.args.now a.reply
          _ c.push_long.ensures.added (between_to_end line c.write_answered-at.result _ (omega arith) ∙ c.write_answered-at.ensures.written);
    }
