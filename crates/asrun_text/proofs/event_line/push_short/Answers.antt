use Rattle.std.proofs.Common.{◌++◌, drop, arith, ◌∙◌, codes, decimal}
use Rattle.std.proofs.lemmas.Slice.{between_to_end}
use Rattle.asrun_lines.specs.Texts.{object_text}
use Rattle.asrun_text.specs.Text.{values_text}
use Rattle.asrun_text.proofs.Parts.{front_written, on_ok_items}
use Rattle.asrun_text.proofs.event_line.push_short.Goals as goal

pub returns : goal.returns
returns c =
    let line = c.write_caller-at.new.line in
    let at = c.write_caller-at.result in
    let asked = codes " " ++ decimal c.args.entity ++ codes " " ++ decimal c.args.driver ++ codes " " ++ object_text c.args.object ++ codes " (" in
    let whole = front_written (codes "host ") c.args.caller.now asked (values_text c.args.args.now) (drop c.args.at c.args.line.now) _ _ (drop at line)
    c.write_values-at.ensures.written c.write_asked-at.ensures.written c.write_caller-at.ensures.written in
    record {
      added = on_ok_items c.extend_from_slice.result _ _ _ _ c.extend_from_slice.ensures.items (between_to_end line at _ (omega arith) ∙ whole);
    }
