use Rattle.std.proofs.Common.{arith, ◌∙◌}
use Rattle.std.proofs.lemmas.Slice.{between_to_end}
use Rattle.ang_remote.proofs.Texts.{if_ok_same}
use Rattle.ang_remote.proofs.asks.short_line.Goals as goal

pub returns : goal.returns
returns c =
    let line = c.write_line-at.new.line in
    let at = c.write_line-at.result in
    record {
      exact = if_ok_same c.copied.result (λ r. r.items) _ _ c.copied.ensures.exact (between_to_end line at _ (omega arith) ∙ c.write_line-at.ensures.written);
    }
