use Rattle.std.proofs.Common.{subst, arith, ◌∙◌}
use Rattle.std.proofs.lemmas.Slice.{between_to_end}
use Rattle.ang_remote.specs.Wires.{IsWritten}
use Rattle.ang_remote.proofs.exchange.write_short.Goals as goal

pub returns : goal.returns
returns g c =
    let line = c.write_line-at.new.line in
    record {
      written =
          subst
          (λ t. IsWritten (g.W.Write.contents c.args.writer.now) (g.W.Write.contents c.write_text.new.writer) t c.write_text.result)
          (between_to_end line c.write_line-at.result _ (omega arith) ∙ c.write_line-at.ensures.written)
          c.write_text.ensures.written;
    }
