use Rattle.std.proofs.Common.{◌++◌, ap, ◌∙◌, arith, codes}
use Rattle.std.proofs.lemmas.List.{drop_all}
use Rattle.ang_remote.specs.Asks.{values_text}
use Rattle.ang_remote.proofs.short_line.write_last.Goals as goal

pub returns-clause-written : goal.returns-clause-written
returns-clause-written c =
    c.write_values.ensures.written
    ∙ ap (λ l. values_text c.args.values.now ++ l)
    (c.write_bytes-at.ensures.written ∙ ap (λ l. codes ")\n" ++ l) (drop_all 144 c.args.line.now (omega (arith, c.requires.long))))
