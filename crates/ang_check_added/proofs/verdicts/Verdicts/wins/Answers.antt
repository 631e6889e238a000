use Rattle.std.proofs.Common.{ap, ◌∙◌}
use Rattle.ang_check_added.specs.Verdicts.{verdicts_in, wins_by}
use Rattle.ang_check_added.proofs.verdicts.Verdicts.wins.Goals as goal

pub returns : goal.returns
returns c =
    record {
      exact = c.wins_by_rows.ensures.exact ∙ ap (λ rows. wins_by (verdicts_in rows) c.args.numbers.now c.args.self.now.ahead) c.as_slice.ensures.value;
    }
