use Rattle.std.proofs.Common.{◌≡◌, subst, ap, ◌∙◌}
use Rattle.ang_check_contest.specs.Contest.{ranks_of}
use Rattle.ang_check_contest.specs.Scores.{in_front, ranks_if}
use Rattle.ang_check_contest.specs.Told.{ranks_at, rows_of}
use Rattle.ang_check_contest.proofs.ToldLaws.{ranks_told}
use Rattle.ang_check_contest.proofs.told.ToldRanks.rank.Goals as goal

pub returns : goal.returns
returns c =
    let told = c.args.self.now in
    let numbers = c.args.numbers.now in
    record {
      ranked = λ params are.
          let these : ranks_at (rows_of c.rows.result.now) numbers ≡ ranks_of told.ancestors params told.args =
          ap (λ rows. ranks_at rows numbers) c.rows.ensures.exact ∙ ranks_told told.ancestors told.kinds told.args numbers params are in
          subst (λ o. ranks_if c.in_ok-all.all c.rank_told.new.ranks.items ≡ in_front c.args.ranks.now.items o) these c.in_ok-all.ensures.ranked;
    }
