use Rattle.std.proofs.Common.{rules, ◌≡◌, [], ap, ◌∙◌}
use Rattle.ang_check_contest.specs.Contest.{entered, entered_with, ranks_of}
use Rattle.ang_check_contest.specs.Scores.{in_front, ranks_if, standing}
use Rattle.ang_check_contest.proofs.RankLaws.{none_in_front}
use Rattle.ang_check_contest.proofs.contest.Contest.enter_told.Goals as goal

pub returns : goal.returns
unfolding entered
returns c =
    let told = c.args.told.now in
    let viable = c.in_ok-is_viable.is_viable in
    let lent : c.as_slice.result.now ≡ c.rank.new.ranks.items = search rules in
    let cleared : c.clear.new.self.items ≡ [] = search rules in
    let before : standing c.self.inside.score ≡ c.args.self.now = search rules in
    record {
      entered = λ params are.
          let ranks = ranks_of told.ancestors params told.args in
          let ranked : ranks_if viable c.as_slice.result.now ≡ ranks =
          ap (ranks_if viable) lent ∙ (c.in_ok-is_viable.ensures.ranked params are ∙ (ap (λ xs. in_front xs ranks) cleared ∙ none_in_front ranks)) in
          c.in_ok-enter.ensures.entered ∙ (λ i. entered_with (before i) c.args.contender (ranked i));
    }
