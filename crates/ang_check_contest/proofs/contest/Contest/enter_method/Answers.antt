use Rattle.std.proofs.Common.{rules, ◌≡◌, [], ◌∷◌, OnOk, ap, subst, ◌∙◌}
use Rattle.ang_kinds.specs.declared.types.Pass.TheVariants.{RefInOut}
use Rattle.ang_names_known.specs.Lookup.{parameters_of}
use Rattle.ang_check_contest.specs.Contest.{entered, entered_with, ranks_of}
use Rattle.ang_check_contest.specs.Scores.{in_front, ranks_if, standing}
use Rattle.ang_check_contest.proofs.RankLaws.{none_in_front}
use Rattle.ang_check_contest.proofs.contest.Contest.enter_method.Goals as goal

pub returns : goal.returns
unfolding entered
returns c =
    let ranks = ranks_of c.args.lineage.now ((c.args.receiver, RefInOut) ∷ parameters_of c.args.function.now) c.args.args.now in
    let viable = c.in_ok-is_viable.is_viable in
    let lent : c.as_slice.result.now ≡ c.rank_method.new.ranks.items = search rules in
    let cleared : c.clear.new.self.items ≡ [] = search rules in
    let before : standing c.self.inside.score ≡ c.args.self.now = search rules in
    let ranked : ranks_if viable c.as_slice.result.now ≡ ranks =
    ap (ranks_if viable) lent ∙ c.in_ok-is_viable.ensures.ranked ∙ ap (λ xs. in_front xs ranks) cleared ∙ none_in_front ranks in
    record { entered = subst (λ s. OnOk c.enter.result (standing c.enter.new.self ≡ s)) (λ i. entered_with (before i) c.args.contender (ranked i)) c.enter.ensures.entered }
