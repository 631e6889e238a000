use Rattle.std.proofs.Common.{◌≡◌, ◌<◌, ◌≤◌, ◌+◌, ◌++◌, ◌∷◌, ℕ, [], List, Some, None, drop, length, map as list_map, arith, refl, sym, ap, ◌∙◌}
use Rattle.std.proofs.lemmas.List.{append-nil, drop_all}
use Rattle.ang_types.specs.declared.arg_type.ArgType.{ArgType}
use Rattle.ang_types.specs.Ranks.{Ancestors, argument_rank}
use Rattle.ang_names_known.specs.declared.names.ScriptParameter.{ScriptParameter}
use Rattle.ang_names_known.specs.Lookup.{type_and_pass}
use Rattle.ang_names_known.proofs.KeptNumbers.{left_here}
use Rattle.ang_check_contest.specs.Contest.{ranks_of, with_rank}
use Rattle.ang_check_contest.specs.Scores.{in_front}
use Rattle.ang_check_contest.proofs.RankLaws.{no_ranks, one_more_rank}
use Rattle.ang_check_contest.proofs.ranking.rank_written.Goals as goal

-- no rank is left where there is no argument for the parameter
no_argument : (l : Ancestors) (ranks : List ℕ) (p : ScriptParameter) (ps : List ScriptParameter) (args : List ArgType) → length args ≡ 0
    → in_front ranks (ranks_of l (list_map type_and_pass (p ∷ ps)) args) ≡ None
no_argument l ranks p ps [] none = refl
no_argument l ranks p ps (a ∷ args) none = absurd (omega (arith, none))

no_rank : (l : Ancestors) (ranks : List ℕ) (p : ScriptParameter) (ps : List ScriptParameter) (a : ArgType) (args : List ArgType) → None ≡ argument_rank l p.written.ty p.pass a
    → in_front ranks (ranks_of l (list_map type_and_pass (p ∷ ps)) (a ∷ args)) ≡ None
no_rank l ranks p ps a args none = ap (λ o. in_front ranks (with_rank o (ranks_of l (list_map type_and_pass ps) args))) (sym none)

one_more : (l : Ancestors) (ranks : List ℕ) (p : ScriptParameter) (ps : List ScriptParameter) (a : ArgType) (r : ℕ) (args : List ArgType)
    → Some r ≡ argument_rank l p.written.ty p.pass a
    → in_front ranks (ranks_of l (list_map type_and_pass (p ∷ ps)) (a ∷ args)) ≡ in_front (ranks ++ r ∷ []) (ranks_of l (list_map type_and_pass ps) args)
one_more l ranks p ps a r args is =
    ap (λ o. in_front ranks (with_rank o (ranks_of l (list_map type_and_pass ps) args))) (sym is) ∙ one_more_rank ranks r (ranks_of l (list_map type_and_pass ps) args)

all_ranked : (l : Ancestors) (ranks : List ℕ) (args : List ArgType) → length args < 1 → in_front ranks (ranks_of l [] args) ≡ Some ranks
all_ranked l ranks [] few = ap Some (append-nil ranks)
all_ranked l ranks (a ∷ args) few = absurd (omega (arith, few))

too_many : (l : Ancestors) (ranks : List ℕ) (args : List ArgType) → 1 ≤ length args → in_front ranks (ranks_of l [] args) ≡ None
too_many l ranks [] many = absurd (omega (arith, many))
too_many l ranks (a ∷ args) many = refl

pub returns-then-params-args : goal.returns-then-params-args
returns-then-params-args c =
    record { ranked = sym (ap (in_front c.args.ranks.now.items) (no_ranks c.args.lineage.now c.args.params.now c.args.args.now c.if-params-args.true)) }

pub loop-param-preserved : goal.loop-param-preserved
loop-param-preserved c =
    let l = c.loop-param in
    let all = c.args.lineage.now in
    let params : List ScriptParameter = c.args.params.now in
    let p : ScriptParameter = c.param-item.result in
    let left : List ScriptParameter = drop (l.param-index + 1) params in
    let here : drop l.param-index params ≡ p ∷ left = left_here params l.param-index p c.loop-param-test.true c.param-item.is in
    l.invariant
    ∙ ap (λ ps. in_front l.ranks.items (ranks_of all (list_map type_and_pass ps) l.rest.now)) here
    ∙ ap (λ args. in_front l.ranks.items (ranks_of all (list_map type_and_pass (p ∷ left)) args)) c.in-Some.ensures.cases.0
    ∙ one_more all l.ranks.items p left c.in-Some.argument.now c.in-Some-rank.rank c.in-Some.others.now c.in-Some-rank.ensures.exact
    ∙ ap (λ ranks. in_front ranks (ranks_of all (list_map type_and_pass left) c.in-Some.others.now)) (sym c.in_ok-push.ensures.items)

pub returns-in_default : goal.returns-in_default
returns-in_default c =
    let l = c.loop-param in
    let all = c.args.lineage.now in
    let params : List ScriptParameter = c.args.params.now in
    let p : ScriptParameter = c.param-item.result in
    let left : List ScriptParameter = drop (l.param-index + 1) params in
    let here : drop l.param-index params ≡ p ∷ left = left_here params l.param-index p c.loop-param-test.true c.param-item.is in
    record {
      ranked =
          sym (l.invariant
          ∙ ap (λ ps. in_front l.ranks.items (ranks_of all (list_map type_and_pass ps) l.rest.now)) here
          ∙ no_argument all l.ranks.items p left l.rest.now c.in_default.ensures.cases);
    }

pub returns-in_default-rank : goal.returns-in_default-rank
returns-in_default-rank c =
    let l = c.loop-param in
    let all = c.args.lineage.now in
    let params : List ScriptParameter = c.args.params.now in
    let p : ScriptParameter = c.param-item.result in
    let left : List ScriptParameter = drop (l.param-index + 1) params in
    let here : drop l.param-index params ≡ p ∷ left = left_here params l.param-index p c.loop-param-test.true c.param-item.is in
    record {
      ranked =
          sym (l.invariant
          ∙ ap (λ ps. in_front l.ranks.items (ranks_of all (list_map type_and_pass ps) l.rest.now)) here
          ∙ ap (λ args. in_front l.ranks.items (ranks_of all (list_map type_and_pass (p ∷ left)) args)) c.in-Some.ensures.cases.0
          ∙ no_rank all l.ranks.items p left c.in-Some.argument.now c.in-Some.others.now c.in_default-rank.ensures.exact);
    }

pub returns-in-empty : goal.returns-in-empty
returns-in-empty c =
    let l = c.loop-param in
    let all = c.args.lineage.now in
    let none : drop l.param-index c.args.params.now ≡ [] = drop_all l.param-index c.args.params.now c.loop-param-test.false in
    record {
      ranked =
          sym (l.invariant
          ∙ ap (λ ps. in_front l.ranks.items (ranks_of all (list_map type_and_pass ps) l.rest.now)) none
          ∙ all_ranked all l.ranks.items l.rest.now c.in-empty.len_below);
    }

pub returns-in_default-rest : goal.returns-in_default-rest
returns-in_default-rest c =
    let l = c.loop-param in
    let all = c.args.lineage.now in
    let none : drop l.param-index c.args.params.now ≡ [] = drop_all l.param-index c.args.params.now c.loop-param-test.false in
    record {
      ranked =
          sym (l.invariant
          ∙ ap (λ ps. in_front l.ranks.items (ranks_of all (list_map type_and_pass ps) l.rest.now)) none
          ∙ too_many all l.ranks.items l.rest.now c.in_default-rest.len_at_least);
    }
