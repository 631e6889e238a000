use Rattle.std.proofs.Common.{◌≡◌, ◌<◌, ◌≤◌, ◌+◌, ◌++◌, ◌∷◌, ℕ, [], List, Some, None, drop, length, arith, refl, sym, ap, ◌∙◌}
use Rattle.std.proofs.lemmas.List.{append-nil, drop_all}
use Rattle.ang_types.specs.declared.arg_type.ArgType.{ArgType}
use Rattle.ang_types.specs.Ranks.{Ancestors}
use Rattle.ang_kinds.specs.declared.types.Param.{Param}
use Rattle.ang_view.specs.Registration.{RegistrationList}
use Rattle.ang_names_known.proofs.KeptNumbers.{left_here}
use Rattle.ang_check_contest.specs.Contest.{with_rank}
use Rattle.ang_check_contest.specs.Host.{host_type}
use Rattle.ang_check_contest.specs.Scores.{host_rank, host_ranks, in_front}
use Rattle.ang_check_contest.proofs.RankLaws.{no_host_ranks, one_more_rank}
use Rattle.ang_check_contest.proofs.ranking.rank_host.Goals as goal

-- no rank is left where there is no argument for the parameter
no_argument : (l : Ancestors) (V : RegistrationList) (ranks : List ℕ) (p : Param) (ps : List Param) (args : List ArgType) → length args ≡ 0
    → in_front ranks (host_ranks l V (p ∷ ps) args) ≡ None
no_argument l V ranks p ps [] none = refl
no_argument l V ranks p ps (a ∷ args) none = absurd (omega (arith, none))

no_rank : (l : Ancestors) (V : RegistrationList) (ranks : List ℕ) (p : Param) (ps : List Param) (a : ArgType) (args : List ArgType) → None ≡ host_rank l (host_type V p.ty) p.pass a
    → in_front ranks (host_ranks l V (p ∷ ps) (a ∷ args)) ≡ None
no_rank l V ranks p ps a args none = ap (λ o. in_front ranks (with_rank o (host_ranks l V ps args))) (sym none)

one_more : (l : Ancestors) (V : RegistrationList) (ranks : List ℕ) (p : Param) (ps : List Param) (a : ArgType) (r : ℕ) (args : List ArgType)
    → Some r ≡ host_rank l (host_type V p.ty) p.pass a
    → in_front ranks (host_ranks l V (p ∷ ps) (a ∷ args)) ≡ in_front (ranks ++ r ∷ []) (host_ranks l V ps args)
one_more l V ranks p ps a r args is =
    ap (λ o. in_front ranks (with_rank o (host_ranks l V ps args))) (sym is) ∙ one_more_rank ranks r (host_ranks l V ps args)

all_ranked : (l : Ancestors) (V : RegistrationList) (ranks : List ℕ) (args : List ArgType) → length args < 1 → in_front ranks (host_ranks l V [] args) ≡ Some ranks
all_ranked l V ranks [] few = ap Some (append-nil ranks)
all_ranked l V ranks (a ∷ args) few = absurd (omega (arith, few))

too_many : (l : Ancestors) (V : RegistrationList) (ranks : List ℕ) (args : List ArgType) → 1 ≤ length args → in_front ranks (host_ranks l V [] args) ≡ None
too_many l V ranks [] many = absurd (omega (arith, many))
too_many l V ranks (a ∷ args) many = refl

pub returns-then-params-args : goal.returns-then-params-args
returns-then-params-args c =
    record { ranked = sym (ap (in_front c.args.ranks.now.items) (no_host_ranks c.args.scope.now.ancestors c.args.scope.now.view c.args.params.now c.args.args.now c.if-params-args.true)) }

pub loop-param-preserved : goal.loop-param-preserved
loop-param-preserved c =
    let l = c.loop-param in
    let all = c.args.scope.now.ancestors in
    let V = c.args.scope.now.view in
    let params : List Param = c.args.params.now in
    let p : Param = c.param-item.result in
    let left : List Param = drop (l.param-index + 1) params in
    let here : drop l.param-index params ≡ p ∷ left = left_here params l.param-index p c.loop-param-test.true c.param-item.is in
    l.invariant
    ∙ ap (λ ps. in_front l.ranks.items (host_ranks all V ps l.rest.now)) here
    ∙ ap (λ args. in_front l.ranks.items (host_ranks all V (p ∷ left) args)) c.in-Some.ensures.cases.0
    ∙ one_more all V l.ranks.items p left c.in-Some.argument.now c.in-Some-rank_seen.rank c.in-Some.others.now c.in-Some-rank_seen.ensures.exact
    ∙ ap (λ ranks. in_front ranks (host_ranks all V left c.in-Some.others.now)) (sym c.in_ok-push.ensures.items)

pub returns-in_default : goal.returns-in_default
returns-in_default c =
    let l = c.loop-param in
    let all = c.args.scope.now.ancestors in
    let V = c.args.scope.now.view in
    let params : List Param = c.args.params.now in
    let p : Param = c.param-item.result in
    let left : List Param = drop (l.param-index + 1) params in
    let here : drop l.param-index params ≡ p ∷ left = left_here params l.param-index p c.loop-param-test.true c.param-item.is in
    record {
      ranked =
          sym (l.invariant
          ∙ ap (λ ps. in_front l.ranks.items (host_ranks all V ps l.rest.now)) here
          ∙ no_argument all V l.ranks.items p left l.rest.now c.in_default.ensures.cases);
    }

pub returns-in_default-rank_seen : goal.returns-in_default-rank_seen
returns-in_default-rank_seen c =
    let l = c.loop-param in
    let all = c.args.scope.now.ancestors in
    let V = c.args.scope.now.view in
    let params : List Param = c.args.params.now in
    let p : Param = c.param-item.result in
    let left : List Param = drop (l.param-index + 1) params in
    let here : drop l.param-index params ≡ p ∷ left = left_here params l.param-index p c.loop-param-test.true c.param-item.is in
    record {
      ranked =
          sym (l.invariant
          ∙ ap (λ ps. in_front l.ranks.items (host_ranks all V ps l.rest.now)) here
          ∙ ap (λ args. in_front l.ranks.items (host_ranks all V (p ∷ left) args)) c.in-Some.ensures.cases.0
          ∙ no_rank all V l.ranks.items p left c.in-Some.argument.now c.in-Some.others.now c.in_default-rank_seen.ensures.exact);
    }

pub returns-in-empty : goal.returns-in-empty
returns-in-empty c =
    let l = c.loop-param in
    let all = c.args.scope.now.ancestors in
    let V = c.args.scope.now.view in
    let none : drop l.param-index c.args.params.now ≡ [] = drop_all l.param-index c.args.params.now c.loop-param-test.false in
    record {
      ranked =
          sym (l.invariant
          ∙ ap (λ ps. in_front l.ranks.items (host_ranks all V ps l.rest.now)) none
          ∙ all_ranked all V l.ranks.items l.rest.now c.in-empty.len_below);
    }

pub returns-in_default-rest : goal.returns-in_default-rest
returns-in_default-rest c =
    let l = c.loop-param in
    let all = c.args.scope.now.ancestors in
    let V = c.args.scope.now.view in
    let none : drop l.param-index c.args.params.now ≡ [] = drop_all l.param-index c.args.params.now c.loop-param-test.false in
    record {
      ranked =
          sym (l.invariant
          ∙ ap (λ ps. in_front l.ranks.items (host_ranks all V ps l.rest.now)) none
          ∙ too_many all V l.ranks.items l.rest.now c.in_default-rest.len_at_least);
    }
