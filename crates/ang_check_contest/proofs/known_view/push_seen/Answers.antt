use Rattle.std.proofs.Common.{◌≡◌, ◌≤◌, ◌++◌, ◌∷◌, ◌+◌, [], Some, None, List, drop, length, refl, sym, ap, subst, arith, ◌∙◌}
use Rattle.std.specs.Prelude.{map as list_map, option_map}
use Rattle.std.proofs.lemmas.List.{drop_all}
use Rattle.ang_kinds.specs.declared.types.Param.{Param}
use Rattle.ang_check_contest.specs.Host.{host_parameters, host_type}
use Rattle.ang_names_known.specs.Kinds.{kinds_at, numbered}
use Rattle.ang_check_contest.specs.EntryKinds.{after}
use Rattle.ang_names_known.proofs.KeptNumbers.{keeps_further, keeps_itself, left_here}
use Rattle.ang_check_contest.proofs.SeenRows.{all_seen, none_seen, number_seen, one_seen}
use Rattle.ang_check_contest.proofs.known_view.push_seen.Goals as goal

pub loop-param-init : goal.loop-param-init
loop-param-init c = (λ t. keeps_itself (numbered t c.args.table.now), λ t front e. (front, (e, refl)))

pub loop-param-preserved : goal.loop-param-preserved
loop-param-preserved c =
    let l = c.loop-param in
    let V = c.args.view.now in
    let params : List Param = c.args.params.now in
    let p : Param = c.param-item.result in
    let ty = c.in-Some.ty in
    let old = l.table in
    let new = c.number.new.self in
    let here : drop l.param-index params ≡ p ∷ drop (l.param-index + 1) params = left_here params l.param-index p c.loop-param-test.true c.param-item.is in
    let seen : host_type V p.ty ≡ Some ty = sym c.host_type.ensures.exact ∙ c.in-Some.is in (
      λ t. keeps_further (numbered t c.args.table.now) (numbered t old) (numbered t new) (l.invariant.0 t) (c.in_ok-number.ensures.keeps t),
      λ t front e.
          let s = l.invariant.1 t front e in (
            s.0 ++ (ty, p.pass) ∷ [],
            (
              ap (kinds_at (numbered t new)) c.in_ok-push.ensures.items
                  ∙ number_seen (numbered t old) (numbered t new) (c.in_ok-number.ensures.keeps t) l.row.items c.in_ok-number.number (ty, p.pass) s.0 s.1.0 (c.in_ok-number.ensures.is t),
              s.1.1 ∙ ap (λ ps. after s.0 (host_parameters V ps)) here ∙ one_seen V s.0 p (drop (l.param-index + 1) params) ty seen,
            ),
          ),
    )
