use Rattle.std.proofs.Common.{◌≡◌, ◌≤◌, ◌++◌, ◌∷◌, ◌+◌, [], Some, List, Option, drop, get_or, length, map as list_map, sym, ap, subst, arith, ◌∙◌}
use Rattle.std.proofs.lemmas.List.{append-nil, drop_all, drop_more, map-append}
use Rattle.ang_kinds.specs.declared.types.Pass.TheVariants as pass
use Rattle.ang_types.specs.declared.arg_type.ArgType.TheVariants as type
use Rattle.ang_names_known.specs.Kinds.{Kind, kinds_at, numbered}
use Rattle.ang_names_known.proofs.KeptNumbers.{keeps_further, keeps_itself, number_pushed}
use Rattle.ang_check_added.proofs.numbered.push_numbers.Goals as goal

pub loop-param-init : goal.loop-param-init
loop-param-init c = (
  λ t. keeps_itself (numbered t c.args.table.now),
  λ t front e. ap (λ r. r ++ list_map Some c.args.params.now) e ∙ sym (map-append Some front c.args.params.now),
)

pub loop-param-preserved : goal.loop-param-preserved
loop-param-preserved c =
    let l = c.loop-param in
    let params : List Kind = c.args.params.now in
    let first : Kind = (type.Void, pass.Value) in
    let p : Kind = get_or params l.param-index first in
    let new = c.number_of.new.table in
    let number = c.in_ok-number.number in
    let here : drop l.param-index params ≡ p ∷ drop (l.param-index + 1) params = drop_more params l.param-index first c.loop-param-test.true in (
      λ t. keeps_further (numbered t c.args.table.now) (numbered t l.table) (numbered t new) (l.invariant.0 t) (c.in_ok-number.ensures.keeps t),
      λ t front e.
          let rest : List (Option Kind) = list_map Some (drop (l.param-index + 1) params) in
          ap (λ ns. kinds_at (numbered t new) ns ++ rest) c.in_ok-push.ensures.items
          ∙ number_pushed (numbered t l.table) (numbered t new) (c.in_ok-number.ensures.keeps t) l.row.items number p rest (front ++ params)
          (subst (λ ps. kinds_at (numbered t l.table) l.row.items ++ list_map Some ps ≡ list_map Some (front ++ params)) here (l.invariant.1 t front e))
          (c.in_ok-number.ensures.is t),
    )

pub returns-clause-pushed : goal.returns-clause-pushed
returns-clause-pushed c = λ t front e.
    let l = c.loop-param in
    let params : List Kind = c.args.params.now in
    let over : length params ≤ l.param-index = omega arith in
    let none : drop l.param-index params ≡ [] = drop_all l.param-index params over in
    let so_far : List (Option Kind) = kinds_at (numbered t l.table) l.row.items in
    sym (append-nil so_far) ∙ ap (λ ps. so_far ++ list_map Some ps) (sym none) ∙ l.invariant.1 t front e
