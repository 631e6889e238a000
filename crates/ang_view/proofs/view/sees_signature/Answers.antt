use Rattle.std.proofs.Common.{rules, tests, ◌≡◌, Bool, true, ◌&&◌, sym, ap, ◌∙◌}
use Rattle.std.proofs.lemmas.Iterator.{YieldsList-from_slice}
use Rattle.std.proofs.lemmas.Iterator.Search.{all_from_yields_List}
use Rattle.std.specs.List.{list_all}
use Rattle.ang_view.specs.SeenTypes.{meets_spelled}
use Rattle.ang_view.proofs.view.sees_signature.Goals as goal

pub returns-then-sees_type : goal.returns-then-sees_type
returns-then-sees_type c =
    let list = c.args.list.now in
    let mask = c.args.mask.0 in
    let s = c.args.signature.now in
    let result_met : meets_spelled list mask s.result ≡ true = sym c.sees_type.ensures.exact ∙ c.if-sees_type.true in
    record {
      exact =
          all_from_yields_List (λ p. meets_spelled list mask p.ty) _ _ _ c.all.ensures.ran (YieldsList-from_slice s.params cc) (λ x b q k. search (rules, tests))
          ∙ ap (λ (b : Bool). b && list_all (λ p. meets_spelled list mask p.ty) s.params) (sym result_met);
    }
