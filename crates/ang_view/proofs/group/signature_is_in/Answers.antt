use Rattle.std.proofs.Common.{rules, tests, ◌∙◌, sym}
use Rattle.std.proofs.lemmas.Iterator.{YieldsList-from_slice}
use Rattle.std.proofs.lemmas.Iterator.Search.{any_from_yields_List}
use Rattle.ang_view.specs.Outside.{spelled_in}
use Rattle.ang_view.proofs.Lists.{or_false}
use Rattle.ang_view.proofs.group.signature_is_in.Goals as goal

pub returns-else-spelled_is_in : goal.returns-else-spelled_is_in
returns-else-spelled_is_in c =
    let R = c.args.list.now in
    let g = c.args.group.now in
    let s = c.args.signature.now in
    record {
      exact =
          any_from_yields_List (λ p. spelled_in R g p.ty) _ _ _ c.any.ensures.ran (YieldsList-from_slice s.params cc) (λ x b q k. search (rules, tests))
          ∙ sym (or_false (spelled_in R g s.result) _ (sym c.spelled_is_in.ensures.exact ∙ c.if-spelled_is_in.false));
    }
