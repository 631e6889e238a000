use Rattle.std.proofs.Common.{rules, tests, ◌∙◌, sym}
use Rattle.std.proofs.lemmas.Iterator.{YieldsList-from_slice}
use Rattle.std.proofs.lemmas.Iterator.Search.{any_from_yields_List}
use Rattle.ang_view.specs.Registration.{is_spelled_with}
use Rattle.ang_view.proofs.Lists.{or_false}
use Rattle.ang_view.proofs.view.mentions_type.Goals as goal

pub returns-else-spells : goal.returns-else-spells
returns-else-spells c =
    let s = c.args.signature.now in
    let name = c.args.name.now in
    record {
      exact =
          any_from_yields_List (λ p. is_spelled_with name p.ty) _ _ _ c.any.ensures.ran (YieldsList-from_slice s.params cc) (λ x b q k. search (rules, tests))
          ∙ sym (or_false (is_spelled_with name s.result) _ cc);
    }
