use Rattle.std.proofs.Common.{rules, tests, ◌∙◌}
use Rattle.std.proofs.lemmas.Iterator.{YieldsList-from_slice, YieldsList-from_zip}
use Rattle.std.proofs.lemmas.Iterator.Search.{all_from_yields_List}
use Rattle.ang_registry.specs.Overloads.{same_parameter}
use Rattle.ang_view.proofs.Lists.{list_all-zip}
use Rattle.ang_registry.proofs.overload.have_same_types.Goals as goal

pub returns-then-others-params : goal.returns-then-others-params
returns-then-others-params c =
    let xs = c.args.others.now in
    let ys = c.args.params.now in
    record {
      exact =
          all_from_yields_List (λ p. same_parameter p.0 p.1) c.all.new.self _ _ c.all.ensures.ran (YieldsList-from_zip (YieldsList-from_slice xs cc) (YieldsList-from_slice ys cc)) (λ x b q k. search (rules, tests))
          ∙ list_all-zip same_parameter xs ys c.if-others-params.true;
    }
