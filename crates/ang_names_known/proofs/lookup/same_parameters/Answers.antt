use Rattle.std.proofs.Common.{rules, tests, ◌∙◌}
use Rattle.std.proofs.lemmas.Iterator.{YieldsList-from_slice, YieldsList-from_zip}
use Rattle.std.proofs.lemmas.Iterator.Search.{all_from_yields_List}
use Rattle.ang_view.proofs.Lists.{list_all-zip}
use Rattle.ang_names_known.specs.Lookup.{same_parameter}
use Rattle.ang_names_known.proofs.lookup.same_parameters.Goals as goal

pub returns-then-params-others : goal.returns-then-params-others
returns-then-params-others c =
    let xs = c.args.params.now in
    let ys = c.args.others.now in
    record {
      exact =
          all_from_yields_List (λ p. same_parameter p.0 p.1) c.all.new.self _ _ c.all.ensures.ran (YieldsList-from_zip (YieldsList-from_slice xs cc) (YieldsList-from_slice ys cc)) (λ x b q k. search (rules, tests))
          ∙ list_all-zip same_parameter xs ys c.if-params-others.true;
    }
