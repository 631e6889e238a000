use Rattle.std.proofs.Common.{rules, tests, ◌∙◌}
use Rattle.std.proofs.lemmas.Iterator.{YieldsList-from_slice, YieldsList-from_zip}
use Rattle.std.proofs.lemmas.Iterator.Search.{all_from_yields_List}
use Rattle.ang_view.proofs.Lists.{list_all-zip}
use Rattle.ang_names_known.specs.Lookup.{same_type}
use Rattle.ang_check_denials.proofs.same.all_same.Goals as goal

pub returns-then-types-others : goal.returns-then-types-others
returns-then-types-others c =
    let xs = c.args.types.now in
    let ys = c.args.others.now in
    record {
      exact =
          all_from_yields_List (λ p. same_type p.0 p.1) c.all.new.self _ _ c.all.ensures.ran (YieldsList-from_zip (YieldsList-from_slice xs cc) (YieldsList-from_slice ys cc)) (λ x b q k. search (rules, tests))
          ∙ list_all-zip same_type xs ys c.if-types-others.true;
    }
