use Rattle.std.proofs.Common.{rules, tests, ◌∙◌}
use Rattle.std.proofs.lemmas.Iterator.{YieldsList-from_slice, YieldsList-from_zip}
use Rattle.std.proofs.lemmas.Iterator.Search.{all_from_yields_List}
use Rattle.ang_kinds.specs.declared.types.Param.{Param}
use Rattle.ang_view.proofs.Lists.{list_all-zip}
use Rattle.ang_tree.specs.declared.declaration.Parameter.{Parameter}
use Rattle.ang_names_listed.specs.Spellings.{same_spelling, spelling_of, host_spelling_of}
use Rattle.ang_names_listed.proofs.spelling.have_same_types_as_host.Goals as goal

pub returns-then-params-others : goal.returns-then-params-others
returns-then-params-others c =
    let xs = c.args.params.now in
    let ys = c.args.others.now in
    let same = λ (p : Parameter) (q : Param). same_spelling (spelling_of c.args.text.now p) (host_spelling_of q) in
    record {
      exact =
          all_from_yields_List (λ p. same p.0 p.1) c.all.new.self _ _ c.all.ensures.ran (YieldsList-from_zip (YieldsList-from_slice xs cc) (YieldsList-from_slice ys cc)) (λ x b q k. search (rules, tests))
          ∙ list_all-zip same xs ys c.if-params-others.true;
    }
