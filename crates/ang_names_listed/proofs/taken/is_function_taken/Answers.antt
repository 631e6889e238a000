use Rattle.std.specs.Prelude.{◌||◌}
use Rattle.std.specs.List.{list_any}
use Rattle.std.proofs.Common.{ap, ◌∙◌}
use Rattle.ang_names_listed.specs.Earlier.{clashes_at, keyed}
use Rattle.ang_names_listed.proofs.Among.{both_among}
use Rattle.ang_names_listed.proofs.taken.is_function_taken.Goals as goal

pub returns : goal.returns
returns c =
    let before = c.args.before.now in
    let d = c.args.declared.now in
    let others = c.keyed-others.result.now in
    let functions = c.keyed-functions.result.now in
    record {
      exact =
          c.clashes_with_either.ensures.exact
          ∙ ap (λ all. list_any (clashes_at all d) others || list_any (clashes_at all d) functions) c.items-items.ensures.same
          ∙ both_among before d c.args.params.now others functions c.requires.params
          (c.keyed-others.ensures.exact ∙ ap (keyed before) c.declared_name.ensures.exact)
          (c.keyed-functions.ensures.exact ∙ ap (keyed before) (c.as_slice.ensures.value ∙ c.in_ok-key.ensures.exact));
    }
