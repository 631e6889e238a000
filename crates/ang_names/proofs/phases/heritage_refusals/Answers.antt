use Rattle.ang_names.proofs.Named.{found_as}
use Rattle.ang_names.proofs.Numbered.{few_families, heritage_refused, table_fits}
use Rattle.ang_names.proofs.phases.heritage_refusals.Goals as goal

pub heritage_in-requires : goal.heritage_in-requires
heritage_in-requires c =
    let V = c.args.view.now in
    let all = c.args.all.now in
    let e = c.in_ok-space.ensures.exact in
    let h = c.in_ok-families.ensures.families in
    let s = c.in_ok-families.ensures.tables in
    record {
      few = few_families V all _ e _ h c.requires.few;
      above = table_fits V all _ e _ _ _ h s.above;
      reach = table_fits V all _ e _ _ _ h s.reach;
    }

pub returns : goal.returns
returns c = record {
  exact =
      found_as (λ found. found.items) _ _ c.heritage_in.result c.heritage_in.ensures.exact
      (heritage_refused c.args.view.now c.args.all.now _ c.in_ok-space.ensures.exact _ _ c.in_ok-families.ensures.families
      c.in_ok-families.ensures.tables);
}
