use Rattle.std.proofs.Common.{◌≡◌, ◌≤◌, ◌++◌, ◌∷◌, ◌+◌, [], List, drop, length, map as list_map, refl, ap, subst, arith, ◌∙◌}
use Rattle.std.proofs.lemmas.List.{drop_all}
use Rattle.ang_names_known.specs.declared.names.Family.{Family}
use Rattle.ang_names_known.specs.Kinds.{kinds_of, method_params, numbered, told_of}
use Rattle.ang_names_known.specs.Numbering.{rows_wanted}
use Rattle.ang_names_known.proofs.KeptNumbers.{families_end, family_added, keeps_further, keeps_itself, left_here}
use Rattle.ang_names_known.proofs.numbering.rows_of_families.Goals as goal

pub loop-family-init : goal.loop-family-init
loop-family-init c = rw c.in_ok-all.ensures.items (λ t. keeps_itself (numbered t c.args.table.now), λ t. refl)

pub loop-family-preserved : goal.loop-family-preserved
loop-family-preserved c =
    let l = c.loop-family in
    let families : List Family = c.args.families.now in
    let f : Family = c.family-item.result in
    let old = l.table in
    let new = c.rows_of_methods.new.table in
    let here : drop l.family-index families ≡ f ∷ drop (l.family-index + 1) families = left_here families l.family-index f c.loop-family-test.true c.family-item.is in (
      λ t. keeps_further (numbered t c.args.table.now) (numbered t old) (numbered t new) (l.invariant.0 t) (c.in_ok-rows.ensures.keeps t),
      λ t.
          family_added t old new (c.in_ok-rows.ensures.keeps t) l.all.items c.push.new.self.items c.in_ok-rows.rows f (drop (l.family-index + 1) families) families
          (subst (λ fs. list_map (kinds_of (numbered t old)) l.all.items ++ rows_wanted t fs ≡ rows_wanted t families) here (l.invariant.1 t))
          (c.in_ok-rows.ensures.rows t ∙ ap (λ ms. told_of (method_params t ms)) c.as_slice.ensures.same)
          c.in_ok-push.ensures.items,
    )

pub returns : goal.returns
returns c =
    let l = c.loop-family in
    let families : List Family = c.args.families.now in
    let over : length families ≤ l.family-index = omega arith in
    let none : drop l.family-index families ≡ [] = drop_all l.family-index families over in
    record {
      keeps = l.invariant.0;
      rows = λ t. families_end t l.table l.all.items (drop l.family-index families) families none (l.invariant.1 t);
    }
