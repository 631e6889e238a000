use Rattle.std.proofs.Common.{◌<◌, ◌≤◌, ◌++◌, map, length, arith, sym, ap, ◌∙◌}
use Rattle.std.proofs.lemmas.List.{drop_all}
use Rattle.ang_index.specs.Rows.{items_at}
use Rattle.ang_names_known.specs.NameIndex.{places_of}
use Rattle.ang_names_listed.specs.Declarations.{family_name}
use Rattle.ang_names_classes.proofs.Places.{place_more, places_end}
use Rattle.ang_names_classes.proofs.placed.places_by_name.Goals as goal

pub loop-number-init : goal.loop-number-init
loop-number-init c name =
    ap (λ rows. items_at 0 name rows ++ places_of (map family_name c.args.families.now) name) (sym c.new-places.ensures.none)

pub loop-number-preserved : goal.loop-number-preserved
loop-number-preserved c name =
    let ds = c.args.families.now in
    let n = c.loop-number.number in
    let inside : n < length ds = omega arith in
    place_more family_name ds c.index-families-number.result n name c.family_name.result.now (places_of (map family_name ds) name)
    (items_at 0 name c.loop-number.places) (items_at 0 name c.push.new.self)
    inside c.index-families-number.is c.family_name.ensures.exact (c.in_ok-push.ensures.pushed 0 name) (c.loop-number.invariant name)

pub returns : goal.returns
returns c =
    let ds = c.args.families.now in
    let n = c.loop-number.number in
    let over : length ds ≤ n = omega arith in
    record {
      exact = record {
        places = λ name. sym (c.loop-number.invariant name ∙ places_end family_name ds n name (items_at 0 name c.loop-number.places) (drop_all n ds over));
      };
    }
