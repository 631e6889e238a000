use Rattle.std.proofs.Common.{◌≡◌, ◌<◌, ◌≤◌, ◌++◌, bytes_eq, length, arith, rules, sym, ap, ◌∙◌}
use Rattle.std.proofs.lemmas.List.{drop_all}
use Rattle.ang_index.specs.Rows.{items_at}
use Rattle.ang_names_known.specs.declared.names.Field.{Field}
use Rattle.ang_names.specs.Rows.{field_row}
use Rattle.ang_names.proofs.InRows.{place_more, places_end}
use Rattle.ang_names.proofs.indexed.places_of_fields.Goals as goal

pub loop-place-init : goal.loop-place-init
unfolding field_row
loop-place-init c name =
    ap (λ rows. items_at 0 name rows ++ field_row name c.args.fields.now) (sym c.new-names.ensures.none)

pub loop-place-preserved : goal.loop-place-preserved
loop-place-preserved c name =
    let all = c.args.fields.now in
    let n = c.loop-place.place in
    let inside : n < length all = omega arith in
    let own : c.as_slice.result.now ≡ (λ (x : Field). x.name) c.index-fields-place.result = search rules in
    place_more (λ (x : Field). bytes_eq x.name name) all c.index-fields-place.result n (bytes_eq c.as_slice.result.now name) (field_row name all)
    (items_at 0 name c.loop-place.names) (items_at 0 name c.push.new.self)
    inside c.index-fields-place.is (ap (λ x. bytes_eq x name) own) (c.in_ok-push.ensures.pushed 0 name) (c.loop-place.invariant name)

pub returns : goal.returns
returns c =
    let all = c.args.fields.now in
    let n = c.loop-place.place in
    let over : length all ≤ n = omega arith in
    record {
      exact = record {
        places = λ name. sym (c.loop-place.invariant name ∙ places_end (λ (x : Field). bytes_eq x.name name) all n (items_at 0 name c.loop-place.names) (drop_all n all over));
      };
    }
