use Rattle.std.proofs.Common.{◌≡◌, ◌<◌, ◌≤◌, ◌++◌, bytes_eq, length, arith, rules, sym, ap, ◌∙◌}
use Rattle.std.proofs.lemmas.List.{drop_all}
use Rattle.ang_index.specs.Rows.{items_at}
use Rattle.ang_names_known.specs.declared.names.ScriptMethod.{ScriptMethod}
use Rattle.ang_names.specs.Rows.{method_row}
use Rattle.ang_names.proofs.InRows.{place_more, places_end}
use Rattle.ang_names.proofs.indexed.places_of_methods.Goals as goal

pub loop-place-init : goal.loop-place-init
unfolding method_row
loop-place-init c name =
    ap (λ rows. items_at 0 name rows ++ method_row name c.args.methods.now) (sym c.new-names.ensures.none)

pub loop-place-preserved : goal.loop-place-preserved
loop-place-preserved c name =
    let all = c.args.methods.now in
    let n = c.loop-place.place in
    let inside : n < length all = omega arith in
    let own : c.as_slice.result.now ≡ (λ (m : ScriptMethod). m.function.name) c.index-methods-place.result = search rules in
    place_more (λ (m : ScriptMethod). bytes_eq m.function.name name) all c.index-methods-place.result n (bytes_eq c.as_slice.result.now name) (method_row name all)
    (items_at 0 name c.loop-place.names) (items_at 0 name c.push.new.self)
    inside c.index-methods-place.is (ap (λ x. bytes_eq x name) own) (c.in_ok-push.ensures.pushed 0 name) (c.loop-place.invariant name)

pub returns : goal.returns
returns c =
    let all = c.args.methods.now in
    let n = c.loop-place.place in
    let over : length all ≤ n = omega arith in
    record {
      exact = record {
        places = λ name. sym (c.loop-place.invariant name ∙ places_end (λ (m : ScriptMethod). bytes_eq m.function.name name) all n (items_at 0 name c.loop-place.names) (drop_all n all over));
      };
    }
