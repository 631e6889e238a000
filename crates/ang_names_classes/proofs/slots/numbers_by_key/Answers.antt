use Rattle.std.proofs.Common.{◌<◌, ◌≤◌, ◌++◌, length, arith, rules, sym, ap, ◌∙◌}
use Rattle.std.proofs.lemmas.List.{drop_all}
use Rattle.ang_index.specs.Rows.{items_at}
use Rattle.ang_names_classes.specs.Keys.{method_key}
use Rattle.ang_names_classes.specs.Slots.{methods_keyed}
use Rattle.ang_names_classes.proofs.Places.{place_more, places_end}
use Rattle.ang_names_classes.proofs.slots.numbers_by_key.Goals as goal

pub loop-number-init : goal.loop-number-init
loop-number-init c name =
    ap (λ rows. items_at 0 name rows ++ methods_keyed c.args.signatures.now name) (sym c.new-numbers.ensures.none)

pub loop-number-preserved : goal.loop-number-preserved
loop-number-preserved c name =
    let all = c.args.signatures.now in
    let n = c.loop-number.number in
    let inside : n < length all = omega arith in
    place_more method_key all c.index-signatures-number.result n name c.as_slice.result.now (methods_keyed all name)
    (items_at 0 name c.loop-number.numbers) (items_at 0 name c.push.new.self)
    inside c.index-signatures-number.is (search rules) (c.in_ok-push.ensures.pushed 0 name) (c.loop-number.invariant name)

pub returns : goal.returns
returns c =
    let all = c.args.signatures.now in
    let n = c.loop-number.number in
    let over : length all ≤ n = omega arith in
    record {
      exact = record {
        numbers = λ name. sym (c.loop-number.invariant name ∙ places_end method_key all n name (items_at 0 name c.loop-number.numbers) (drop_all n all over));
      };
    }
