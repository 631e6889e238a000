use Rattle.std.proofs.Common.{◌<◌, ◌≤◌, ◌==◌, ◌++◌, [], length, arith, sym, ap, ◌∙◌}
use Rattle.std.proofs.lemmas.List.{drop_all}
use Rattle.ang_index.specs.Rows.{items_at}
use Rattle.ang_names_known.specs.declared.names.ScriptMethod.{ScriptMethod}
use Rattle.ang_names.specs.Rows.{slot_row}
use Rattle.ang_names.proofs.InRows.{and_true, place_more, places_end}
use Rattle.ang_names.proofs.indexed.places_by_slot.Goals as goal

pub loop-place-init : goal.loop-place-init
unfolding slot_row
loop-place-init c slot =
    ap (λ rows. items_at slot [] rows ++ slot_row slot c.args.methods.now) (sym c.new-slots.ensures.none)

pub loop-place-preserved : goal.loop-place-preserved
loop-place-preserved c slot =
    let all = c.args.methods.now in
    let n = c.loop-place.place in
    let inside : n < length all = omega arith in
    place_more (λ (m : ScriptMethod). m.slot == slot) all c.index-methods-place.result n _ (slot_row slot all)
    (items_at slot [] c.loop-place.slots) (items_at slot [] c.push.new.self)
    inside c.index-methods-place.is (and_true (c.index-methods-place.result.slot == slot)) (c.in_ok-push.ensures.pushed slot []) (c.loop-place.invariant slot)

pub returns : goal.returns
returns c =
    let all = c.args.methods.now in
    let n = c.loop-place.place in
    let over : length all ≤ n = omega arith in
    record {
      exact = record {
        places = λ slot. sym (c.loop-place.invariant slot ∙ places_end (λ (m : ScriptMethod). m.slot == slot) all n (items_at slot [] c.loop-place.slots) (drop_all n all over));
      };
    }
