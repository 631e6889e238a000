use Rattle.std.specs.Prelude.{option_to_list}
use Rattle.std.specs.List.{filter_map}
use Rattle.std.proofs.Common.{◌≡◌, ◌+◌, ◌++◌, ◌∷◌, ℕ, [], List, drop, append_assoc, append-nil, sym, ap, ◌∙◌}
use Rattle.std.proofs.lemmas.List.{drop_all}
use Rattle.ang_names_known.specs.declared.names.ScriptMethod.{ScriptMethod}
use Rattle.ang_names_known.proofs.KeptNumbers.{left_here}
use Rattle.ang_check.specs.Bodies.{slot_and_body}
use Rattle.ang_check.proofs.Lists.{cons_joins}
use Rattle.ang_check.proofs.program.slots_of.Goals as goal

pub loop-method-preserved : goal.loop-method-preserved
loop-method-preserved c =
    let l = c.loop-method in
    let methods : List ScriptMethod = c.args.methods.now in
    let m : ScriptMethod = c.method-item.result in
    let left : List ScriptMethod = drop (l.method-index + 1) methods in
    let here : drop l.method-index methods ≡ m ∷ left = left_here methods l.method-index m c.loop-method-test.true c.method-item.is in
    let chosen : List (ℕ × ℕ) = filter_map slot_and_body left in
    l.invariant
    ∙ ap (λ ms. l.slots.items ++ filter_map slot_and_body ms) here
    ∙ ap (λ rest. l.slots.items ++ rest) (cons_joins (slot_and_body m) chosen)
    ∙ sym (append_assoc l.slots.items (option_to_list (slot_and_body m)) chosen)
    ∙ ap (λ slots. slots ++ chosen) (sym c.in_ok-push_slot.ensures.pushed)

pub returns : goal.returns
returns c =
    let l = c.loop-method in
    let methods : List ScriptMethod = c.args.methods.now in
    let none : drop l.method-index methods ≡ [] = drop_all l.method-index methods c.loop-method-test.false in
    record {
      exact =
          sym (l.invariant
          ∙ ap (λ ms. l.slots.items ++ filter_map slot_and_body ms) none
          ∙ append-nil l.slots.items);
    }
