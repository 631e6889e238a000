use Rattle.std.proofs.Common.{◌≡◌, ◌∙◌, ap, subst, sym, rules}
use Rattle.std.specs.List.{dedup}
use Rattle.std.proofs.lemmas.Fn.{dedup_same}
use Rattle.std.proofs.lemmas.List.Sorted.{IsNonDecreasingBy-from_sort_by_key, answers_always}
use Rattle.ang_vm_stack.specs.declared.methods.MethodEntry.{MethodEntry}
use Rattle.ang_vm_stack.specs.Slots.{RiseFrom}
use Rattle.ang_vm_stack.specs.Tables.{method_in}
use Rattle.ang_vm_stack.proofs.Rising.{same_slot, sorted_same, kept_same, kept_rise}
use Rattle.ang_vm_stack.proofs.methods.Methods.new.Goals as goal

pub invariant_of-result : goal.invariant_of-result
invariant_of-result c =
    let kept : c.dedup_by_key.new.self.items ≡ dedup same_slot c.sort_by_key.new.self.items = dedup_same _ same_slot _ (λ x y b f' x' y' k. search rules) _ _ c.dedup_by_key.ensures.filtered in
    let up = IsNonDecreasingBy-from_sort_by_key (λ (m : MethodEntry). m.slot) _ c.in_ok-sort_by_key.ensures.sorted (λ a r q k. search rules) in
    subst (RiseFrom 0) (sym (c.in_ok-rows.ensures.same ∙ c.as_slice-2.ensures.value ∙ kept)) (kept_rise c.sort_by_key.new.self.items up)

pub returns : goal.returns
returns c =
    let kept : c.dedup_by_key.new.self.items ≡ dedup same_slot c.sort_by_key.new.self.items = dedup_same _ same_slot _ (λ x y b f' x' y' k. search rules) _ _ c.dedup_by_key.ensures.filtered in
    let stable = c.in_ok-sort_by_key.ensures.stable (λ (m : MethodEntry). m.slot) (answers_always _ _ _ (λ f a r g called. search rules)) in
    record {
      same = λ s. ap (λ l. method_in l s) (c.in_ok-rows.ensures.same ∙ c.as_slice-2.ensures.value ∙ kept)
          ∙ kept_same c.sort_by_key.new.self.items s ∙ sorted_same c.args.all.items c.sort_by_key.new.self.items stable s;
    }
