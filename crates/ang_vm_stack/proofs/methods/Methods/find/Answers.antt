use Rattle.std.proofs.Common.{Some, ◌∙◌, sym, ap, subst, map as list_map}
use Rattle.ang_vm_stack.specs.Slots.{RiseFrom, entry_of}
use Rattle.ang_vm_stack.specs.Tables.{method_in}
use Rattle.ang_vm_stack.proofs.Rising.{at_row}
use Rattle.ang_vm_stack.proofs.methods.Methods.find.Goals as goal

pub returns-in-Some : goal.returns-in-Some
returns-in-Some c =
    let found = c.in-Some.ensures.lookup in
    let home = c.self.inside.home in
    let all = ap (list_map (entry_of home)) c.as_slice-rows.ensures.value in
    let rising = subst (RiseFrom 0) (sym all) c.self.invariant in
    record {
      exact =
          ap Some c.function_of-in-Some.ensures.exact ∙ sym (at_row c.args.slot home _ c.as_slice-rows.result.now c.in-Some.row.now rising found.3.0 found.1 c.if-row-slot.true)
          ∙ ap (λ l. method_in l c.args.slot) (all ∙ c.self.view_is);
    }
