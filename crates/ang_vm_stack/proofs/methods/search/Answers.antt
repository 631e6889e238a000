use Rattle.std.proofs.Common.{◌∙◌, sym, ap, subst, arith, ◌<◌, ◌∷◌, Some, map as list_map}
use Rattle.std.proofs.lemmas.List.{map-append}
use Rattle.ang_vm_stack.specs.Slots.{RiseFrom, entry_of}
use Rattle.ang_vm_stack.specs.Tables.{method_in}
use Rattle.ang_vm_stack.proofs.Rising.{in_middle, in_back, in_front, rise_front, rise_back}
use Rattle.ang_vm_stack.proofs.methods.search.Goals as goal

pub returns-then-own-slot : goal.returns-then-own-slot
returns-then-own-slot c =
    let entry = entry_of c.args.home in
    let parts = ap (list_map entry) c.in-Some.ensures.parts ∙ map-append entry c.in-Some.before.now (c.in-Some.row.now ∷ c.in-Some.after.now) in
    let rising = subst (RiseFrom 0) parts c.loop-before.invariant.rising in
    record {
      exact =
          ap Some c.function_of.ensures.exact ∙ sym (in_middle c.args.slot 0 (list_map entry c.in-Some.before.now) (entry c.in-Some.row.now) (list_map entry c.in-Some.after.now) rising c.if-own-slot.true)
          ∙ ap (λ l. method_in l c.args.slot) (sym parts) ∙ c.loop-before.invariant.same;
    }

pub loop-before-preserved-then-own-slot-2 : goal.loop-before-preserved-then-own-slot-2
loop-before-preserved-then-own-slot-2 c =
    let entry = entry_of c.args.home in
    let parts = ap (list_map entry) c.in-Some.ensures.parts ∙ map-append entry c.in-Some.before.now (c.in-Some.row.now ∷ c.in-Some.after.now) in
    let rising = subst (RiseFrom 0) parts c.loop-before.invariant.rising in
    record {
      rising = rise_back 0 (list_map entry c.in-Some.before.now) (entry c.in-Some.row.now) (list_map entry c.in-Some.after.now) rising;
      same =
          in_back c.args.slot 0 (list_map entry c.in-Some.before.now) (entry c.in-Some.row.now) (list_map entry c.in-Some.after.now) rising c.if-own-slot-2.true
          ∙ ap (λ l. method_in l c.args.slot) (sym parts) ∙ c.loop-before.invariant.same;
    }

pub loop-before-preserved : goal.loop-before-preserved
loop-before-preserved c =
    let entry = entry_of c.args.home in
    let parts = ap (list_map entry) c.in-Some.ensures.parts ∙ map-append entry c.in-Some.before.now (c.in-Some.row.now ∷ c.in-Some.after.now) in
    let rising = subst (RiseFrom 0) parts c.loop-before.invariant.rising in
    let lower : c.args.slot < c.in-Some.row.now.slot = omega (arith, c.if-own-slot.false, c.if-own-slot-2.false) in
    record {
      rising = rise_front 0 (list_map entry c.in-Some.before.now) _ rising;
      same =
          in_front c.args.slot 0 (list_map entry c.in-Some.before.now) (entry c.in-Some.row.now) (list_map entry c.in-Some.after.now) rising lower
          ∙ ap (λ l. method_in l c.args.slot) (sym parts) ∙ c.loop-before.invariant.same;
    }
