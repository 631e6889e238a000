use Rattle.std.proofs.Common.{ap, sym, refl, ◌∙◌, ◌++◌, length}
use Rattle.std.proofs.lemmas.List.{append-nil}
use Rattle.ang_vm_ask.proofs.Handed.{values_end, min_past}
use Rattle.ang_vm_ask.proofs.arguments.values_from.Goals as goal

pub returns : goal.returns
returns c =
    record {
      exact = sym (append-nil c.loop-i.values.items)
          ∙ ap (λ l. c.loop-i.values.items ++ l)
          (sym (values_end c.args.driver c.args.types.now c.args.slots.now c.loop-i.i
          (min_past (length c.args.types.now) (length c.args.slots.now) c.min-count.result c.loop-i.i c.min-count.ensures c.loop-i-test.false)))
          ∙ c.loop-i.invariant.values;
      few = λ h. refl;
    }
