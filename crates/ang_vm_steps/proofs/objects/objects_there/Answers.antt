use Rattle.std.proofs.Common.{◌-◌, length, sym, ap, ◌∙◌, arith}
use Rattle.std.specs.Prelude.{not}
use Rattle.ang_meaning.specs.Environment.{is_null}
use Rattle.ang_vm_stack.specs.Stacks.{values}
use Rattle.ang_vm_stack.proofs.Values.{values_length}
use Rattle.ang_vm_steps.proofs.WantedObjects.{none_wanted, receiver_some, receiver_there}
use Rattle.ang_vm_steps.proofs.objects.objects_there.Goals as goal

pub returns-then-not-wants_objects : goal.returns-then-not-wants_objects
returns-then-not-wants_objects c = record { exact = sym (none_wanted c.args.params.now (values c.args.stack.now c.args.top) (sym c.requires.known ∙ c.if-not-wants_objects.true)) }

pub returns-then-only_receiver : goal.returns-then-only_receiver
returns-then-only_receiver c =
    let alone = sym c.requires.known_receiver ∙ c.if-only_receiver.true in
    let some = receiver_some c.args.params.now alone in
    let size = values_length c.args.stack.now c.args.top c.requires.within in
    record {
      exact = ap not c.is_null.ensures.exact ∙ ap (λ v. not (is_null v)) c.peek.ensures.exact
          ∙ sym (receiver_there c.args.params.now (values c.args.stack.now c.args.top) (length c.args.params.now - 1) alone (omega (arith, some)) (omega (arith, size, c.requires.enough)));
    }
