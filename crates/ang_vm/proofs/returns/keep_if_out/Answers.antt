use Rattle.std.proofs.Common.{sym, ap, ◌∙◌, refl, arith}
use Rattle.ang_vm_stack.specs.Stacks.{values}
use Rattle.ang_vm.specs.Legs.{with_out}
use Rattle.ang_vm.proofs.Leaving.{moves_out}
use Rattle.ang_vm.proofs.returns.keep_if_out.Goals as goal

pub returns-in-In : goal.returns-in-In
returns-in-In c = record {
  kept = sym (ap (λ p. with_out p c.args.value (values c.args.stack.now c.args.kept)) c.in-In.is);
  unmoved = record { rest = λ n k. refl };
  most = omega arith;
}

pub returns-in-Out : goal.returns-in-Out
returns-in-Out c = record {
  kept = c.push.ensures.pushed ∙ sym (ap (λ p. with_out p c.args.value (values c.args.stack.now c.args.kept)) c.in-Out.is);
  unmoved = moves_out c.args.stack.now c.push.new.stack c.args.kept c.args.value c.push.ensures.pushed c.push.ensures.written;
  most = omega arith;
}

pub returns-in-Object : goal.returns-in-Object
returns-in-Object c = record {
  kept = sym (ap (λ p. with_out p c.args.value (values c.args.stack.now c.args.kept)) c.in-Object.is);
  unmoved = record { rest = λ n k. refl };
  most = omega arith;
}
