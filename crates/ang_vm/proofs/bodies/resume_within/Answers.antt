use Rattle.std.proofs.Common.{◌≡◌, ◌∷◌, [], length, sym, ap, ◌∙◌, arith}
use Rattle.ang_code.specs.Machine.{back}
use Rattle.ang_vm_stack.specs.Stacks.{values}
use Rattle.ang_vm.specs.Legs.{resumed}
use Rattle.ang_vm.proofs.Running.{whole_slice}
use Rattle.ang_vm.proofs.bodies.resume_within.Goals as goal

pub returns-clause-told : goal.returns-clause-told
returns-clause-told c = λ frames w.
    let all : length c.resume.new.stack ≡ c.args.stack.now.len = omega (arith, c.resume.auto.stack, c.as_mut_slice.ensures.len) in
    ap (λ l. back (c.args.caller ∷ frames) c.args.parted.value [] (values l c.args.parted.kept) c.args.ticks w) (sym c.as_mut_slice.ensures.value)
    ∙ c.resume.ensures.told frames w ∙ ap (λ l. resumed c.resume.result l frames w) (sym (whole_slice c.resume.new.stack _ c.args.stack.now.len all))
