use Rattle.std.proofs.Common.{◌≤◌, ◌+◌, length, sym, ap, ◌∙◌, arith}
use Rattle.ang_code.specs.Machine.{At}
use Rattle.ang_vm_stack.proofs.Tests.{roomy_there, roomy_not}
use Rattle.ang_vm_steps.proofs.arms.push_slot.Goals as goal

pub returns-then-top-room : goal.returns-then-top-room
returns-then-top-room c =
    let deep : c.args.top ≤ length c.args.stack.now = omega (arith, c.requires.in_room, c.requires.within) in
    record { acts = λ f pc fr t w. roomy_not c.args.stack.now c.args.top deep _ c.args.room c.if-top-room.true; in_room = tt }

pub returns : goal.returns
returns c =
    let deep : c.args.top ≤ length c.args.stack.now = omega (arith, c.requires.in_room, c.requires.within) in
    record { acts = λ f pc fr t w. roomy_there c.args.stack.now c.args.top deep _ c.args.room (omega arith) ∙ ap (λ s. At f (pc + 1) c.args.room s fr t w) (sym c.push.ensures.pushed); in_room = omega arith }
