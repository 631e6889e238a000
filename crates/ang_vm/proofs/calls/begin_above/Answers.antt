use Rattle.std.proofs.Common.{◌≡◌, ◌+◌, length, refl, arith}
use Rattle.ang_vm_stack.specs.Stacks.{values}
use Rattle.ang_vm_stack.proofs.Values.{values_length}
use Rattle.ang_vm.proofs.Calling.{begins_there, begins_refused}
use Rattle.ang_vm.proofs.calls.begin_above.Goals as goal

pub returns-then-not-reserve : goal.returns-then-not-reserve
returns-then-not-reserve c = record {
  told = λ code fr w h. begins_refused code c.args.body c.args.stack.now.items c.args.top fr c.args.ticks w c.reserve.new.stack.items c.reserve.ensures.same;
  in_room = tt;
  body = tt;
  same = c.reserve.ensures.same;
  grows = c.reserve.ensures.grows;
}

pub returns : goal.returns
returns c =
    let size = values_length c.args.stack.now.items c.args.top c.requires.within in
    record {
      told = λ code fr w h.
          let high : c.args.top + c.args.height ≡ length (values c.args.stack.now.items c.args.top) + code.height c.args.body = omega (arith, h, size) in
          begins_there code c.args.body c.args.stack.now.items c.args.top fr c.args.ticks w c.reserve.new.stack.items (c.args.top + c.args.height) c.reserve.ensures.same high;
      in_room = (omega arith, c.reserve.ensures.room c.if-not-reserve.false);
      body = refl;
      same = c.reserve.ensures.same;
      grows = c.reserve.ensures.grows;
    }
