use Rattle.std.proofs.Common.{◌≡◌, ◌-◌, reverse, take, drop, ap, ◌∙◌, arith}
use Rattle.ang_vm_stack.proofs.Values.{values_above}
use Rattle.ang_vm_ask.proofs.handing.operands_at.Goals as goal

pub returns : goal.returns
returns c =
    let all : c.args.top - (c.args.top - c.args.count) ≡ c.args.count = omega (arith, c.requires.in_use) in
    record {
      exact = ap (λ n. reverse (take n (drop (c.args.top - c.args.count) c.args.stack.now))) all ∙ values_above c.args.stack.now c.args.top c.args.count c.requires.in_use c.requires.within;
    }
