use Rattle.std.proofs.Common.{◌≡◌, ap, arith}
use Rattle.ang_meaning.specs.World.{with_inputs}
use Rattle.ang_meaning.specs.Results.{give_some}
use Rattle.ang_heap.specs.Stores.{world_of}
use Rattle.ang_heap.proofs.Storing.{moves_none}
use Rattle.ang_vm_stack.specs.Stacks.{values}
use Rattle.ang_vm_steps.proofs.Placed.{some_nothing}
use Rattle.ang_vm_steps.proofs.many.give_top_in_line.Goals as goal
use Rattle.ang_vm_steps.proofs.many.give_top_in_line.Goals.{then-count-eq0-via-then-count-eq0, then-count-eq0-via-else-count-eq0+then-nothing_lives}

pub returns-then-count-eq0 : goal.returns-then-count-eq0
returns-then-count-eq0 g c =
    let w = world_of (λ v. (g.dyn-1.0.entry v).1) c.args.store.now in
    let vs = values c.args.stack.now c.args.top in
    record {
      given = λ is. elim c.then-count-eq0.branch [
        | then-count-eq0-via-then-count-eq0 b ↦ let none : c.args.count ≡ 0 = omega (arith, b.if-count-eq0.true) in ap (λ n. give_some n vs (with_inputs is w)) none
        | then-count-eq0-via-else-count-eq0+then-nothing_lives b ↦ some_nothing c.args.count vs (with_inputs is w) (λ v. b.nothing_lives.ensures.nothing b.if-nothing_lives.true v is)
      ];
      moves = λ roles. moves_none _ roles _;
    }
