use Rattle.std.proofs.Common.{ap, sym, ◌∙◌}
use Rattle.ang_meaning.specs.World.{give, with_inputs}
use Rattle.ang_meaning.proofs.Giving.{give_bits}
use Rattle.ang_heap.specs.Stores.{world_of}
use Rattle.ang_vm_steps.proofs.Placed.{top_there}
use Rattle.ang_vm_steps.proofs.many.give_last.Goals as goal

pub returns-in-Bits-clause-given : goal.returns-in-Bits-clause-given
returns-in-Bits-clause-given g c = λ is.
    ap (λ v. give v (with_inputs is (world_of (λ v. (g.dyn-1.0.entry v).1) c.args.store.now))) (sym (top_there c.args.stack.now c.args.top _ c.requires.in_use c.requires.within) ∙ c.in-Bits.is) ∙ give_bits _ _

pub returns-in-Script-clause-given : goal.returns-in-Script-clause-given
returns-in-Script-clause-given g c = λ is.
    ap (λ v. give v (with_inputs is (world_of (λ v. (g.dyn-1.0.entry v).1) c.args.store.now))) (sym (top_there c.args.stack.now c.args.top _ c.requires.in_use c.requires.within) ∙ c.in-Script.is) ∙ c.give.ensures.given is

pub returns-in-Host-clause-given : goal.returns-in-Host-clause-given
returns-in-Host-clause-given g c = λ is.
    ap (λ v. give v (with_inputs is (world_of (λ v. (g.dyn-1.0.entry v).1) c.args.store.now))) (sym (top_there c.args.stack.now c.args.top _ c.requires.in_use c.requires.within) ∙ c.in-Host.is) ∙ c.give-in-Host.ensures.given is
