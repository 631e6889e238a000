use Rattle.std.proofs.Common.{sym, ap, ◌∙◌, subst}
use Rattle.ang_meaning.specs.World.{with_inputs, give_all}
use Rattle.ang_meaning.specs.Counting.{CanGive}
use Rattle.ang_meaning.proofs.Telling.{told_same}
use Rattle.ang_code.specs.Machine.{Over, Finished}
use Rattle.ang_heap.specs.Stores.{world_of}
use Rattle.ang_vm_stack.specs.Stacks.{values}
use Rattle.ang_vm.proofs.bodies.finish.Goals as goal

pub returns-clause-told : goal.returns-clause-told
returns-clause-told g c =
    let w = (world_of (λ v. (g.dyn-1.0.entry v).1) c.args.store.now) in
    told_same (λ is. ap (λ u. Over (Finished c.args.parted.value c.args.ticks u)) (sym (ap (λ l. give_all (values l c.args.parted.kept) (with_inputs is w)) c.as_slice.ensures.value) ∙ c.give_all_in_use.ensures.given is))

pub give_all_in_use-requires-clause-enough : goal.give_all_in_use-requires-clause-enough
give_all_in_use-requires-clause-enough g c = subst (λ l. CanGive (values l c.args.parted.kept) (world_of (λ v. (g.dyn-1.0.entry v).1) c.args.store.now)) (sym c.as_slice.ensures.value) c.requires.held
