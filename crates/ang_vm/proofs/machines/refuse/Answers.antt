use Rattle.std.proofs.Common.{length, refl, sym, ap, ◌∙◌, subst}
use Rattle.std.specs.Prelude.{reverse}
use Rattle.ang_meaning.specs.World.{with_inputs, give_all}
use Rattle.ang_meaning.specs.Counting.{CanGive}
use Rattle.ang_heap.specs.Stores.{world_of}
use Rattle.ang_vm.proofs.Running.{all_values, no_memory}
use Rattle.ang_vm.proofs.machines.refuse.Goals as goal

pub give_all_in_use-requires-clause-enough : goal.give_all_in_use-requires-clause-enough
give_all_in_use-requires-clause-enough g c =
    subst (λ l. CanGive l (world_of (λ v. (g.dyn-1.0.entry v).1) c.args.store.now)) (sym (all_values c.args.args.now (length c.args.args.now) refl)) c.requires.held

pub returns-clause-ends : goal.returns-clause-ends
returns-clause-ends g c = λ z code entry.
    let w = (world_of (λ v. (g.dyn-1.0.entry v).1) c.args.store.now) in
    no_memory z code entry (reverse c.args.args.now) c.args.budget c.no_room.result w (world_of (λ v. (g.dyn-1.0.entry v).1) c.give_all_in_use.new.store) c.no_room.ensures.spent c.no_room.ensures.left
    (λ is. sym (ap (λ l. give_all l (with_inputs is w)) (all_values c.args.args.now (length c.args.args.now) refl)) ∙ c.give_all_in_use.ensures.given is)
