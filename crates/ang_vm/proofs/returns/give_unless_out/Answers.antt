use Rattle.std.proofs.Common.{ap, ◌∙◌}
use Rattle.ang_meaning.specs.World.{with_inputs}
use Rattle.ang_heap.specs.Stores.{world_of}
use Rattle.ang_heap.proofs.Storing.{moves_none}
use Rattle.ang_vm.specs.Legs.{given_by}
use Rattle.ang_vm.proofs.returns.give_unless_out.Goals as goal

pub returns-in-In : goal.returns-in-In
returns-in-In g c = record {
  given = λ is. ap (λ p. given_by p c.args.value (with_inputs is (world_of (λ v. (g.dyn-1.0.entry v).1) c.args.store.now))) c.in-In.is ∙ c.give.ensures.given is;
  moves = c.give.ensures.moves;
}

pub returns-in-Out : goal.returns-in-Out
returns-in-Out g c = record {
  given = λ is. ap (λ p. given_by p c.args.value (with_inputs is (world_of (λ v. (g.dyn-1.0.entry v).1) c.args.store.now))) c.in-Out.is;
  moves = λ roles. moves_none (λ v. (g.dyn-1.0.entry v).1) roles c.args.store.now;
}

pub returns-in-Object : goal.returns-in-Object
returns-in-Object g c = record {
  given = λ is. ap (λ p. given_by p c.args.value (with_inputs is (world_of (λ v. (g.dyn-1.0.entry v).1) c.args.store.now))) c.in-Object.is ∙ c.give-in-Object.ensures.given is;
  moves = c.give-in-Object.ensures.moves;
}
