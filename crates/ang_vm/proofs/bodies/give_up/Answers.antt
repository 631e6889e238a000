use Rattle.ang_heap.proofs.Storing.{moves_none}
use Rattle.ang_vm.proofs.bodies.give_up.Goals as goal

pub returns-in-Stuck-clause-moves : goal.returns-in-Stuck-clause-moves
returns-in-Stuck-clause-moves g c = λ roles. moves_none (λ v. (g.dyn-1.0.entry v).1) roles c.args.store.now
