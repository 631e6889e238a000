use Rattle.ang_heap.specs.Stores.{world_of}
use Rattle.ang_vm_ask.proofs.Live.{kept_can}
use Rattle.ang_vm_ask.proofs.operation.put.Goals as goal

pub returns-in-Ok-clause-enough : goal.returns-in-Ok-clause-enough
returns-in-Ok-clause-enough g c = λ vs p. kept_can c.write.result vs (world_of (λ v. (g.dyn-1.0.entry v).1) c.write.new.store) (c.write.ensures.enough vs p)
