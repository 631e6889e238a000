use Rattle.std.proofs.Common.{[], sym, subst, ◌∙◌}
use Rattle.ang_heap.specs.Stores.{world_of}
use Rattle.ang_meaning.proofs.Enough.{rest_enough, give_can}
use Rattle.ang_meaning.specs.Counting.{CanGive}
use Rattle.ang_meaning.specs.World.{with_inputs}
use Rattle.ang_vm_ask.proofs.Performing.{unchanged_told, never_of}
use Rattle.ang_vm_ask.proofs.Moved.{moved_asked}
use Rattle.ang_vm_ask.proofs.operation.put_changed.Goals as goal

pub returns-in-Ok-clause-enough : goal.returns-in-Ok-clause-enough
returns-in-Ok-clause-enough g c = λ vs p. c.put.ensures.enough vs (rest_enough c.args.old vs _ _ p)

pub returns-in-Err-clause-told : goal.returns-in-Err-clause-told
returns-in-Err-clause-told g c = λ z m r to sees is same.
    unchanged_told z m c.args.caller.now c.args.entity c.args.host.now sees r c.args.object is c.args.old to c.in-Err.fault (world_of (λ v. (g.dyn-1.0.entry v).1) c.args.store.now) (world_of (λ v. (g.dyn-1.0.entry v).1) c.give.new.store)
    (never_of to c.in-Err.fault (sym same ∙ c.in-Err.is)) c.give.ensures.given

pub returns-in-Err-clause-enough : goal.returns-in-Err-clause-enough
returns-in-Err-clause-enough g c = λ vs p. subst (CanGive vs) (c.give.ensures.given []) (give_can c.args.old vs (with_inputs [] (world_of (λ v. (g.dyn-1.0.entry v).1) c.args.store.now)) p)

pub returns-in-Err-clause-asked : goal.returns-in-Err-clause-asked
returns-in-Err-clause-asked g c = moved_asked (λ v. (g.dyn-1.0.entry v).1) c.args.entity c.args.host.now.role _ _ c.give.ensures.moves
