use Rattle.std.proofs.Common.{refl, subst, sym, ◌∙◌, Ok, Err}
use Rattle.ang_kinds.specs.declared.fault.Fault.TheVariants.{Host as HostFault, BadAnswer, Memory, Tally}
use Rattle.ang_host.specs.declared.answer.Answer.TheVariants.{Void, Fault as SaidFault, Memory as SaidMemory, Full}
use Rattle.ang_host.specs.Laws.{IsLiveAnswer}
use Rattle.ang_meaning.specs.declared.slot.Slot.TheVariants.{Bits}
use Rattle.ang_meaning.proofs.Telling.{told_same, told_then}
use Rattle.ang_heap.specs.Stores.{world_of}
use Rattle.ang_vm_ask.specs.Askings.{driver_state}
use Rattle.ang_vm_ask.proofs.Replying.{replied_as, void_fine, void_bad, said_fault, said_memory, said_full, gave}
use Rattle.ang_vm_ask.proofs.replies.take_answer.Goals as goal

pub take_value-requires-clause-live : goal.take_value-requires-clause-live
take_value-requires-clause-live g c =
    subst (IsLiveAnswer (driver_state (λ v. (g.dyn-1.0.entry v).1) c.args.store.now c.args.driver)) c.in-Gave.is c.requires.live

pub returns-then-is_void-clause-told : goal.returns-then-is_void-clause-told
returns-then-is_void-clause-told g c =
    replied_as c.args.driver c.args.of c.args.answer Void (Ok (Bits 0)) (world_of (λ v. (g.dyn-1.0.entry v).1) c.args.store.now) c.in-Void.is
    (void_fine c.args.driver c.args.of (sym c.is_void.ensures.exact ∙ c.if-is_void.true))

pub returns-else-is_void-clause-told : goal.returns-else-is_void-clause-told
returns-else-is_void-clause-told g c =
    replied_as c.args.driver c.args.of c.args.answer Void (Err BadAnswer) (world_of (λ v. (g.dyn-1.0.entry v).1) c.args.store.now) c.in-Void.is
    (void_bad c.args.driver c.args.of (sym c.is_void.ensures.exact ∙ c.if-is_void.false))

pub returns-in-Gave-clause-told : goal.returns-in-Gave-clause-told
returns-in-Gave-clause-told g c =
    told_then (told_same (λ is. gave c.args.driver c.args.of c.args.answer c.in-Gave.value _ _ c.in-Gave.is refl)) c.take_value.ensures.told

pub returns-in-Fault-clause-told : goal.returns-in-Fault-clause-told
returns-in-Fault-clause-told g c =
    replied_as c.args.driver c.args.of c.args.answer (SaidFault c.in-Fault.number) (Err (HostFault c.in-Fault.number)) (world_of (λ v. (g.dyn-1.0.entry v).1) c.args.store.now) c.in-Fault.is
    (said_fault c.args.driver c.args.of c.in-Fault.number)

pub returns-in-Memory-clause-told : goal.returns-in-Memory-clause-told
returns-in-Memory-clause-told g c =
    replied_as c.args.driver c.args.of c.args.answer SaidMemory (Err Memory) (world_of (λ v. (g.dyn-1.0.entry v).1) c.args.store.now) c.in-Memory.is
    (said_memory c.args.driver c.args.of)

pub returns-in-Full-clause-told : goal.returns-in-Full-clause-told
returns-in-Full-clause-told g c =
    replied_as c.args.driver c.args.of c.args.answer Full (Err Tally) (world_of (λ v. (g.dyn-1.0.entry v).1) c.args.store.now) c.in-Full.is
    (said_full c.args.driver c.args.of)
