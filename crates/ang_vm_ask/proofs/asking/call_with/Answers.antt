use Rattle.std.proofs.Common.{◌+◌, ◌++◌, ◌∷◌, [], refl, ap, ◌∙◌, arith}
use Rattle.ang_host.specs.Logs.{listed_in, log_len}
use Rattle.ang_host.specs.declared.answer.HostReply.TheVariants.{Asking}
use Rattle.ang_host.specs.declared.event.HostEvent.TheVariants.{Called}
use Rattle.ang_host.specs.Boxes.{members}
use Rattle.ang_meaning.proofs.Telling.{told_then}
use Rattle.ang_heap.specs.Parts.{counts_of}
use Rattle.ang_heap.specs.Stores.{world_of}
use Rattle.ang_heap.proofs.Hosting.{answer_counts}
use Rattle.ang_vm_ask.proofs.Asks.{refused, told_by, call_allowed, by_calling, listed_by}
use Rattle.ang_vm_ask.proofs.Moved.{refused_asked, asked_then, moved_asked, answered_asked}
use Rattle.ang_vm_ask.proofs.asking.call_with.Goals as goal

pub returns-in_default-clause-told : goal.returns-in_default-clause-told
returns-in_default-clause-told g c = λ z m sees.
    let host = c.args.host.now in
    refused z m c.args.caller.now c.args.entity host sees c.args.object c.args.args.now host.result (world_of (λ v. (g.dyn-1.0.entry v).1) c.args.store.now) _ _ c.room_for_call.ensures.events (ap (λ n. n + c.args.store.now.live) c.room_for_call.ensures.len)

pub returns-clause-told : goal.returns-clause-told
returns-clause-told g c = λ z m sees.
    let host = c.args.host.now in
    let reply = Asking c.call_listed-answer.result in
    told_then
    (told_by z m c.args.caller.now c.args.entity host sees c.args.object c.args.args.now host.result reply (world_of (λ v. (g.dyn-1.0.entry v).1) c.args.store.now)
    (counts_of (λ v. (g.dyn-1.0.entry v).1) (members c.call_listed-answer.new.drivers)) (listed_in c.call_listed-answer.new.events)
    (log_len c.call_listed-answer.new.events + c.args.store.now.live) (call_allowed host.role c.args.number (world_of (λ v. (g.dyn-1.0.entry v).1) c.args.store.now) c.requires.role (omega (arith, c.room_for_call.ensures.len, c.in-Ok.ensures.within)))
    (by_calling host.role c.args.number c.call_listed-answer.result c.requires.role)
    (answer_counts _ _ _ _ _ _ _ _ c.call_listed-answer.ensures.moved)
    (listed_by _ _ _ _ c.args.entity host.driver c.args.object _ _ reply c.call_listed-answer.ensures.listed c.room_for_call.ensures.events refl) (omega (arith, c.call_listed-answer.ensures.len, c.room_for_call.ensures.len)))
    c.take_answer.ensures.told

pub returns-clause-asked : goal.returns-clause-asked
returns-clause-asked g c =
    let host = c.args.host.now in
    let event = Called c.args.caller.now c.args.entity host.driver c.args.object c.args.args.now (Asking c.call_listed-answer.result) in
    let all = answered_asked (λ v. (g.dyn-1.0.entry v).1) c.args.entity host.role c.args.store.now c.call_listed-answer.new.drivers c.call_listed-answer.new.events event host.driver _
    (c.call_listed-answer.ensures.listed ∙ ap (λ es. es ++ event ∷ []) c.room_for_call.ensures.events) (λ roles h. c.call_listed-answer.ensures.follow roles (h ∙ c.requires.role))
    c.call_listed-answer.result c.call_listed-answer.ensures.moved (omega (arith, c.call_listed-answer.ensures.len, c.call_listed-answer.ensures.capacity, c.in-Ok.ensures.room))
    (c.call_listed-answer.ensures.heard ∙ c.room_for_call.ensures.heard) (omega (arith, c.call_listed-answer.ensures.len, c.in-Ok.ensures.within)) in
    asked_then (λ v. (g.dyn-1.0.entry v).1) c.args.entity host.role _ _ _ all (moved_asked (λ v. (g.dyn-1.0.entry v).1) c.args.entity host.role _ _ c.take_answer.ensures.moves)

pub returns-in_default-clause-asked : goal.returns-in_default-clause-asked
returns-in_default-clause-asked g c =
    refused_asked (λ v. (g.dyn-1.0.entry v).1) c.args.entity c.args.host.now.role c.args.store.now c.room_for_call.new.events c.args.store.now.ends c.room_for_call.ensures.events c.room_for_call.ensures.len c.room_for_call.ensures.capacity c.room_for_call.ensures.heard refl refl (omega arith)
