use Rattle.std.proofs.Common.{◌+◌, ◌++◌, ◌∷◌, [], None, refl, sym, ap, subst, ◌∙◌, arith}
use Rattle.ang_host.specs.Logs.{listed_in, log_len}
use Rattle.ang_host.specs.declared.answer.HostReply.TheVariants.{Making}
use Rattle.ang_host.specs.declared.event.HostEvent.TheVariants.{Called}
use Rattle.ang_host.specs.Boxes.{members}
use Rattle.ang_meaning.specs.Counting.{EnoughIn, CanGive}
use Rattle.ang_meaning.specs.World.{with_inputs}
use Rattle.ang_meaning.proofs.Telling.{told_same, told_then}
use Rattle.ang_heap.specs.Heaps.{objects_of}
use Rattle.ang_heap.specs.Parts.{counts_of}
use Rattle.ang_heap.specs.Stores.{world_of}
use Rattle.ang_heap.proofs.Hosting.{made_counts}
use Rattle.ang_vm_ask.specs.Askings.{StoreAsked}
use Rattle.ang_vm_stack.specs.Arms.{done}
use Rattle.ang_vm_ask.specs.Replies.{with_result, made_as, objects_made}
use Rattle.ang_vm_ask.proofs.Asks.{refused, made_told, making_allowed, by_making, listed_by, made_can}
use Rattle.ang_vm_ask.proofs.Moved.{refused_asked, made_asked}
use Rattle.ang_vm_ask.proofs.asking.make_with.Goals as goal

pub returns-then-store-clause-told : goal.returns-then-store-clause-told
returns-then-store-clause-told g c = λ z m sees.
    let host = c.args.host.now in
    refused z m c.args.caller.now c.args.entity host sees None c.args.args.now host.result (world_of (λ v. (g.dyn-1.0.entry v).1) c.args.store.now) _ _ refl refl

pub returns-in_default-clause-told : goal.returns-in_default-clause-told
returns-in_default-clause-told g c = λ z m sees.
    let host = c.args.host.now in
    refused z m c.args.caller.now c.args.entity host sees None c.args.args.now host.result (world_of (λ v. (g.dyn-1.0.entry v).1) c.args.store.now) _ _ c.room_for_call.ensures.events (ap (λ n. n + c.args.store.now.live) c.room_for_call.ensures.len)

pub returns-in_default-room_for_ends-clause-told : goal.returns-in_default-room_for_ends-clause-told
returns-in_default-room_for_ends-clause-told g c = λ z m sees.
    let host = c.args.host.now in
    refused z m c.args.caller.now c.args.entity host sees None c.args.args.now host.result (world_of (λ v. (g.dyn-1.0.entry v).1) c.args.store.now) _ _ c.room_for_call.ensures.events (ap (λ n. n + c.args.store.now.live) c.room_for_call.ensures.len)

pub returns-clause-told : goal.returns-clause-told
returns-clause-told g c = λ z m sees.
    let host = c.args.host.now in
    let made = c.make_listed-answer.result in
    told_then
    (made_told z m c.args.caller.now c.args.entity host sees None c.args.args.now host.result made (world_of (λ v. (g.dyn-1.0.entry v).1) c.args.store.now)
    (counts_of (λ v. (g.dyn-1.0.entry v).1) (members c.make_listed-answer.new.drivers)) (listed_in c.make_listed-answer.new.events)
    (log_len c.make_listed-answer.new.events + (c.args.store.now.live + objects_made made))
    (making_allowed host.role c.args.number (world_of (λ v. (g.dyn-1.0.entry v).1) c.args.store.now) c.requires.role (omega (arith, c.if-store.false)) (omega (arith, c.room_for_call.ensures.len, c.in-Ok.ensures.within)))
    (by_making host.role c.args.number made c.requires.role)
    (made_counts _ _ _ _ _ _ _ made c.make_listed-answer.ensures.moved)
    (listed_by _ _ _ _ c.args.entity host.driver None _ _ (Making made) c.make_listed-answer.ensures.listed c.room_for_call.ensures.events refl)
    (omega (arith, c.make_listed-answer.ensures.len, c.room_for_call.ensures.len)))
    (told_same (λ is. (λ j. done ((sym c.take_made.ensures.exact) j) (with_inputs is (world_of (λ v. (g.dyn-1.0.entry v).1) ((sym c.take_made.ensures.live) j))))))

pub returns-clause-enough : goal.returns-clause-enough
returns-clause-enough g c = λ vs p.
    let host = c.args.host.now in
    let made = c.make_listed-answer.result in
    let os = objects_of c.args.store.now.heap in
    let counts = made_counts _ _ _ _ _ _ _ made c.make_listed-answer.ensures.moved in
    let here = subst (λ hs. EnoughIn (with_result (made_as host.driver made) vs) os hs) (sym counts) (made_can host.driver made vs (world_of (λ v. (g.dyn-1.0.entry v).1) c.args.store.now) p) in
    let given = subst (λ r. EnoughIn (with_result r vs) os (counts_of (λ v. (g.dyn-1.0.entry v).1) (members c.make_listed-answer.new.drivers))) (sym c.take_made.ensures.exact) here in
    subst (λ t. CanGive (with_result c.take_made.result vs) (world_of (λ v. (g.dyn-1.0.entry v).1) t)) (sym c.take_made.ensures.live) given

pub returns-clause-asked : goal.returns-clause-asked
returns-clause-asked g c =
    let host = c.args.host.now in
    let made = c.make_listed-answer.result in
    let event = Called c.args.caller.now c.args.entity host.driver None c.args.args.now (Making made) in
    subst (StoreAsked (λ v. (g.dyn-1.0.entry v).1) c.args.entity host.role c.args.store.now) (sym c.take_made.ensures.live)
    (made_asked (λ v. (g.dyn-1.0.entry v).1) c.args.entity host.role c.args.store.now c.make_listed-answer.new.drivers c.make_listed-answer.new.events event host.driver _
    (c.make_listed-answer.ensures.listed ∙ ap (λ es. es ++ event ∷ []) c.room_for_call.ensures.events) (λ roles h. c.make_listed-answer.ensures.follow roles (h ∙ c.requires.role))
    c.room_for_ends.new.ends made c.make_listed-answer.ensures.moved
    (omega (arith, c.make_listed-answer.ensures.len, c.make_listed-answer.ensures.capacity, c.in-Ok.ensures.room))
    (c.make_listed-answer.ensures.heard ∙ c.room_for_call.ensures.heard)
    (omega (arith, c.make_listed-answer.ensures.len, c.in-Ok.ensures.within)) (omega (arith, c.if-store.false))
    c.room_for_ends.ensures.events (omega (arith, c.in-Ok-room_for_ends.ensures.room)))

pub returns-in_default-clause-asked : goal.returns-in_default-clause-asked
returns-in_default-clause-asked g c =
    refused_asked (λ v. (g.dyn-1.0.entry v).1) c.args.entity c.args.host.now.role c.args.store.now c.room_for_call.new.events c.args.store.now.ends c.room_for_call.ensures.events c.room_for_call.ensures.len c.room_for_call.ensures.capacity c.room_for_call.ensures.heard refl refl (omega arith)

pub returns-in_default-room_for_ends-clause-asked : goal.returns-in_default-room_for_ends-clause-asked
returns-in_default-room_for_ends-clause-asked g c =
    refused_asked (λ v. (g.dyn-1.0.entry v).1) c.args.entity c.args.host.now.role c.args.store.now c.room_for_call.new.events c.room_for_ends.new.ends c.room_for_call.ensures.events c.room_for_call.ensures.len c.room_for_call.ensures.capacity c.room_for_call.ensures.heard c.room_for_ends.ensures.events c.room_for_ends.ensures.len c.room_for_ends.ensures.capacity
