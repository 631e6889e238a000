use Rattle.std.proofs.Common.{Some, sym, ap, ◌∙◌}
use Rattle.ang_meaning.specs.declared.slot.Slot.TheVariants.{Script, Host}
use Rattle.ang_meaning.specs.World.{give, with_inputs}
use Rattle.ang_meaning.proofs.Giving.{give_bits, give_null, give_no_key, give_kept}
use Rattle.ang_heap.specs.Heaps.{objects_in}
use Rattle.ang_heap.specs.Stores.{world_of}
use Rattle.ang_heap.proofs.Storing.{moves_objects, moves_join}
use Rattle.ang_heap.proofs.store.give.Goals as goal

pub returns-in-Bits-clause-given : goal.returns-in-Bits-clause-given
returns-in-Bits-clause-given g c = λ is.
    ap (λ v. give v (with_inputs is (world_of (λ v. (g.dyn-1.0.entry v).1) c.args.store.now))) c.in-Bits.is ∙ give_bits _ _

pub returns-in-None-clause-given : goal.returns-in-None-clause-given
returns-in-None-clause-given g c = λ is.
    ap (λ v. give v (with_inputs is (world_of (λ v. (g.dyn-1.0.entry v).1) c.args.store.now))) (c.in-Script.is ∙ ap Script c.in-None.is) ∙ give_null _

-- others hold the object as well
pub returns-else-not-lower_shared-clause-given : goal.returns-else-not-lower_shared-clause-given
returns-else-not-lower_shared-clause-given g c = λ is.
    let w = with_inputs is (world_of (λ v. (g.dyn-1.0.entry v).1) c.args.store.now) in
    ap (λ v. give v w) (c.in-Script.is ∙ ap Script c.in-Some.is)
    ∙ give_kept c.in-Some.number (objects_in c.lower_shared.new.records) w (c.lower_shared.ensures.lowered c.if-not-lower_shared.false)

-- its script objects are as they were
pub returns-then-not-lower_shared-clause-given : goal.returns-then-not-lower_shared-clause-given
returns-then-not-lower_shared-clause-given g c = λ is.
    let s = c.args.store.now in
    ap (λ v. give v (with_inputs is (world_of (λ v. (g.dyn-1.0.entry v).1) s))) (c.in-Script.is ∙ ap Script c.in-Some.is)
    ∙ ap (λ r. give (Script (Some c.in-Some.number)) (with_inputs is (world_of (λ v. (g.dyn-1.0.entry v).1) (record s { heap = record s.heap { records = r } })))) (sym (c.lower_shared.ensures.same c.if-not-lower_shared.true))
    ∙ c.give_script.ensures.given is

pub returns-then-not-lower_shared-clause-moves : goal.returns-then-not-lower_shared-clause-moves
returns-then-not-lower_shared-clause-moves g c = λ roles.
    let s = c.args.store.now in
    let h = record s.heap { records = c.lower_shared.new.records } in
    moves_join _ roles s (record s { heap = h }) c.give_script.new.store (moves_objects _ roles s h (λ e. e ∙ sym c.lower_shared.ensures.slots) (λ n a b. a)) (c.give_script.ensures.moves roles)

-- a host object
pub returns-in-Some-named-clause-given : goal.returns-in-Some-named-clause-given
returns-in-Some-named-clause-given g c = λ is.
    ap (λ v. give v (with_inputs is (world_of (λ v. (g.dyn-1.0.entry v).1) c.args.store.now))) (c.in-Host.is ∙ ap (λ o. Host c.in-Host.driver o) c.in-Some-named.is)
    ∙ c.give_host.ensures.given is

pub returns-in-None-named-clause-given : goal.returns-in-None-named-clause-given
returns-in-None-named-clause-given g c = λ is.
    ap (λ v. give v (with_inputs is (world_of (λ v. (g.dyn-1.0.entry v).1) c.args.store.now))) (c.in-Host.is ∙ ap (λ o. Host c.in-Host.driver o) c.in-None-named.is)
    ∙ give_no_key _ _

pub returns-else-not-lower_shared-clause-moves : goal.returns-else-not-lower_shared-clause-moves
returns-else-not-lower_shared-clause-moves g c = λ roles.
    let s = c.args.store.now in
    moves_objects _ roles s (record s.heap { records = c.lower_shared.new.records }) (λ e. e ∙ sym c.lower_shared.ensures.slots) (λ n a b. a)
