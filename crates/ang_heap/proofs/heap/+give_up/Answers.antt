use Rattle.std.proofs.Common.{◌≡◌, ◌+◌, ◌∷◌, [], false, Some, None, drop, refl, ap, subst, ◌∙◌, arith, sym}
use Rattle.ang_host.specs.Logs.{listed_in}
use Rattle.ang_host.specs.Boxes.{members}
use Rattle.ang_meaning.specs.declared.slot.Slot.TheVariants.{Script, Host}
use Rattle.ang_meaning.specs.World.{give}
use Rattle.ang_heap.specs.Parts.{counts_of, world_by}
use Rattle.ang_heap.specs.Heaps.{objects_in}
use Rattle.ang_meaning.specs.Counting.{EnoughIn}
use Rattle.ang_meaning.proofs.Giving.{give_bits, give_null, give_no_key, give_kept, give_gone}
use Rattle.ang_heap.proofs.Hosting.{parts_none, parts_join}
use Rattle.ang_heap.proofs.Giving.{no_bounds, fields_enough, taken, turn_gives, turn_can, all_given}
use Rattle.ang_meaning.proofs.Slots.{gone_slots, kept_slots}
use Rattle.ang_heap.proofs.heap.+give_up.Goals as goal

pub loop-i-init : goal.loop-i-init
loop-i-init g t c =
    let is_script : c.args.value ≡ Script (Some c.in-Some-handle.number) = c.in-Script.is ∙ ap Script c.in-Some-handle.is in
    let enough : EnoughIn (Script (Some c.in-Some-handle.number) ∷ []) (objects_in c.args.records.now) (counts_of (λ v. (g.dyn-1.0.entry v).1) (members c.args.drivers.now)) =
    subst (λ v. EnoughIn (v ∷ []) (objects_in c.args.records.now) (counts_of (λ v. (g.dyn-1.0.entry v).1) (members c.args.drivers.now))) is_script c.requires.enough in
    record {
      gives = λ gs n sp b is. refl;
      enough = fields_enough c.in-Some-handle.number c.in-Some-lower.object.fields.items (objects_in c.args.records.now) (objects_in c.lower.new.records) _ c.in-Some-lower.ensures.gone enough;
      ready = c.requires.ready;
      capacity = refl;
      heard = refl;
      fewer = omega arith;
      level = refl;
      shorter = omega arith;
      counted = λ e. e;
      less = omega arith;
      moves = λ roles. parts_none _ roles _ _;
    }

pub loop-i-preserved : goal.loop-i-preserved
loop-i-preserved g t c =
    let fs = c.in-Some-lower.object.fields.items in
    let e : drop c.loop-i.i fs ≡ c.index.result.now ∷ drop (c.loop-i.i + 1) fs = taken fs c.loop-i.i c.index.result.now (omega (arith, c.loop-i-test.true, c.len-i-end.ensures)) c.index.ensures in
    record {
      gives = λ gs n sp b is. turn_gives fs c.loop-i.i c.index.result.now _ _ _ e (c.loop-i.invariant.gives gs n sp b is) (c.give_up.ensures.gives gs n sp b is);
      enough = turn_can fs c.loop-i.i c.index.result.now
          (world_by (objects_in c.loop-i.records) (counts_of (λ v. (g.dyn-1.0.entry v).1) (members c.loop-i.drivers)) [] (listed_in c.loop-i.events) 0 false no_bounds [])
          (world_by (objects_in c.give_up.new.records) (counts_of (λ v. (g.dyn-1.0.entry v).1) (members c.give_up.new.drivers)) [] (listed_in c.give_up.new.events) 0 false no_bounds [])
          e c.loop-i.invariant.enough (c.give_up.ensures.gives [] 0 false no_bounds []);
      ready = c.give_up.ensures.ready;
      capacity = c.give_up.ensures.capacity ∙ c.loop-i.invariant.capacity;
      heard = c.give_up.ensures.heard ∙ c.loop-i.invariant.heard;
      fewer = omega (arith, c.give_up.ensures.fewer, c.loop-i.invariant.fewer);
      level = c.give_up.ensures.level ∙ c.loop-i.invariant.level;
      shorter = omega (arith, c.give_up.ensures.shorter, c.loop-i.invariant.shorter);
      counted = λ e. c.give_up.ensures.counted (c.loop-i.invariant.counted e);
      less = omega (arith, c.give_up.ensures.less, c.loop-i.invariant.less);
      moves = λ roles. parts_join _ roles _ _ _ _ _ _ (c.loop-i.invariant.moves roles) (c.give_up.ensures.moves roles);
    }

pub returns-in-Some-clause-gives : goal.returns-in-Some-clause-gives
returns-in-Some-clause-gives g t c = λ gs n sp b is.
    let is_host : c.args.value ≡ Host c.in-Host.driver (Some c.in-Some.key) = c.in-Host.is ∙ ap (λ o. Host c.in-Host.driver o) c.in-Some.is in
    ap (λ v. give v (world_by (objects_in c.args.records.now) (counts_of (λ v. (g.dyn-1.0.entry v).1) (members c.args.drivers.now)) gs (listed_in c.args.events.now) n sp b is)) is_host
    ∙ c.release.ensures.gives (objects_in c.args.records.now) gs n sp b is

pub returns-after-loop-i-clause-gives : goal.returns-after-loop-i-clause-gives
returns-after-loop-i-clause-gives g t c = λ gs n sp b is.
    let w = world_by (objects_in c.args.records.now) (counts_of (λ v. (g.dyn-1.0.entry v).1) (members c.args.drivers.now)) gs (listed_in c.args.events.now) n sp b is in
    let is_script : c.args.value ≡ Script (Some c.in-Some-handle.number) = c.in-Script.is ∙ ap Script c.in-Some-handle.is in
    ap (λ v. give v w) is_script
    ∙ give_gone c.in-Some-handle.number c.in-Some-lower.object.fields.items (objects_in c.lower.new.records) w c.in-Some-lower.ensures.gone
    ∙ c.loop-i.invariant.gives gs n sp b is
    ∙ all_given c.in-Some-lower.object.fields.items c.loop-i.i _ (omega (arith, c.loop-i-test.false, c.len-i-end.ensures))

pub returns-in_default-clause-gives : goal.returns-in_default-clause-gives
returns-in_default-clause-gives g t c = λ gs n sp b is.
    let is_script : c.args.value ≡ Script (Some c.in-Some-handle.number) = c.in-Script.is ∙ ap Script c.in-Some-handle.is in
    ap (λ v. give v (world_by (objects_in c.args.records.now) (counts_of (λ v. (g.dyn-1.0.entry v).1) (members c.args.drivers.now)) gs (listed_in c.args.events.now) n sp b is)) is_script
    ∙ give_kept c.in-Some-handle.number (objects_in c.lower.new.records) (world_by (objects_in c.args.records.now) (counts_of (λ v. (g.dyn-1.0.entry v).1) (members c.args.drivers.now)) gs (listed_in c.args.events.now) n sp b is) c.in_default.ensures.kept

pub returns-in_default-clause-moves : goal.returns-in_default-clause-moves
returns-in_default-clause-moves g t c = λ roles. parts_none _ roles _ _

pub returns-in-Bits-clause-gives : goal.returns-in-Bits-clause-gives
returns-in-Bits-clause-gives g t c = λ gs n sp b is. ap (λ v. give v (world_by (objects_in c.args.records.now) (counts_of (λ v. (g.dyn-1.0.entry v).1) (members c.args.drivers.now)) gs (listed_in c.args.events.now) n sp b is)) c.in-Bits.is ∙ give_bits _ _

pub returns-in-Bits-clause-moves : goal.returns-in-Bits-clause-moves
returns-in-Bits-clause-moves g t c = λ roles. parts_none _ roles _ _

pub returns-in-None-handle-clause-gives : goal.returns-in-None-handle-clause-gives
returns-in-None-handle-clause-gives g t c = λ gs n sp b is.
    let is_null : c.args.value ≡ Script None = c.in-Script.is ∙ ap Script c.in-None-handle.is in
    ap (λ v. give v (world_by (objects_in c.args.records.now) (counts_of (λ v. (g.dyn-1.0.entry v).1) (members c.args.drivers.now)) gs (listed_in c.args.events.now) n sp b is)) is_null ∙ give_null _

pub returns-in-None-handle-clause-moves : goal.returns-in-None-handle-clause-moves
returns-in-None-handle-clause-moves g t c = λ roles. parts_none _ roles _ _

pub returns-in-None-clause-gives : goal.returns-in-None-clause-gives
returns-in-None-clause-gives g t c = λ gs n sp b is.
    let is_no_key : c.args.value ≡ Host c.in-Host.driver None = c.in-Host.is ∙ ap (λ o. Host c.in-Host.driver o) c.in-None.is in
    ap (λ v. give v (world_by (objects_in c.args.records.now) (counts_of (λ v. (g.dyn-1.0.entry v).1) (members c.args.drivers.now)) gs (listed_in c.args.events.now) n sp b is)) is_no_key ∙ give_no_key _ _

pub returns-in-None-clause-moves : goal.returns-in-None-clause-moves
returns-in-None-clause-moves g t c = λ roles. parts_none _ roles _ _

pub returns-in_default-clause-counted : goal.returns-in_default-clause-counted
returns-in_default-clause-counted g t c = λ e. e ∙ sym (kept_slots c.in-Some-handle.number (objects_in c.args.records.now) (objects_in c.lower.new.records) c.in_default.ensures.kept)

pub returns-after-loop-i-clause-counted : goal.returns-after-loop-i-clause-counted
returns-after-loop-i-clause-counted g t c = λ e.
    let gone = gone_slots c.in-Some-handle.number c.in-Some-lower.object.fields.items (objects_in c.args.records.now) (objects_in c.lower.new.records) c.in-Some-lower.ensures.gone in
    c.loop-i.invariant.counted (omega (arith, e, gone, c.saturating_sub.ensures, c.len.ensures, c.saturating_sub-in-Some-lower.ensures))
