use Rattle.std.proofs.Common.{length, sym, ap}
use Rattle.std.specs.Prelude.{map as list_map}
use Rattle.ang_host.specs.Logs.{listed_in, log_len, log_capacity}
use Rattle.ang_host.specs.Boxes.{members}
use Rattle.ang_host.specs.Members.{states_of}
use Rattle.ang_heap.specs.Heaps.{objects_of}
use Rattle.ang_heap.specs.Stores.{bounds_of}
use Rattle.ang_engine.proofs.States.{live_fresh}
use Rattle.ang_engine.proofs.Beginning.{fresh_world, fresh_counted, room_fresh}
use Rattle.ang_engine.proofs.Limiting.{limits_same}
use Rattle.ang_engine.proofs.engine.machine_of.Goals as goal

pub returns-clause-world : goal.returns-clause-world
returns-clause-world g c =
    fresh_world (states_of (λ v. (g.dyn-1.0.entry v).1) (members c.args.drivers)) (objects_of c.new-heap.result) (list_map (λ b. b.value.items) c.new-modules.result.items) (listed_in c.unheard.result) (bounds_of c.none.result)
    c.requires.fresh c.new-heap.ensures.empty (ap (λ vs. list_map (λ b. b.value.items) vs) c.new-modules.ensures.items) c.unheard.ensures.empty
    (ap bounds_of (limits_same c.none.result c.none.ensures.events c.none.ensures.slots c.none.ensures.objects))

pub returns-clause-kept : goal.returns-clause-kept
returns-clause-kept g c =
    let ss = states_of (λ v. (g.dyn-1.0.entry v).1) (members c.args.drivers) in
    record {
      drivers = room_fresh ss (log_len c.unheard-ends.result) (log_capacity c.unheard-ends.result) c.requires.fresh (ap length c.unheard-ends.ensures.empty);
      alive = sym (live_fresh ss c.requires.fresh);
      none = c.unheard-ends.ensures.empty;
      due = λ e. absurd (let x : ⊥ = cc in x);
      tallied = c.new-heap.ensures.counted;
    }

pub returns-clause-counted : goal.returns-clause-counted
returns-clause-counted g c =
    fresh_counted _
    (fresh_world (states_of (λ v. (g.dyn-1.0.entry v).1) (members c.args.drivers)) (objects_of c.new-heap.result) (list_map (λ b. b.value.items) c.new-modules.result.items) (listed_in c.unheard.result) (bounds_of c.none.result)
    c.requires.fresh c.new-heap.ensures.empty (ap (λ vs. list_map (λ b. b.value.items) vs) c.new-modules.ensures.items) c.unheard.ensures.empty
    (ap bounds_of (limits_same c.none.result c.none.ensures.events c.none.ensures.slots c.none.ensures.objects)))

pub returns-clause-limits : goal.returns-clause-limits
returns-clause-limits g c = limits_same c.none.result c.none.ensures.events c.none.ensures.slots c.none.ensures.objects
