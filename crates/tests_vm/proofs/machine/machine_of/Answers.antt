use Rattle.std.proofs.Common.{sym, ap, length, false, []}
use Rattle.std.specs.Prelude.{map as list_map}
use Rattle.ang_host.specs.Logs.{listed_in, log_len, log_capacity}
use Rattle.ang_host.specs.Boxes.{members}
use Rattle.ang_host.specs.Members.{states_of}
use Rattle.ang_meaning.specs.Counting.{counts_by}
use Rattle.ang_meaning.proofs.Roots.{nothing_counted}
use Rattle.ang_heap.specs.Heaps.{objects_of}
use Rattle.ang_heap.specs.Parts.{world_by}
use Rattle.ang_heap.proofs.Giving.{no_bounds}
use Rattle.tests_vm.proofs.Ready.{ready_fresh, live_fresh, no_counts, empty_globals}
use Rattle.tests_vm.proofs.machine.machine_of.Goals as goal

pub returns : goal.returns
returns g c = record {
  rest = λ events room.
      let ss = states_of (λ v. (g.dyn-1.0.entry v).1) (members c.args.drivers) in
      record {
        ready = record {
          kept = record {
            drivers = ready_fresh ss (log_len c.new-ends.result) (log_capacity c.new-ends.result) c.requires.fresh (ap length c.new-ends.ensures.empty);
            alive = sym (live_fresh ss c.requires.fresh);
            none = c.new-ends.ensures.empty;
            due = λ e. absurd (let x : ⊥ = cc in x);
            tallied = c.new-heap.ensures.counted;
          };
          room = room;
        };
        counted = nothing_counted
            (world_by (objects_of c.new-heap.result) (counts_by ss) (list_map (λ b. b.value.items) c.args.modules.items) (listed_in events) (log_len events) false no_bounds [])
            c.new-heap.ensures.empty (no_counts ss c.requires.fresh) (λ x. empty_globals x c.args.modules.items c.requires.empty);
      };
}
