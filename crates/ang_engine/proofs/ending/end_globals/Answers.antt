use Rattle.std.proofs.Common.{◌≡◌, ◌+◌, ◌-◌, refl, ap, ◌∙◌, arith}
use Rattle.ang_host.specs.Logs.{listed_in, log_len}
use Rattle.ang_host.specs.Boxes.{members}
use Rattle.ang_heap.specs.Globals.{values_in}
use Rattle.ang_heap.specs.Heaps.{objects_of}
use Rattle.ang_heap.specs.Parts.{counts_of, world_by}
use Rattle.ang_heap.specs.Stores.{bounds_of}
use Rattle.ang_heap.proofs.Spending.{ran_out_along}
use Rattle.ang_engine.proofs.ending.end_globals.Goals as goal

pub returns-clause-ended : goal.returns-clause-ended
returns-clause-ended g c = λ is.
    let s = c.args.machine.now.store in
    let u = c.end_module.new in
    let left = s.live - (c.len.result - c.len-before.result) in
    let same : log_len c.args.events.now + s.live ≡ log_len u.events + left =
    omega (arith, c.requires.ready.kept.alive, c.end_module.ensures.level, c.end_module.ensures.fewer, c.len.ensures.exact, c.len-before.ensures.exact) in
    c.end_module.ensures.ended (log_len c.args.events.now + s.live) s.spent (bounds_of s.limits) is
    ∙ ap (λ n. world_by (objects_of u.heap) (counts_of (λ v. (g.dyn-1.0.entry v).1) (members u.drivers)) (values_in u.globals) (listed_in u.events) n s.spent (bounds_of s.limits) is) same

pub returns-clause-moves : goal.returns-clause-moves
returns-clause-moves g c = λ roles. record {
  parts = c.end_module.ensures.moves roles;
  ready = λ r. record {
    kept = record {
      drivers = record { sound = c.end_module.ensures.ready.sound; room = omega (arith, r.kept.drivers.room, c.end_module.ensures.fewer) };
      alive = omega (arith, r.kept.alive, c.end_module.ensures.level, c.end_module.ensures.fewer, c.len.ensures.exact, c.len-before.ensures.exact);
      none = r.kept.none;
      due = λ e. ran_out_along _ _ _ roles _ _ _ (c.end_module.ensures.moves roles).follow (r.kept.due e);
      tallied = c.end_module.ensures.counted r.kept.tallied;
    };
    room = omega (arith, r.kept.alive, r.room, c.end_module.ensures.level, c.end_module.ensures.fewer, c.end_module.ensures.capacity, c.end_module.ensures.ready.room, c.len.ensures.exact, c.len-before.ensures.exact);
  };
  heard = c.end_module.ensures.heard;
  limits = refl;
  within = λ r n k o a w. record {
    slots = omega (arith, w.slots, c.end_module.ensures.less);
    events = omega (arith, w.events, r.kept.alive, c.end_module.ensures.level, c.end_module.ensures.fewer, c.len.ensures.exact, c.len-before.ensures.exact);
    objects = omega (arith, w.objects);
  };
  made = λ n l h. h;
}
