use Rattle.std.proofs.Common.{◌≡◌, ◌+◌, refl, ap, ◌∙◌, arith}
use Rattle.std.specs.Prelude.{◌-◌}
use Rattle.ang_host.specs.Logs.{listed_in, log_len}
use Rattle.ang_host.specs.Boxes.{members}
use Rattle.ang_heap.specs.Globals.{values_in}
use Rattle.ang_heap.specs.Heaps.{objects_of}
use Rattle.ang_heap.specs.Parts.{counts_of, world_by}
use Rattle.ang_heap.specs.Stores.{bounds_of}
use Rattle.ang_heap.proofs.Spending.{ran_out_along}
use Rattle.ang_heap.proofs.store.give_script.Goals as goal

pub give_up-requires-clause-ready : goal.give_up-requires-clause-ready
give_up-requires-clause-ready g c = record { sound = c.requires.ready.kept.drivers.sound; room = omega (arith, c.requires.ready.room, c.requires.ready.kept.alive) }

pub returns-clause-given : goal.returns-clause-given
returns-clause-given g c = λ is.
    let s = c.args.store.now in
    let level : log_len s.events + s.live ≡ log_len c.give_up.new.events + (s.live - (c.len.result - c.len-before.result)) =
    omega (arith, c.len.ensures.exact, c.len-before.ensures.exact, c.requires.ready.kept.alive, c.give_up.ensures.level, c.give_up.ensures.fewer) in
    c.give_up.ensures.gives (values_in s.globals) (log_len s.events + s.live) s.spent (bounds_of s.limits) is
    ∙ ap (λ n. world_by (objects_of c.give_up.new.self) (counts_of (λ v. (g.dyn-1.0.entry v).1) (members c.give_up.new.drivers)) (values_in s.globals) (listed_in c.give_up.new.events) n s.spent (bounds_of s.limits) is) level

pub returns-clause-moves : goal.returns-clause-moves
returns-clause-moves g c = λ roles. record {
  parts = c.give_up.ensures.moves roles;
  ready = λ r. record {
    kept = record {
      drivers = record { sound = c.give_up.ensures.ready.sound; room = omega (arith, r.kept.drivers.room, c.give_up.ensures.fewer) };
      alive = omega (arith, r.kept.alive, c.give_up.ensures.level, c.give_up.ensures.fewer);
      none = r.kept.none;
      due = λ e. ran_out_along _ _ _ roles _ _ _ (c.give_up.ensures.moves roles).follow (r.kept.due e);
      tallied = c.give_up.ensures.counted r.kept.tallied;
    };
    room = omega (arith, r.room, r.kept.alive, c.give_up.ensures.level, c.give_up.ensures.fewer, c.give_up.ensures.capacity);
  };
  heard = c.give_up.ensures.heard;
  limits = refl;
  within = λ r n k o a w. record {
    slots = omega (arith, w.slots, c.give_up.ensures.less);
    events = omega (arith, w.events, r.kept.alive, c.give_up.ensures.level, c.give_up.ensures.fewer);
    objects = omega (arith, w.objects);
  };
  made = λ n l h. h;
}
