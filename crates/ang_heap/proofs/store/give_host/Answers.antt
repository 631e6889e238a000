use Rattle.std.proofs.Common.{◌≡◌, ◌+◌, refl, ap, ◌∙◌, subst, arith}
use Rattle.std.specs.Prelude.{◌-◌}
use Rattle.ang_host.specs.Boxes.{members}
use Rattle.ang_heap.specs.Globals.{values_in}
use Rattle.ang_heap.specs.Heaps.{objects_of}
use Rattle.ang_heap.specs.Parts.{counts_of, world_by}
use Rattle.ang_heap.specs.Stores.{bounds_of}
use Rattle.ang_heap.proofs.Hosting.{one_if}
use Rattle.ang_heap.proofs.Spending.{ran_out_along}
use Rattle.ang_host.specs.Logs.{listed_in, log_len}
use Rattle.ang_heap.proofs.store.give_host.Goals as goal

pub release-requires-clause-ready : goal.release-requires-clause-ready
release-requires-clause-ready g c = record { sound = c.requires.ready.kept.drivers.sound; room = omega (arith, c.requires.ready.room, c.requires.ready.kept.alive) }

pub returns-then-release-clause-given : goal.returns-then-release-clause-given
returns-then-release-clause-given g c = λ is.
    let s = c.args.store.now in
    let ended = subst (λ b. log_len c.release.new.events ≡ log_len s.events + one_if b) c.if-release.true c.release.ensures.ended in
    let level : log_len s.events + s.live ≡ log_len c.release.new.events + (s.live - 1) =
    omega (arith, c.requires.ready.kept.alive, c.release.ensures.level, ended) in
    c.release.ensures.gives (objects_of s.heap) (values_in s.globals) (log_len s.events + s.live) s.spent (bounds_of s.limits) is
    ∙ ap (λ n. world_by (objects_of s.heap) (counts_of (λ v. (g.dyn-1.0.entry v).1) (members c.release.new.drivers)) (values_in s.globals) (listed_in c.release.new.events) n s.spent (bounds_of s.limits) is) level

pub returns-then-release-clause-moves : goal.returns-then-release-clause-moves
returns-then-release-clause-moves g c = λ roles. record {
  parts = c.release.ensures.moves roles;
  ready = λ r.
      let ended = subst (λ b. log_len c.release.new.events ≡ log_len c.args.store.now.events + one_if b) c.if-release.true c.release.ensures.ended in
      record {
        kept = record {
          drivers = record { sound = c.release.ensures.ready.sound; room = omega (arith, r.kept.drivers.room, c.release.ensures.fewer) };
          alive = omega (arith, r.kept.alive, c.release.ensures.level, ended);
          none = r.kept.none;
          due = λ e. ran_out_along _ _ _ roles _ _ _ (c.release.ensures.moves roles).follow (r.kept.due e);
          tallied = r.kept.tallied;
        };
        room = omega (arith, r.room, r.kept.alive, c.release.ensures.level, c.release.ensures.capacity, ended);
      };
  heard = c.release.ensures.heard;
  limits = refl;
  within = λ r n k o a w.
      let ended = subst (λ b. log_len c.release.new.events ≡ log_len c.args.store.now.events + one_if b) c.if-release.true c.release.ensures.ended in
      record { slots = w.slots; events = omega (arith, w.events, r.kept.alive, c.release.ensures.level, ended); objects = omega (arith, w.objects) };
  made = λ n l h. h;
}

pub returns-else-release-clause-given : goal.returns-else-release-clause-given
returns-else-release-clause-given g c = λ is.
    let s = c.args.store.now in
    let ended = subst (λ b. log_len c.release.new.events ≡ log_len s.events + one_if b) c.if-release.false c.release.ensures.ended in
    let level : log_len s.events + s.live ≡ log_len c.release.new.events + s.live =
    omega (arith, c.requires.ready.kept.alive, c.release.ensures.level, ended) in
    c.release.ensures.gives (objects_of s.heap) (values_in s.globals) (log_len s.events + s.live) s.spent (bounds_of s.limits) is
    ∙ ap (λ n. world_by (objects_of s.heap) (counts_of (λ v. (g.dyn-1.0.entry v).1) (members c.release.new.drivers)) (values_in s.globals) (listed_in c.release.new.events) n s.spent (bounds_of s.limits) is) level

pub returns-else-release-clause-moves : goal.returns-else-release-clause-moves
returns-else-release-clause-moves g c = λ roles. record {
  parts = c.release.ensures.moves roles;
  ready = λ r.
      let ended = subst (λ b. log_len c.release.new.events ≡ log_len c.args.store.now.events + one_if b) c.if-release.false c.release.ensures.ended in
      record {
        kept = record {
          drivers = record { sound = c.release.ensures.ready.sound; room = omega (arith, r.kept.drivers.room, c.release.ensures.fewer) };
          alive = omega (arith, r.kept.alive, c.release.ensures.level, ended);
          none = r.kept.none;
          due = λ e. ran_out_along _ _ _ roles _ _ _ (c.release.ensures.moves roles).follow (r.kept.due e);
          tallied = r.kept.tallied;
        };
        room = omega (arith, r.room, r.kept.alive, c.release.ensures.level, c.release.ensures.capacity, ended);
      };
  heard = c.release.ensures.heard;
  limits = refl;
  within = λ r n k o a w.
      let ended = subst (λ b. log_len c.release.new.events ≡ log_len c.args.store.now.events + one_if b) c.if-release.false c.release.ensures.ended in
      record { slots = w.slots; events = omega (arith, w.events, r.kept.alive, c.release.ensures.level, ended); objects = omega (arith, w.objects) };
  made = λ n l h. h;
}
