use Rattle.std.proofs.Common.{[], true, false, cond, refl, sym, ap, append-nil, ◌+◌, ◌∙◌}
use Rattle.ang_host.specs.Logs.{listed_in, log_len}
use Rattle.ang_host.specs.Boxes.{members}
use Rattle.ang_host.specs.Members.{states_of}
use Rattle.ang_meaning.specs.World.{host_raised}
use Rattle.ang_heap.specs.Globals.{values_in}
use Rattle.ang_heap.specs.Heaps.{objects_of}
use Rattle.ang_meaning.proofs.Driving.{in_list_of}
use Rattle.ang_heap.specs.Parts.{counts_of}
use Rattle.ang_heap.specs.Stores.{bounds_of}
use Rattle.ang_heap.proofs.Spending.{ran_out_along, ran_out_at}
use Rattle.ang_heap.proofs.Storing.{host_hold}
use Rattle.ang_heap.proofs.store.hold_host.Goals as goal

pub returns-then-add-clause-told : goal.returns-then-add-clause-told
returns-then-add-clause-told g c =
    let s = c.args.store.now in
    host_hold (values_in s.globals) (listed_in s.events) (log_len s.events + s.live) s.spent (bounds_of s.limits) c.args.driver c.args.key true (objects_of s.heap) (counts_of (λ v. (g.dyn-1.0.entry v).1) (members s.drivers)) _
    (c.add.ensures.counts ∙ ap (λ b. cond b (host_raised c.args.driver c.args.key (counts_of (λ v. (g.dyn-1.0.entry v).1) (members s.drivers))) (counts_of (λ v. (g.dyn-1.0.entry v).1) (members s.drivers))) c.if-add.true)

pub returns-then-add-clause-moves : goal.returns-then-add-clause-moves
returns-then-add-clause-moves g c = λ roles. record {
  parts = record { more = []; events = sym (append-nil _); follow = c.add.ensures.follow roles };
  ready = λ r. record {
    kept = record {
      drivers = c.add.ensures.ready _ _ r.kept.drivers;
      alive = r.kept.alive ∙ sym c.add.ensures.live;
      none = r.kept.none;
      due = λ e. ran_out_along _ _ _ roles _ _ _ (c.add.ensures.follow roles) (r.kept.due e);
      tallied = r.kept.tallied;
    };
    room = r.room;
  };
  heard = refl;
  limits = refl;
  within = λ r n k o a w. record { slots = w.slots; events = w.events; objects = w.objects };
  made = λ n l h. h;
}

pub returns-clause-told : goal.returns-clause-told
returns-clause-told g c =
    let s = c.args.store.now in
    host_hold (values_in s.globals) (listed_in s.events) (log_len s.events + s.live) s.spent (bounds_of s.limits) c.args.driver c.args.key false (objects_of s.heap) (counts_of (λ v. (g.dyn-1.0.entry v).1) (members s.drivers)) _
    (c.add.ensures.counts ∙ ap (λ b. cond b (host_raised c.args.driver c.args.key (counts_of (λ v. (g.dyn-1.0.entry v).1) (members s.drivers))) (counts_of (λ v. (g.dyn-1.0.entry v).1) (members s.drivers))) c.if-add.false)

pub returns-clause-moves : goal.returns-clause-moves
returns-clause-moves g c = λ roles. record {
  parts = record { more = []; events = sym (append-nil _); follow = c.add.ensures.follow roles };
  ready = λ r. record {
    kept = record {
      drivers = c.add.ensures.ready _ _ r.kept.drivers;
      alive = r.kept.alive ∙ sym c.add.ensures.live;
      none = r.kept.none;
      due = λ e. ran_out_along _ _ _ roles _ _ _ (c.add.ensures.follow roles)
          (ran_out_at (states_of (λ v. (g.dyn-1.0.entry v).1) (members c.args.store.now.drivers)) c.args.driver
          (in_list_of (states_of (λ v. (g.dyn-1.0.entry v).1) (members c.args.store.now.drivers)) c.args.driver c.args.key c.requires.held)
          (c.add.ensures.full c.if-add.false));
      tallied = r.kept.tallied;
    };
    room = r.room;
  };
  heard = refl;
  limits = refl;
  within = λ r n k o a w. record { slots = w.slots; events = w.events; objects = w.objects };
  made = λ n l h. h;
}
