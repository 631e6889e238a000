use Rattle.std.proofs.Common.{◌≡◌, ◌≤◌, [], length, refl, sym, ap, subst}
use Rattle.ang_host.specs.Boxes.{members}
use Rattle.ang_meaning.specs.Counting.{IsCounted}
use Rattle.ang_heap.specs.Globals.{values_in}
use Rattle.ang_heap.specs.Stores.{world_of}
use Rattle.ang_engine_modules.specs.Sound.{HaveGlobals}
use Rattle.ang_engine_modules.specs.States.{states_in, build_at}
use Rattle.ang_engine_modules.specs.World.{left_to}
use Rattle.ang_engine_modules.proofs.Keeping.{same_modules}
use Rattle.ang_engine.specs.Applied.{Applied}
use Rattle.ang_engine.specs.Engines.{list_in, registrations, world_in, drivers_in, last_build, builds_in}
use Rattle.ang_engine.specs.Limited.{StaysWithin}
use Rattle.ang_engine.specs.Replies.{reply_in}
use Rattle.ang_engine.specs.Step.{list_after}
use Rattle.ang_engine.specs.Sound.{IsBuiltBy, HaveDrivers}
use Rattle.ang_engine.specs.Prepared.{HaveMoved, replaced}
use Rattle.ang_engine.proofs.engine.Engine.finish.Goals as goal

-- a command that has begun is over the same world
pub dispatch-finished-requires : goal.dispatch-finished-requires
dispatch-finished-requires g c =
    let R = registrations c.args.self.now in
    let x = c.args.self.now.modules in
    let globals = subst (λ gs. HaveGlobals x gs) (sym (ap (λ s. values_in s.globals) c.begin_command.ensures.set)) c.requires.sound.globals in
    record {
      sound = record {
        modules = same_modules (IsBuiltBy R) x (record x { failed = c.forget_failed.new.failed }) refl refl refl c.requires.sound.modules;
        globals = record { count = globals.count; none = globals.none };
        in_list = subst (λ bs. HaveDrivers R (length bs)) (sym (ap (λ s. members s.drivers) c.begin_command.ensures.set)) c.requires.sound.in_list;
        kept = c.begin_command.ensures.kept;
        counted = subst (λ w. IsCounted [] w) (sym c.begin_command.ensures.world) c.requires.sound.counted;
        numbered = record { begun = c.requires.sound.numbered.begun };
      };
    }

pub returns-clause-applied : goal.returns-clause-applied
returns-clause-applied g c =
    let R = list_in c.args.self.now in
    let x = c.args.self.now.modules in
    let after = c.dispatch-finished.new.self in
    subst (λ s. Applied (λ v. (g.dyn-1.0.entry v).1) R (left_to (states_in x) (world_of (λ v. (g.dyn-1.0.entry v).1) s)) (members s.drivers) c.args.command (reply_in c.dispatch-finished.result) (world_in (λ v. (g.dyn-1.0.entry v).1) after) (drivers_in after))
    c.begin_command.ensures.set c.dispatch-finished.ensures.applied

pub returns-clause-within : goal.returns-clause-within
returns-clause-within g c =
    let kept = subst (λ s. StaysWithin (λ v. (g.dyn-1.0.entry v).1) s (reply_in c.dispatch-finished.result).events c.dispatch-finished.new.self.machine.store) c.begin_command.ensures.set c.dispatch-finished.ensures.within in
    record { limits = kept.limits; limited = kept.limited }

pub returns-clause-sound : goal.returns-clause-sound
returns-clause-sound g c =
    let s = c.dispatch-finished.ensures.sound in
    record { modules = s.modules; globals = s.globals; in_list = s.in_list; kept = s.kept; counted = s.counted; numbered = s.numbered }

pub returns-clause-heard : goal.returns-clause-heard
returns-clause-heard g c = c.dispatch-finished.ensures.heard

pub returns-clause-list : goal.returns-clause-list
returns-clause-list g c =
    let R = list_in c.args.self.now in
    let x = c.args.self.now.modules in
    let after = c.dispatch-finished.new.self in
    subst (λ s. list_in after ≡ list_after R (left_to (states_in x) (world_of (λ v. (g.dyn-1.0.entry v).1) s)) c.args.command)
    c.begin_command.ensures.set c.dispatch-finished.ensures.list

pub returns-clause-no_trace : goal.returns-clause-no_trace
returns-clause-no_trace g c = c.end_last-ticks.ensures.frames

pub returns-clause-ticks : goal.returns-clause-ticks
returns-clause-ticks g c = subst (λ n. c.end_last-ticks.result ≤ n) c.budget_of-budget.ensures.exact c.end_last-ticks.ensures.within

pub returns-clause-no_ticks : goal.returns-clause-no_ticks
returns-clause-no_ticks g c = c.end_last-ticks.ensures.none

pub returns-clause-prepared : goal.returns-clause-prepared
returns-clause-prepared g c =
    let x = c.args.self.now.modules in
    let after = c.dispatch-finished.new.self in
    subst (λ s. HaveMoved (replaced c.args.command c.dispatch-finished.result.outcome (left_to (states_in x) (world_of (λ v. (g.dyn-1.0.entry v).1) s))) x.builds (build_at x.places.items) (last_build after) (builds_in after))
    c.begin_command.ensures.set c.dispatch-finished.ensures.prepared
