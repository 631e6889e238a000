use Rattle.std.proofs.Common.{rules, refl, ◌≡◌, length}
use Rattle.ang_host.specs.Boxes.{members}
use Rattle.ang_engine.specs.Sound.{HaveDrivers}
use Rattle.asrun_session.specs.Drivers.{NoDriver}
use Rattle.asrun_session.specs.Whole.{start_by, list_begun}
use Rattle.ang_engine.specs.Roles.{roles_of}
use Rattle.asremote.proofs.Talking.{talks_taken, stops_taken, talks_refused, stops_refused, stops_untouched}
use Rattle.asremote.proofs.conversation.run_engine.Goals as goal
use Rattle.asremote.proofs.conversation.run_engine.Goals.{in-NoDriver, in-Memory}

pub returns-in-Ok : goal.returns-in-Ok
returns-in-Ok g c = record {
  done =
      talks_taken (λ v. (g.dyn-1.0.entry v).1) c.args.budget _ _ _ _ (start_by (list_begun c.args.profile.registry) c.args.profile.limits) _ _ _ _ _ _ _ c.in-Ok.ensures.list c.in-Ok.ensures.world c.in-Ok.ensures.drivers c.requires.listed c.in-Ok.ensures.sound.in_list refl
      (c.discard.ensures.ended (roles_of c.args.profile.registry.entries)) (record { balanced = c.discard.ensures.balanced; fresh = c.discard.ensures.fresh })
      c.run_turns-ended.result c.run_turns-ended.ensures.done;
  cut =
      stops_taken (λ v. (g.dyn-1.0.entry v).1) c.args.budget _ _ _ _ (start_by (list_begun c.args.profile.registry) c.args.profile.limits) _ _ _ _ _ _ _ c.in-Ok.ensures.list c.in-Ok.ensures.world c.in-Ok.ensures.drivers c.requires.listed c.in-Ok.ensures.sound.in_list refl
      (c.discard.ensures.ended (roles_of c.args.profile.registry.entries)) (record { balanced = c.discard.ensures.balanced; fresh = c.discard.ensures.fresh })
      c.run_turns-ended.result c.run_turns-ended.ensures.cut;
}

pub returns-after-why : goal.returns-after-why
returns-after-why g c = elim c.match-why.branch [
  | in-NoDriver w ↦
      let no : HaveDrivers c.args.profile.registry.entries (length (members c.args.drivers)) → ⊥ = search rules in
      let back : c.into_boxes.result.items ≡ members c.args.drivers = search rules in
      record {
        done =
            rw (w.ended-is, w.writer-is) (talks_refused (λ v. (g.dyn-1.0.entry v).1) c.args.budget _ _ (g.W.Write.contents c.args.writer.now) (g.W.Write.contents w.print_no_driver-ended.new.writer) (start_by (list_begun c.args.profile.registry) c.args.profile.limits) _ _
            NoDriver back (c.requires.listed, no) w.print_no_driver-ended.result w.print_no_driver-ended.ensures.whole w.print_no_driver-ended.ensures.status);
        cut =
            rw (w.ended-is, w.writer-is) (stops_refused (λ v. (g.dyn-1.0.entry v).1) c.args.budget _ _ (g.W.Write.contents c.args.writer.now) (g.W.Write.contents w.print_no_driver-ended.new.writer) (start_by (list_begun c.args.profile.registry) c.args.profile.limits) _ _
            NoDriver back (c.requires.listed, no) w.print_no_driver-ended.result w.print_no_driver-ended.ensures.front);
      }
  | in-Memory w ↦
      let back : c.into_boxes.result.items ≡ members c.args.drivers = search rules in
      record {
        done = rw w.ended-is tt;
        cut =
            rw w.writer-is (stops_untouched (λ v. (g.dyn-1.0.entry v).1) c.args.budget _ _ (g.W.Write.contents c.args.writer.now) (g.W.Write.contents c.args.writer.now) (start_by (list_begun c.args.profile.registry) c.args.profile.limits) _ _
            c.match-why.ended back refl);
      }
]
