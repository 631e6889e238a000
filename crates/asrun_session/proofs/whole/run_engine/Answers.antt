use Rattle.std.proofs.Common.{◌≡◌, rules, length, map, ap, [], refl, ◌∙◌}
use Rattle.ang_host.specs.Boxes.{members}
use Rattle.ang_engine.specs.Roles.{roles_of}
use Rattle.ang_engine.specs.Engines.{world_in, drivers_in}
use Rattle.ang_engine.specs.Sound.{HaveDrivers}
use Rattle.asrun_session.specs.Drivers.{NoDriver}
use Rattle.asrun_session.specs.Whole.{start_by, list_begun}
use Rattle.asrun_session.proofs.Taking.{ends_taken, stops_taken, unread_taken, unused, read_refused, read_memory, refused_done, refused_cut, memory_done, memory_cut}
use Rattle.asrun_session.proofs.whole.run_engine.Goals as goal
use Rattle.asrun_session.proofs.whole.run_engine.Goals.{in-NoDriver, in-Memory}

pub returns-in-Ok-clause-done : goal.returns-in-Ok-clause-done
returns-in-Ok-clause-done g c =
    ends_taken (λ v. (g.dyn-1.0.entry v).1) (start_by (list_begun c.args.profile.registry) c.args.profile.limits) _ _ _ _ _ _ _ c.in-Ok.ensures.list c.in-Ok.ensures.world c.in-Ok.ensures.drivers c.requires.listed c.in-Ok.ensures.sound.in_list refl
    (c.discard.ensures.ended (roles_of c.args.profile.registry.entries)) (record { balanced = c.discard.ensures.balanced; fresh = c.discard.ensures.fresh })
    _ _ _ _ _ c.run_text-ended.ensures.done

pub returns-in-Ok-clause-cut : goal.returns-in-Ok-clause-cut
returns-in-Ok-clause-cut g c =
    stops_taken (λ v. (g.dyn-1.0.entry v).1) (start_by (list_begun c.args.profile.registry) c.args.profile.limits) _ _ _ _ _ _ _ c.in-Ok.ensures.list c.in-Ok.ensures.world c.in-Ok.ensures.drivers c.requires.listed c.in-Ok.ensures.sound.in_list refl
    (c.discard.ensures.ended (roles_of c.args.profile.registry.entries)) (record { balanced = c.discard.ensures.balanced; fresh = c.discard.ensures.fresh })
    _ _ _ _ _ c.run_text-ended.ensures.cut

pub returns-in-Ok-clause-order : goal.returns-in-Ok-clause-order
returns-in-Ok-clause-order g c =
    (c.discard.ensures.ended []).kinds ∙ c.run_text-ended.ensures.order ∙ ap (map (λ b. b.vtable)) c.in-Ok.ensures.drivers

pub returns-in-Ok-clause-fault : goal.returns-in-Ok-clause-fault
returns-in-Ok-clause-fault g c =
    unread_taken (λ v. (g.dyn-1.0.entry v).1) (start_by (list_begun c.args.profile.registry) c.args.profile.limits) _ _ _ _ _ _ (λ is.
    unused (λ v. (g.dyn-1.0.entry v).1) (start_by (list_begun c.args.profile.registry) c.args.profile.limits) _ _ _ _ _ _ _ c.in-Ok.ensures.list c.in-Ok.ensures.world c.in-Ok.ensures.drivers c.requires.listed c.in-Ok.ensures.sound.in_list refl
    (c.discard.ensures.ended (roles_of c.args.profile.registry.entries)) (record { balanced = c.discard.ensures.balanced; fresh = c.discard.ensures.fresh })
    (ap (world_in (λ v. (g.dyn-1.0.entry v).1)) is) (ap drivers_in is))
    c.run_text-ended.ensures.fault c.run_text-ended.ensures.unused

pub returns-after-why-clause-read : goal.returns-after-why-clause-read
returns-after-why-clause-read g c = elim c.match-why.branch [
  | in-NoDriver w ↦
      let no : HaveDrivers c.args.profile.registry.entries (length (members c.args.drivers)) → ⊥ = search rules in
      rw w.ended-is (read_refused (λ v. (g.dyn-1.0.entry v).1) c.args.profile.registry.entries (members c.args.drivers) _ NoDriver
      w.print_no_driver-ended.result (c.requires.listed, no))
  | in-Memory w ↦ read_memory _ _ w.ended-is
]

pub returns-after-why-clause-done : goal.returns-after-why-clause-done
returns-after-why-clause-done g c = elim c.match-why.branch [
  | in-NoDriver w ↦
      let no : HaveDrivers c.args.profile.registry.entries (length (members c.args.drivers)) → ⊥ = search rules in
      let back : c.into_boxes.result.items ≡ members c.args.drivers = search rules in
      rw (w.ended-is, w.writer-is) (refused_done (λ v. (g.dyn-1.0.entry v).1) (start_by (list_begun c.args.profile.registry) c.args.profile.limits) _ _ _ _ _ c.args.budget back
      w.print_no_driver-ended.result (c.requires.listed, no) w.print_no_driver-ended.ensures.whole w.print_no_driver-ended.ensures.status)
  | in-Memory w ↦
      let back : c.into_boxes.result.items ≡ members c.args.drivers = search rules in
      memory_done (λ v. (g.dyn-1.0.entry v).1) (start_by (list_begun c.args.profile.registry) c.args.profile.limits) _ _ _ _ _ c.args.budget back _ w.ended-is
]

pub returns-after-why-clause-cut : goal.returns-after-why-clause-cut
returns-after-why-clause-cut g c = elim c.match-why.branch [
  | in-NoDriver w ↦
      let no : HaveDrivers c.args.profile.registry.entries (length (members c.args.drivers)) → ⊥ = search rules in
      let back : c.into_boxes.result.items ≡ members c.args.drivers = search rules in
      rw (w.ended-is, w.writer-is) (refused_cut (λ v. (g.dyn-1.0.entry v).1) (start_by (list_begun c.args.profile.registry) c.args.profile.limits) _ _ _ _ _ c.args.budget back
      w.print_no_driver-ended.result (c.requires.listed, no) w.print_no_driver-ended.ensures.front)
  | in-Memory w ↦
      let back : c.into_boxes.result.items ≡ members c.args.drivers = search rules in
      memory_cut (λ v. (g.dyn-1.0.entry v).1) (start_by (list_begun c.args.profile.registry) c.args.profile.limits) _ _ _ _ _ c.args.budget back _ (search rules)
]
