use Rattle.std.proofs.Common.{◌≡◌, ◌<◌, length, arith, sym, ap, ◌∙◌, subst}
use Rattle.ang_view.specs.Values.{TakesValues}
use Rattle.ang_view.proofs.Keeping.{length-only, only_values}
use Rattle.ang_registry.specs.Registrations.{Registrations, AreGroups}
use Rattle.ang_registry.proofs.Grouping.{got, removed_at, within_left}
use Rattle.ang_registry.proofs.registry.Registry.remove_at.Goals as goal

pub invariant_of-self : goal.invariant_of-self
invariant_of-self c =
    let s = c.self.inside in
    let list = c.blank.new.self in
    let same : length s.groups.items ≡ length c.args.self.now.groups = ap (λ (r : Registrations). length r.groups) c.self.view_is in
    let at : c.args.place < length s.groups.items = omega (arith, same, c.requires.there) in
    let long : length list ≡ length s.list = ap length c.blank.ensures.blanked ∙ length-only _ s.list in (
      omega (arith, long, c.self.invariant.0),
      subst TakesValues (sym c.blank.ensures.blanked) (only_values _ s.list c.self.invariant.1),
      subst (AreGroups list) (sym c.remove-group.ensures.items) (within_left s.list list s.groups.items c.args.place at (sym long) c.self.invariant.2),
    )

pub returns : goal.returns
returns c =
    let s = c.self.inside in
    let same : length s.groups.items ≡ length c.args.self.now.groups = ap (λ (r : Registrations). length r.groups) c.self.view_is in
    let at : c.args.place < length s.groups.items = omega (arith, same, c.requires.there) in
    let group = c.remove-group.result in
    record {
      removed =
          removed_at _ c.args.self.now _ group c.args.place c.self.view_is (got s.groups.items c.args.place group at c.remove-group.ensures.value) (λ i. record {
            default_mask = s.default_mask;
            entries = c.blank.ensures.blanked i;
            groups = c.remove-group.ensures.items i;
            is_open = s.is_open;
          });
    }
