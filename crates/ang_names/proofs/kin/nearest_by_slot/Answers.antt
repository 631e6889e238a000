use Rattle.std.specs.Prelude.{◌≡◌}
use Rattle.std.proofs.Common.{ap, subst, ◌∙◌}
use Rattle.ang_names_known.specs.Lookup.{families_at, kin_of}
use Rattle.ang_names.specs.Rows.{first_with_slot}
use Rattle.ang_names.proofs.Nearest.{nearest_known}
use Rattle.ang_names.proofs.kin.nearest_by_slot.Goals as goal

pub returns : goal.returns
returns c =
    let order = c.order_of-order.result.now in
    let class = c.args.class in
    let same = c.families-all.ensures.same in
    let kin = subst (λ gs. families_at gs order ≡ kin_of gs class) same c.order_of-order.ensures.exact in
    record {
      exact = nearest_known c.args.families.now class order c.in_ok-nearest.nearest.items kin
          (λ s lt. c.in_ok-nearest.ensures.exact s lt ∙ ap (λ gs. first_with_slot gs s order) same);
    }
