use Rattle.std.proofs.Common.{◌≡◌, length, arith, ap, ◌∙◌}
use Rattle.ang_view.specs.Hidden.{hidden_entry}
use Rattle.ang_view.proofs.Lists.{length-map}
use Rattle.ang_view.proofs.view.hidden_of.Goals as goal

pub view_with-requires : goal.view_with-requires
view_with-requires c =
    let entries = c.entries.result.now in
    let few = c.entries.ensures.most in
    let as_many : length c.in_ok-view.view.items ≡ length entries =
    ap length c.in_ok-view.ensures.exact ∙ length-map (hidden_entry c.args.list.now c.args.mask.0) entries in
    record { few = omega (arith, as_many, few) }
