use Rattle.std.proofs.Common.{◌≡◌, false, length, arith, ap, ◌∙◌}
use Rattle.std.specs.Prelude.{slice_index_or}
use Rattle.ang_view.proofs.Keeping.{length-only}
use Rattle.ang_view.proofs.view.kept_of.Goals as goal

pub view_with-requires : goal.view_with-requires
view_with-requires c =
    let entries = c.entries.result.now in
    let few = c.entries.ensures.most in
    let as_many : length c.in_ok-view.view.items ≡ length entries =
    ap length c.in_ok-view.ensures.exact ∙ length-only (λ n. slice_index_or c.args.marks.now n false) entries in
    record { few = omega (arith, as_many, few) }
