use Rattle.std.proofs.Common.{◌≡◌, ℕ, IfSome, subst, sym}
use Rattle.ang_types.specs.Marks.{has, is_marked}
use Rattle.ang_types.proofs.rows.push_object_ranks.Goals as goal

pub rank_of_object-requires-clause-marks : goal.rank_of_object-requires-clause-marks
rank_of_object-requires-clause-marks c =
    subst (λ ts. IfSome c.marks-marks.result (λ m. (n : ℕ) → is_marked m.now n ≡ has ts n)) (sym c.types_above-types.ensures.exact) c.marks-marks.ensures.exact
