use Rattle.std.proofs.Common.{sym, subst}
use Rattle.ang_names_known.specs.Kinds.{AreRows}
use Rattle.ang_check_contest.specs.EntryKinds.{view_params}
use Rattle.ang_check_contest.proofs.known_view.KnownView.known_entries.Goals as goal

pub invariant_of-result : goal.invariant_of-result
invariant_of-result c =
    let inside = c.self.inside in
    subst (λ kinds. AreRows kinds inside.rows (view_params inside.view.now)) (sym c.as_slice.ensures.value) c.self.invariant
