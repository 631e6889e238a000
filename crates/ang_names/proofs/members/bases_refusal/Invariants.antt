use Rattle.std.proofs.Common.{◌≡◌, drop}
use Rattle.std.specs.Prelude.{false}
use Rattle.ang_names.specs.Refusals.{bases_refusal}
use Rattle.ang_names.proofs.members.bases_refusal.Given as goal

abbrev pub invariant-loop-base : goal.invariant-loop-base
invariant-loop-base l =
    bases_refusal l.families l.text l.is_class false l.bases
    ≡ bases_refusal l.families l.text l.is_class l.has_class (drop l.base-index l.bases)
