use Rattle.std.specs.Prelude.{IfSome, option_copied}
use Rattle.std.proofs.Common.{sym, subst}
use Rattle.ang_check_denials.specs.Masked.{Masked}
use Rattle.ang_check_denials.specs.Telling.{AreCandidateSets}
use Rattle.ang_check_denials.proofs.Winners.{sets_tell}
use Rattle.ang_check_denials.proofs.masked.Masked.sets.Goals as goal

pub returns : goal.returns
returns c =
    let inside = c.self.inside in
    let n = inside.numbered in
    record {
      tell =
          subst (λ (k : Masked). IfSome (option_copied c.as_ref.result) (AreCandidateSets k.list k.kinds)) c.self.view_is
          (subst (λ o. IfSome o (AreCandidateSets inside.whole.now n.kinds.items)) (sym c.as_ref.ensures.value)
          (sets_tell inside.whole.now n.kinds.items n.rows n.sets c.self.invariant.2 c.self.invariant.8));
    }
