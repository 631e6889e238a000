use Rattle.std.specs.Prelude.{All, length}
use Rattle.std.proofs.Common.{sym, subst}
use Rattle.ang_host.specs.Heads.{IsWithin}
use Rattle.ang_host.proofs.Listing.{within_added}
use Rattle.ang_host.proofs.kept.KeptEvents.push_end.Goals as goal

pub invariant_of-self : goal.invariant_of-self
invariant_of-self c =
    subst (λ hs. All (IsWithin (length c.self.inside.names.items) (length c.self.inside.values.items)) hs) (sym c.push_reserved.ensures.items) (within_added _ _ _ _ c.self.invariant (c.of_end.ensures.within _ _))
