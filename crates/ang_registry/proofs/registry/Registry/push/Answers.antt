use Rattle.std.proofs.Common.{length, arith, length-append, ◌∷◌, ◌++◌, [], ap}
use Rattle.ang_registry.specs.Registrations.{Registrations}
use Rattle.ang_registry.proofs.Grouping.{within_more}
use Rattle.ang_registry.proofs.Values.{last_takes}
use Rattle.ang_registry.proofs.registry.Registry.push.Goals as goal

pub invariant_of-self-2 : goal.invariant_of-self-2
invariant_of-self-2 c =
    let same = ap (λ (r : Registrations). length r.entries) c.self.view_is in (
      rw c.in_ok-push.ensures.pushed (omega (arith, same, c.requires.room, length-append c.self.inside.list (c.args.entry ∷ []))),
      rw c.in_ok-push.ensures.pushed (last_takes _ _ c.self.invariant.1 c.requires.values),
      rw c.in_ok-push.ensures.pushed
          (within_more c.self.inside.list (c.self.inside.list ++ c.args.entry ∷ []) c.self.inside.groups.items (omega (arith, length-append c.self.inside.list (c.args.entry ∷ []))) c.self.invariant.2),
    )
