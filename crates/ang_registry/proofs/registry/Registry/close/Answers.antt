use Rattle.std.proofs.Common.{◌≡◌, length, arith, ap, ◌∙◌}
use Rattle.ang_registry.specs.Groups.{ended_at}
use Rattle.ang_registry.proofs.Grouping.{groups_written}
use Rattle.ang_registry.proofs.registry.Registry.close.Goals as goal

pub invariant_of-self : goal.invariant_of-self
invariant_of-self c =
    let s = c.self.inside in
    let long : s.groups.len ≡ length s.groups.items = s.groups.ok.0 in (
      c.self.invariant.0,
      c.self.invariant.1,
      groups_written s.list _ s.groups.len s.groups.items c.end_last.new.groups (c.end_last.ensures.ended ∙ ap (ended_at _) c.as_mut_slice.ensures.value) c.len-after.ensures.exact long c.self.invariant.2,
    )
