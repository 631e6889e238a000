use Rattle.std.specs.Prelude.{◌≡◌, ◌+◌, length}
use Rattle.std.proofs.Common.{rules, ap}
use Rattle.ang_names_classes.proofs.Numbered.{body_next, next_methods}
use Rattle.ang_names_classes.proofs.members.methods_of.Goals as goal

pub loop-member-preserved : goal.loop-member-preserved
loop-member-preserved c =
    let count : c.len.result ≡ length c.loop-member.bodies.items = search rules in
    let body = ap (λ n. length c.args.before.now + n) count in (
      next_methods c.args.space.now c.args.signatures.now c.args.family.now (length c.args.before.now) _ c.loop-member.member-index c.member-item.result (length c.args.before.now + c.len.result) (length c.loop-member.bodies.items)
          c.loop-member.found.items _ body c.loop-member.invariant.1 c.loop-member.invariant.0 c.loop-member-test.true c.member-item.is c.in_ok-push_method.ensures.pushed,
      body_next c.args.family.now.shape.is_class _ c.loop-member.member-index c.member-item.result (length c.loop-member.bodies.items) _
          c.loop-member.invariant.1 c.loop-member-test.true c.member-item.is c.in_ok-add_body.ensures.exact,
    )
