use Rattle.std.specs.Prelude.{◌≡◌, ◌+◌, length}
use Rattle.std.proofs.Common.{rules, ap}
use Rattle.ang_names_classes.proofs.Numbered.{field_number, next_fields}
use Rattle.ang_names_classes.proofs.members.fields_of.Goals as goal

pub loop-member-preserved : goal.loop-member-preserved
loop-member-preserved c =
    let count : c.len.result ≡ length c.loop-member.found.items = search rules in
    let number = ap (λ n. length c.args.inherited.now + n) count in (
      next_fields c.args.space.now c.args.family.now (length c.args.inherited.now) _ c.loop-member.member-index c.member-item.result (length c.args.inherited.now + c.len.result) c.loop-member.found.items _
          number c.loop-member.invariant.1 c.loop-member.invariant.0 c.loop-member-test.true c.member-item.is c.in_ok-push_field.ensures.pushed,
      field_number c.args.space.now c.args.family.now _ c.loop-member.member-index c.member-item.result (length c.args.inherited.now + c.len.result) c.loop-member.found.items _
          c.loop-member.invariant.1 c.loop-member-test.true c.member-item.is c.in_ok-push_field.ensures.pushed,
    )
