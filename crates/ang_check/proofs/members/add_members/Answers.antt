use Rattle.ang_tree.specs.View.{view_member}
use Rattle.ang_check.proofs.ClassMembers.{members_turn, members_all}
use Rattle.ang_check.proofs.members.add_members.Goals as goal

pub loop-member-preserved : goal.loop-member-preserved
loop-member-preserved c = λ f own bases is.
    members_turn c.args.build.now.view.now c.args.build.now.names.now c.args.class.now f own bases view_member c.args.members.now
    c.loop-member.member-index c.member-item.result _ _ _ _ _ _
    (c.loop-member.invariant f own bases is) c.loop-member-test.true c.member-item.is (c.in_ok-add_member.ensures.judged f own bases is)

pub returns : goal.returns
returns c = record {
  judged = λ f own bases is.
      members_all c.args.build.now.view.now c.args.build.now.names.now c.args.class.now f own bases view_member c.args.members.now
      c.loop-member.member-index _ _ _ _ (c.loop-member.invariant f own bases is) c.loop-member-test.false;
}
