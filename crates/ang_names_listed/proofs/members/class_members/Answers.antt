use Rattle.ang_tree.specs.View.{view_member}
use Rattle.ang_names_listed.proofs.Lists.{flat_map_turn}
use Rattle.ang_names_listed.specs.Declarations.{members_by}
use Rattle.ang_names_listed.proofs.members.class_members.Goals as goal

pub loop-member-preserved : goal.loop-member-preserved
loop-member-preserved c =
    flat_map_turn members_by view_member c.args.written.now c.loop-member.member-index c.member-item.result c.loop-member.found.items _
    c.loop-member.invariant c.loop-member-test.true c.member-item.is c.in_ok-list_member.ensures.listed
