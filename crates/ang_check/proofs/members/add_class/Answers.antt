use Rattle.std.proofs.Common.{rules, ◌≡◌, subst, map as list_map}
use Rattle.ang_tree.specs.View.{view_member}
use Rattle.ang_check.specs.declared.members.MembersLeft.{MembersLeft}
use Rattle.ang_check.specs.Judging.{JudgesMembers}
use Rattle.ang_check.proofs.Lists.{on_ok}
use Rattle.ang_check.proofs.ClassMembers.{class_added}
use Rattle.ang_check.proofs.members.add_class.Goals as goal

pub returns : goal.returns
returns c =
    let V = c.args.build.now.view.now in
    let names = c.args.build.now.names.now in
    let class = c.class_of-class.result in
    let w = c.args.written.now in
    let l : MembersLeft = record { methods = c.as_slice.result; constructors = c.as_slice-2.result } in
    let same : c.as_slice-3.result.now ≡ w.members.items = search rules in record {
      judged = on_ok c.add_members.result (λ members.
          class_added V names class c.args.number c.args.text.now c.args.family.now w.name w.bases.items (list_map view_member w.members.items)
          l c.add_members.new.left c.args.found.now c.add_default.new.found c.add_members.new.found
          c.class_of-class.ensures.number c.class_of-class.ensures.text c.class_of-class.ensures.base c.class_of-class.ensures.name
          c.as_slice.ensures.same c.as_slice-2.ensures.same c.in_ok-add_default.ensures.judged
          (λ g own bases is. subst (λ ms. JudgesMembers V names class g own bases l c.add_members.new.left c.add_default.new.found c.add_members.new.found (list_map view_member ms))
          same (members g own bases is))
          c.requires.there) c.add_members.ensures.judged;
    }
