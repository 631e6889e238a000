use Rattle.std.proofs.Common.{take, List, map as list_map}
use Rattle.ang_lex.specs.declared.token.Token.{Token}
use Rattle.ang_tree.specs.View.{view_member}
use Rattle.ang_tree.specs.declared.declaration.BaseName.{BaseName}
use Rattle.ang_names_known.specs.declared.names.Family.{Family}
use Rattle.ang_check.specs.Judging.{IsOf, JudgesMembers}
use Rattle.ang_check.proofs.members.add_members.Given as goal

abbrev pub invariant-loop-member : goal.invariant-loop-member
invariant-loop-member l =
    (f : Family) (own : Token) (bases : List BaseName) → IsOf l.build.view.now l.build.names.now l.class f own bases
    → JudgesMembers l.build.view.now l.build.names.now l.class f own bases l.initial.left l.left l.initial.found l.found
    (list_map view_member (take l.member-index l.members))
