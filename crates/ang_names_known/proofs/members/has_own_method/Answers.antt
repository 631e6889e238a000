use Rattle.std.proofs.Common.{not, ap, ◌∙◌}
use Rattle.std.specs.Prelude.{slice_get}
use Rattle.ang_names_known.proofs.MembersByPlace.{any_method_is}
use Rattle.ang_names_known.proofs.members.has_own_method.Goals as goal

pub returns : goal.returns
returns c =
    let n = c.args.family in
    let name = c.args.name.now in
    record {
      exact = ap not c.is_empty.ensures ∙ any_method_is (slice_get c.args.families.now n) n name c.find.result.now (c.find.ensures.exact ∙ c.requires.indexed n name);
    }
