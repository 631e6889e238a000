use Rattle.std.specs.Prelude.{◌≡◌, [], length, IfOk}
use Rattle.std.proofs.Common.{rules, ap, subst, ◌∙◌}
use Rattle.ang_names_known.specs.Items.{each_after}
use Rattle.ang_names_classes.specs.Resolved.{fields_after, inherited_fields}
use Rattle.ang_names_classes.proofs.families.own_fields.Goals as goal

pub returns : goal.returns
returns c =
    let E = c.args.space.now in
    let d = c.args.family.now in
    let lent : c.deref.result.now ≡ c.in_ok-inherited.inherited.items = search rules in
    let count : length c.deref.result.now ≡ inherited_fields E c.args.families.now c.args.number = ap length lent ∙ c.in_ok-inherited.ensures.exact E in
    record { exact = subst (λ n. IfOk c.fields_of.result (λ fs. fs ≡ each_after (fields_after E d n) [] d.shape.members)) count c.fields_of.ensures.exact }
