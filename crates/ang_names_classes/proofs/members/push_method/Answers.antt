use Rattle.std.specs.Prelude.{◌≡◌}
use Rattle.std.proofs.Common.{rules}
use Rattle.ang_names_listed.specs.declared.listed.MemberKind.TheVariants as member
use Rattle.ang_names_classes.specs.Headings.{heading_of}
use Rattle.ang_names_classes.proofs.Numbered.{one_method}
use Rattle.ang_names_classes.proofs.members.push_method.Goals as goal

pub returns-in_ok-push-in-Method : goal.returns-in_ok-push-in-Method
returns-in_ok-push-in-Method c =
    let E = c.args.space.now in
    let d = c.args.family.now in
    let m = c.args.member.now in
    let kind : m.kind ≡ member.Method c.in-Method.result c.in-Method.params c.in-Method.attributes = search rules in
    let heading : c.in_ok-function-in-Method.function ≡ heading_of E d.origin d.text m.name c.in-Method.result c.in-Method.params = search rules in
    record {
      pushed =
          one_method E c.args.signatures.now d m c.args.body c.in-Method.result c.in-Method.params c.in-Method.attributes m.kind c.in_ok-function-in-Method.function
          c.in_ok-method-in-Method.method c.args.found.now.items c.push.new.self.items kind heading c.in_ok-method-in-Method.ensures.exact c.in_ok-push-in-Method.ensures.items;
    }
