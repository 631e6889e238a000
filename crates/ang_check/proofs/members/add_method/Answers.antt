use Rattle.std.proofs.Common.{rules, ◌≡◌, ◌∙◌, ◌∷◌, length, refl, Some}
use Rattle.ang_tree.specs.View.{view_params, view_body}
use Rattle.ang_check.specs.Bodies.{within_of}
use Rattle.ang_check.proofs.Lists.{empty_is, on_ok}
use Rattle.ang_check.proofs.JudgedParts.{context_is}
use Rattle.ang_check.proofs.ClassMembers.{method_unknown, method_judged}
use Rattle.ang_check.proofs.members.add_method.Goals as goal

pub returns-in_default : goal.returns-in_default
returns-in_default c =
    let w = c.args.written.now in
    let short : length c.args.left.now.methods.now ≡ 0 = search rules in record {
      judged = λ f own bases is.
          method_unknown c.args.build.now.view.now c.args.build.now.names.now c.args.class.now f own bases c.args.left.now c.args.found.now
          w.access w.result w.name (view_params w.parameters) w.constant w.attributes.items (view_body w.body) is (empty_is c.args.left.now.methods.now short);
    }

pub returns : goal.returns
returns c =
    let V = c.args.build.now.view.now in
    let names = c.args.build.now.names.now in
    let class = c.args.class.now in
    let w = c.args.written.now in
    let m = c.in-Some.method.now in
    let in_class = within_of V names class.number m.read_only in
    let split : c.args.left.now.methods.now ≡ m ∷ c.in-Some.rest.now = search rules in
    let context = context_is V names c.new-context.result class.text.now (Some in_class) c.new-context.ensures.view c.new-context.ensures.names
    (c.new-context.ensures.ancestors ∙ c.requires.ancestors) c.new-context.ensures.text c.new-context.ensures.within in record {
      judged = on_ok c.note_member.result (λ noted f own bases is.
          method_judged V names class f own bases c.args.left.now (record { methods = c.in-Some.rest; constructors = c.args.left.now.constructors })
          c.args.found.now c.note_member.new.found m in_class c.new-context.result
          w.access w.result w.name (view_params w.parameters) w.constant w.attributes.items (view_body w.body) is split refl refl context
          (noted _ c.method_typing-typed.ensures.exact)) c.note_member.ensures.noted;
    }
