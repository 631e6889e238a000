use Rattle.std.proofs.Common.{rules, ◌≡◌, ◌∙◌, ◌∷◌, length, refl, None}
use Rattle.ang_tree.specs.View.{view_var}
use Rattle.ang_check.proofs.Lists.{empty_is, on_ok}
use Rattle.ang_check.proofs.JudgedParts.{context_is, global_unknown, global_judged}
use Rattle.ang_check.proofs.parts.add_global.Goals as goal

pub returns-in_default : goal.returns-in_default
returns-in_default c =
    let short : length c.args.left.now.globals.now ≡ 0 = search rules in record {
      judged = global_unknown c.args.build.now.view.now c.args.build.now.names.now c.args.left.now c.args.found.now c.args.text.now
          c.args.declared.now (view_var c.args.variable.now) (empty_is c.args.left.now.globals.now short);
    }

pub returns : goal.returns
returns c =
    let V = c.args.build.now.view.now in
    let names = c.args.build.now.names.now in
    let split : c.args.left.now.globals.now ≡ c.in-Some.global.now ∷ c.in-Some.rest.now = search rules in
    let is = context_is V names c.new-context.result c.args.text.now None c.new-context.ensures.view c.new-context.ensures.names
    (c.new-context.ensures.ancestors ∙ c.requires.ancestors) c.new-context.ensures.text c.new-context.ensures.within in record {
      judged = on_ok c.note_global.result (λ noted.
          global_judged V names c.args.left.now (record { functions = c.args.left.now.functions; globals = c.in-Some.rest; families = c.args.left.now.families })
          c.args.found.now c.note_global.new.found c.in-Some.global.now c.new-context.result c.args.text.now
          c.args.declared.now (view_var c.args.variable.now) split refl refl is
          (noted _ c.global_typing-typed.ensures.exact)) c.note_global.ensures.noted;
    }
