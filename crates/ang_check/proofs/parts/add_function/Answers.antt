use Rattle.std.proofs.Common.{rules, ◌≡◌, ◌∙◌, ◌∷◌, length, refl, None}
use Rattle.ang_tree.specs.View.{view_params, view_body}
use Rattle.ang_check.proofs.Lists.{empty_is, on_ok}
use Rattle.ang_check.proofs.JudgedParts.{context_is, function_unknown, function_judged}
use Rattle.ang_check.proofs.parts.add_function.Goals as goal

pub returns-in_default : goal.returns-in_default
returns-in_default c =
    let f = c.args.written.now in
    let short : length c.args.left.now.functions.now ≡ 0 = search rules in record {
      judged = function_unknown c.args.build.now.view.now c.args.build.now.names.now c.args.left.now c.args.found.now c.args.text.now
          f.result f.name (view_params f.parameters) (view_body f.body) (empty_is c.args.left.now.functions.now short);
    }

pub returns : goal.returns
returns c =
    let V = c.args.build.now.view.now in
    let names = c.args.build.now.names.now in
    let f = c.args.written.now in
    let split : c.args.left.now.functions.now ≡ c.in-Some.function.now ∷ c.in-Some.rest.now = search rules in
    let is = context_is V names c.new-context.result c.args.text.now None c.new-context.ensures.view c.new-context.ensures.names
    (c.new-context.ensures.ancestors ∙ c.requires.ancestors) c.new-context.ensures.text c.new-context.ensures.within in record {
      judged = on_ok c.note_function.result (λ noted.
          function_judged V names c.args.left.now (record { functions = c.in-Some.rest; globals = c.args.left.now.globals; families = c.args.left.now.families })
          c.args.found.now c.note_function.new.found c.in-Some.function.now c.new-context.result c.args.text.now
          f.result f.name (view_params f.parameters) (view_body f.body) split refl refl is
          (noted _ c.function_typing-typed.ensures.exact)) c.note_function.ensures.noted;
    }
