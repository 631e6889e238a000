use Rattle.std.proofs.Common.{rules, ◌≡◌, ◌∙◌, ◌∷◌, ap, sym, length, refl, map as list_map}
use Rattle.std.specs.Prelude.{option_copied, slice_get}
use Rattle.ang_tree.specs.View.{view_member}
use Rattle.ang_check.proofs.Lists.{empty_is, on_ok}
use Rattle.ang_check.proofs.JudgedParts.{class_unknown, class_judged}
use Rattle.ang_check.proofs.parts.add_next_class.Goals as goal

pub returns-in_default : goal.returns-in_default
returns-in_default c =
    let w = c.args.written.now in
    let short : length c.args.left.now.families.now ≡ 0 = search rules in record {
      judged = class_unknown c.args.build.now.view.now c.args.build.now.names.now c.args.left.now c.args.found.now c.args.text.now
          w.final_word w.word w.name w.bases.items w.open (list_map view_member w.members.items) w.close (empty_is c.args.left.now.families.now short);
    }

pub add_class-requires-clause-there : goal.add_class-requires-clause-there
add_class-requires-clause-there c =
    sym (ap (λ fs. slice_get fs c.class_number-number.result) c.families.ensures.same)
    ∙ sym c.family_of.ensures.exact ∙ ap option_copied c.in-Some-family_of.is

pub returns : goal.returns
returns c =
    let w = c.args.written.now in
    let split : c.args.left.now.families.now ≡ c.in-Some.field-0-0.now ∷ c.in-Some.rest.now = search rules in record {
      judged = on_ok c.add_class.result (λ added.
          class_judged c.args.build.now.view.now c.args.build.now.names.now c.args.left.now
          (record { functions = c.args.left.now.functions; globals = c.args.left.now.globals; families = c.in-Some.rest })
          c.args.found.now c.add_class.new.found c.class_number-number.result c.in-Some.field-0-0.now c.args.text.now
          w.final_word w.word w.name w.bases.items w.open (list_map view_member w.members.items) w.close
          c.class_number-number.ensures.exact split refl refl added) c.add_class.ensures.judged;
    }
