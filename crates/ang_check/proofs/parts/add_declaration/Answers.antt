use Rattle.std.proofs.Common.{ap, sym, subst, ◌∷◌, [], map as list_map}
use Rattle.ang_tree.specs.View.{view_decl, view_method}
use Rattle.ang_check.specs.Judging.{Judges}
use Rattle.ang_check.proofs.JudgedParts.{interface_judged}
use Rattle.ang_check.proofs.parts.add_declaration.Goals as goal

pub returns-in-Interface : goal.returns-in-Interface
returns-in-Interface c =
    let V = c.args.build.now.view.now in
    let names = c.args.build.now.names.now in
    let w = c.in-Interface.field-0.value in record {
      judged = subst (λ d. Judges V names c.args.left.now c.skip_family.new.left c.args.found.now c.args.found.now ((c.args.text.now, d) ∷ []))
          (sym (ap view_decl c.in-Interface.is))
          (interface_judged V names c.args.left.now c.skip_family.new.left c.args.found.now c.args.text.now
          w.word w.name w.bases.items w.open (list_map view_method w.methods.items) w.close
          c.skip_family.ensures.families c.skip_family.ensures.functions c.skip_family.ensures.globals);
    }
