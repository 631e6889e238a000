use Rattle.std.proofs.Common.{◌≡◌, ◌∙◌, ap, map as list_map, rules}
use Rattle.std.proofs.lemmas.Result.{IfOk-weaker}
use Rattle.ang_engine_modules.specs.Joining.{classes_with, parts_in, parts_of}
use Rattle.ang_engine_modules.specs.Loaded.{class_of}
use Rattle.ang_engine_modules.specs.Trees.{classes_from}
use Rattle.ang_engine_modules.proofs.Joining.{with_own}
use Rattle.ang_engine_modules.proofs.classes.classes_of.Goals as goal

pub returns : goal.returns
returns c =
    let own : list_map parts_in c.in_ok-parts.parts.items ≡ list_map (parts_of c.args.home c.args.classes.items) c.args.classes.items = search rules in
    record {
      exact =
          IfOk-weaker _ (λ codes. list_map class_of codes.items ≡ classes_with 0 c.args.classes.items (list_map parts_in c.in_ok-parts.parts.items))
          (λ codes. list_map class_of codes.items ≡ classes_from c.args.home c.args.classes.items 0 c.args.classes.items)
          (λ codes is. is ∙ ap (classes_with 0 c.args.classes.items) own ∙ with_own c.args.home c.args.classes.items 0 c.args.classes.items)
          c.codes_with.ensures.exact;
    }
